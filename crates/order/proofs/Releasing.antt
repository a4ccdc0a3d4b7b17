-- Releasing what stands right above a key, from row to row.
use mathlib.Core.Path.{◌≡◌, sym, subst, ◌∙◌}
use mathlib.Core.Logic.{inl, inr, ⊎_elim, ◌≢◌, ◌↔◌}
use mathlib.Core.List.{List, ◌∷◌}
use Prim.Native.Nat.{ℕ, suc, ◌+◌, ◌-◌, ◌<◌}
use native.Mathlib.Decide.{ℕ_discrete, dec_lt}
use native.Mathlib.Omega.{arith}
use lib.ListN.{length, get_or, set, length-set}
use lib.Seq.{get_or-set_same, get_or-set_other}
use Rattle.ccsk.specs.Numbers.{In}
use Rattle.ccsk.specs.Term.{Key}
use Rattle.ccsk.proofs.Basic.{never}
use Rattle.sound.specs.Sound.{one}
use Rattle.least.specs.Board.{There, Board, Put}
use Rattle.threads.specs.Rows.{Leads, owing, between, Among, Under, Last}
use Rattle.order.specs.Steps.{Scene, State, Taken, Released, fell, came}
use Rattle.threads.proofs.Counting.{between_none, between_yes, between_no, between_skip}

-- what one release comes to
pub release_fell : (n u : ℕ) (counts tree : List ℕ) (v : ℕ) → 0 < get_or counts u 0 → v + 1 ≡ get_or counts u 0 → v ≢ 0 → Released n u counts tree (set counts u v) tree
release_fell n u counts tree v h e f = fell v (omega arith) (omega arith)

pub release_came : (n u : ℕ) (counts tree : List ℕ) (v : ℕ) (tree' : List ℕ) → v + 1 ≡ get_or counts u 0 → v ≡ 0 → Put n u tree tree' → Released n u counts tree (set counts u v) tree'
release_came n u counts tree v tree' e f P = came v (omega arith) f P

module _ {n : ℕ} {keys ups olds heads : List ℕ} (c : Scene n keys ups olds heads) where
  -- different numbers have different keys
  pub same_number : (r s : ℕ) → r < n → s < n → get_or keys r 0 ≡ get_or keys s 0 → r ≡ s
  same_number r s h g e = pick (dec_lt r s) (dec_lt s r)
    where
      pick : Dec (r < s) → Dec (s < r) → r ≡ s
      pick (yes a) b = absurd (omega (arith, c.rising r s a g))
      pick (no a) (yes b) = absurd (omega (arith, c.rising s r b h))
      pick (no a) (no b) = omega arith

  module _ (out : List Key) (r i : ℕ) (counts tree : List ℕ) (T : Taken c out r i counts tree) (h : 0 < i) where
    abbrev key : Key
    key = get_or keys r 0

    abbrev here : Under (Among n keys) c.us c.ls (get_or keys r 0) i
    here = ⊎_elim (never h) (λ z. z) T.here

    -- the number of the upper key of the row
    abbrev u : ℕ
    u = here.1.0

    u_named : get_or ups i 0 ≡ u
    u_named = c.named u i here.1.1 (sym here.1.2)

    pub upper_number : get_or ups i 0 < n
    upper_number = rw u_named here.1.1

    -- the row is counted, for its upper key alone
    counts_here : between c.us c.ls (get_or keys u 0) key (suc i) ≡ suc (between c.us c.ls (get_or keys u 0) key i)
    counts_here = between_yes c.us c.ls (get_or keys u 0) key i here.1.2 (sym here.0)

    counts_other : (q : ℕ) → q < n → q ≢ u → between c.us c.ls (get_or keys q 0) key (suc i) ≡ between c.us c.ls (get_or keys q 0) key i
    counts_other q g e = between_no c.us c.ls (get_or keys q 0) key i (λ z. absurd (e (same_number q u g here.1.1 (z ∙ sym here.1.2))))

    pub upper_counted : 0 < get_or counts (get_or ups i 0) 0
    upper_counted = rw u_named (omega (arith, T.counted u here.1.1, counts_here))

    pub upper_absent : ¬ There n tree (get_or ups i 0)
    upper_absent w = omega (arith, upper_counted, ((T.free (get_or ups i 0) upper_number).0 w).0)

    next : Last (Among n keys) c.us c.ls (get_or keys r 0) i (get_or olds i 0)
    next = c.older r i T.number here

    next_less : get_or olds i 0 < i
    next_less = next.before

    -- no row between this one and the next leads to the key from one that has a number
    passed : (q : ℕ) → q < n → between c.us c.ls (get_or keys q 0) key i ≡ between c.us c.ls (get_or keys q 0) key (suc (get_or olds i 0))
    passed q g = let e : suc (get_or olds i 0) + (i - suc (get_or olds i 0)) ≡ i = omega (arith, next_less) in
        rw e at (between_skip c.us c.ls (get_or keys q 0) key (suc (get_or olds i 0)) (i - suc (get_or olds i 0)) (λ j a b z y. next.none j (omega arith) (omega (arith, e)) (sym y, (q, g, z))))

    -- the upper key is not out
    u_new : ¬ In (get_or keys u 0) (key ∷ out)
    u_new (inl e) = c.acyclic key (one leads)
      where
        leads : Leads c.us c.ls key key
        leads = (i, c.positive r T.number, sym here.1.2 ∙ e, here.0)
    u_new (inr z) = T.new (T.done (get_or keys u 0) key z (i, c.positive u here.1.1, sym here.1.2, here.0))

    -- the counters after the release
    fallen : (v : ℕ) → get_or counts u 0 ≡ suc v → (q : ℕ) → q < n
        → get_or (set counts u v) q 0 ≡ owing c.us c.ls (get_or keys q 0) (key ∷ out) (length c.us) + between c.us c.ls (get_or keys q 0) key (suc (get_or olds i 0))
    fallen v e q g = rw (← passed q g) (pick (ℕ_discrete q u))
      where
        pick : Dec (q ≡ u) → get_or (set counts u v) q 0 ≡ owing c.us c.ls (get_or keys q 0) (key ∷ out) (length c.us) + between c.us c.ls (get_or keys q 0) key i
        pick (yes z) = rw (z, get_or-set_same counts u v 0 (omega (arith, T.long, here.1.1))) (omega (arith, e, T.counted u here.1.1, counts_here))
        pick (no z) = rw (get_or-set_other counts u q v 0 z) (omega (arith, T.counted q g, counts_other q g z))

    abbrev Free : (q : ℕ) → List ℕ → List ℕ → Type 0
    Free q counts' tree' = There n tree' q ↔ ((get_or counts' q 0 ≡ 0) × (¬ In (get_or keys q 0) (key ∷ out)))

    module _ (v : ℕ) (e : get_or counts u 0 ≡ suc v) where
      free_other : (tree' : List ℕ) (q : ℕ) → q < n → q ≢ u → There n tree' q ↔ There n tree q → Free q (set counts u v) tree'
      free_other tree' q g z l = rw (get_or-set_other counts u q v 0 z) ((λ w. (T.free q g).0 (l.0 w)), λ w. l.1 ((T.free q g).1 w))

      free_fell : 0 < v → (q : ℕ) → q < n → Free q (set counts u v) tree
      free_fell p q g = pick (ℕ_discrete q u)
        where
          pick : Dec (q ≡ u) → Free q (set counts u v) tree
          pick (no z) = free_other tree q g z ((λ w. w), λ w. w)
          pick (yes z) = rw (z, get_or-set_same counts u v 0 (omega (arith, T.long, here.1.1)))
              (λ l. absurd (omega (arith, ((T.free u here.1.1).0 l).0, e)), λ l. absurd (omega (arith, l.0)))

      free_came : v ≡ 0 → (tree' : List ℕ) → Put n u tree tree' → (q : ℕ) → q < n → Free q (set counts u v) tree'
      free_came p tree' P q g = pick (ℕ_discrete q u)
        where
          pick : Dec (q ≡ u) → Free q (set counts u v) tree'
          pick (no z) = free_other tree' q g z (P.kept q g z)
          pick (yes z) =
              let f : Free u (set counts u v) tree' = rw (get_or-set_same counts u v 0 (omega (arith, T.long, here.1.1))) (λ l. (p, u_new), λ l. P.here) in
              subst (λ (x : ℕ). Free x (set counts u v) tree') (sym z) f

      taken : (tree' : List ℕ) → Board n tree' → ((q : ℕ) → q < n → Free q (set counts u v) tree') → Taken c out r (get_or olds i 0) (set counts u v) tree'
      taken tree' W f = record {
        number = T.number;
        here = next.there;
        low = omega (arith, next_less, T.low);
        new = T.new;
        ready = T.ready;
        counted = fallen v e;
        board = W;
        free = f;
        inside = T.inside;
        done = T.done;
        long = omega (arith, T.long, length-set counts u v);
      }

    -- one row more
    on : (counts' tree' : List ℕ) → Released n u counts tree counts' tree' → Taken c out r (get_or olds i 0) counts' tree'
    on counts' tree' (fell v e p) = taken v e tree T.board (free_fell v e p)
    on counts' tree' (came v e p P) = taken v e tree' P.board (free_came v e p tree' P)

    pub released_on : (w next : ℕ) → w ≡ get_or ups i 0 → next ≡ get_or olds i 0 → (counts' tree' : List ℕ) → Released n w counts tree counts' tree' → Taken c out r next counts' tree'
    released_on w next e f counts' tree' R = rw f (on counts' tree' (rw (e ∙ u_named) at R))

  -- all rows are done with
  pub released_all : (out : List Key) (r i : ℕ) (counts tree : List ℕ) → Taken c out r i counts tree → i ≡ 0 → State c (get_or keys r 0 ∷ out) counts tree
  released_all out r i counts tree T e = record {
    counted = λ q g. omega (arith, T.counted q g, none q g);
    board = T.board;
    free = T.free;
    inside = λ k z. ⊎_elim (λ y. (r, T.number, sym y)) (T.inside k) z;
    done = λ k m z l. inr (⊎_elim (λ y. T.ready m (rw y at l)) (λ y. T.done k m y l) z);
    long = T.long;
  }
    where
      none : (q : ℕ) → q < n → between c.us c.ls (get_or keys q 0) (get_or keys r 0) (suc i) ≡ 0
      none q g = rw e (between_no c.us c.ls (get_or keys q 0) (get_or keys r 0) 0 (λ z. absurd (omega (arith, c.positive q g, z, c.root))) ∙ between_none c.us c.ls (get_or keys q 0) (get_or keys r 0))
