-- Taking out one key after the other.
use mathlib.Core.Path.{◌≡◌, refl, sym, ap, subst, ◌∙◌}
use mathlib.Core.Logic.{inl, inr, ⊎_elim, ◌↔◌}
use mathlib.Core.List.{List, [], ◌∷◌, ◌++◌, append_assoc, append-nil}
use Prim.Native.Nat.{ℕ, suc, ◌+◌, ◌-◌, ◌≤◌, ◌<◌}
use native.Mathlib.Decide.{ℕ_discrete, dec_lt}
use native.Mathlib.Omega.{arith}
use lib.ListN.{length, get_or, set, drop, length-append}
use Rattle.ccsk.specs.Numbers.{In, in?}
use Rattle.ccsk.specs.Term.{Key}
use Rattle.sound.proofs.Peel.{Peak, peak}
use Rattle.keyset.proofs.Listing.{row_more}
use Rattle.least.specs.Board.{There, Some, Took}
use Rattle.order.specs.Peels.{Free, FirstFree, Peels, end, next}
use Rattle.threads.specs.Rows.{Leads, owing, between, Among}
use Rattle.order.specs.Steps.{Scene, State, Taken, InOrder}
use Rattle.threads.proofs.Counting.{stands_inside, owing_nothing, owing-zero, owing_take, between_skip, between_some, between_counts}
use Rattle.order.proofs.Releasing.{same_number}
use Rattle.order.proofs.Left.{left, in_left, left_all, left_less, left_some, left_none}

-- whether a row leads from one key to another
leads? : (us ls : List ℕ) (m k : Key) → Dec (Leads us ls m k)
leads? us ls m k = pick (dec_lt 0 m) (dec_lt 0 (between us ls m k (length us)))
  where
    pick : Dec (0 < m) → Dec (0 < between us ls m k (length us)) → Dec (Leads us ls m k)
    pick (no h) d = no (λ l. h l.1)
    pick (yes h) (yes g) = let w = between_some us ls m k (length us) g in yes (w.0, h, sym w.1, sym w.2)
    pick (yes h) (no g) = no (λ l. g (between_counts us ls m k (length us) l.0 (stands_inside us l.0 (rw l.2 h)) (sym l.2) (sym l.3)))

module _ {n : ℕ} {keys ups olds heads : List ℕ} (c : Scene n keys ups olds heads) where
  abbrev R : Key → Key → Type 0
  R = Leads c.us c.ls

  abbrev S : Key → Type 0
  S = Among n keys

  module _ (out : List Key) (counts tree : List ℕ) (T : State c out counts tree) where
    -- a key that is free stands in the tree
    in_tree : (k : Key) → Free R S out k → (q : ℕ) × (q < n) × (get_or keys q 0 ≡ k) × There n tree q
    in_tree k f = let a = f.among in (a.0, a.1, a.2, (T.free a.0 a.1).1 (T.counted a.0 a.1 ∙ nothing a, λ i. f.inside (rw a.2 at i)))
      where
        nothing : (a : Among n keys k) → owing c.us c.ls (get_or keys a.0 0) out (length c.us) ≡ 0
        nothing a = rw a.2 (owing-zero c.us c.ls k out (length c.us) (λ i h e. f.ready (get_or c.ls i 0) (i, rw (← a.2) (c.positive a.0 a.1), sym e, refl)))

    -- and what stands in the tree is free
    is_free : (q : ℕ) → q < n → There n tree q → Free R S out (get_or keys q 0)
    is_free q h e = let w = (T.free q h).0 e in record {
      among = (q, h, refl);
      inside = w.1;
      ready = λ m l. rw l.3 at (owing_nothing c.us c.ls (get_or keys q 0) out (length c.us) (sym (T.counted q h) ∙ w.0) l.0 (stands_inside c.us l.0 (rw l.2 l.1)) (sym l.2));
    }

    -- while a key is left, one is free
    free_some : (k : Key) → Among n keys k → ¬ In k out → (j : Key) × Free R S out j
    free_some k a f = let p = peak R (leads? c.us c.ls) (left out keys n) c.acyclic k ((in_left keys out n k).1 (a, f)) in (p.key, found p)
      where
        found : (p : Peak R (left out keys n)) → Free R S out p.key
        found p = let w = (in_left keys out n p.key).0 p.has in record { among = w.0; inside = w.1; ready = λ m l. gone m l (in? m out) }
          where
            gone : (m : Key) → R p.key m → Dec (In m out) → In m out
            gone m l (yes i) = i
            gone m l (no g) = absurd (p.free m ((in_left keys out n m).1 (c.closed p.key m ((in_left keys out n p.key).0 p.has).0 l, g)) l)

    -- while keys are left, some number is in the tree
    pub some_free : 0 < length (left out keys n) → Some n tree
    some_free h = let w = left_some keys out n h in let f = free_some w.0 w.1 w.2 in let t = in_tree f.0 f.1 in (t.0, t.1, t.3)

    module _ (r : ℕ) (tree' : List ℕ) (P : Took n r tree tree') where
      -- the least number that is there is that of the least key that is free
      pub next_free : FirstFree R S out (get_or keys r 0)
      next_free = record { free = is_free r P.number P.there; least = λ j f. let t = in_tree j f in rw (← t.2) (ordered t.0 t.1 (P.least t.0 t.1 t.3)) }
        where
          ordered : (q : ℕ) → q < n → r ≤ q → get_or keys r 0 ≤ get_or keys q 0
          ordered q g l = pick (ℕ_discrete r q)
            where
              pick : Dec (r ≡ q) → get_or keys r 0 ≤ get_or keys q 0
              pick (yes e) = rw e (omega arith)
              pick (no e) = omega (arith, c.rising r q (omega arith) g)

      -- it leaves the tree
      pub taken_out : Taken c out r (get_or heads r 0) counts tree'
      taken_out = record {
        number = P.number;
        here = (c.head r P.number).there;
        low = (c.head r P.number).before;
        new = next_free.free.inside;
        ready = next_free.free.ready;
        counted = λ q g. T.counted q g ∙ owing_take c.us c.ls (get_or keys q 0) (get_or keys r 0) out (length c.us) next_free.free.inside ∙ ap (λ (x : ℕ). owing c.us c.ls (get_or keys q 0) (get_or keys r 0 ∷ out) (length c.us) + x) (above q g);
        board = P.board;
        free = λ q g. pick q g (ℕ_discrete q r);
        inside = T.inside;
        done = T.done;
        long = T.long;
      }
        where
          -- no row after the last one to the key counts
          above : (q : ℕ) → q < n → between c.us c.ls (get_or keys q 0) (get_or keys r 0) (length c.us) ≡ between c.us c.ls (get_or keys q 0) (get_or keys r 0) (suc (get_or heads r 0))
          above q g = let L = c.head r P.number in let z : suc (get_or heads r 0) + (length c.us - suc (get_or heads r 0)) ≡ length c.us = omega (arith, L.before) in
              rw z at (between_skip c.us c.ls (get_or keys q 0) (get_or keys r 0) (suc (get_or heads r 0)) (length c.us - suc (get_or heads r 0)) (λ j a b y x. L.none j (omega arith) (omega (arith, z)) (sym x, (q, g, y))))

          pick : (q : ℕ) → q < n → Dec (q ≡ r) → There n tree' q ↔ ((get_or counts q 0 ≡ 0) × (¬ In (get_or keys q 0) (get_or keys r 0 ∷ out)))
          pick q g (yes z) = ((λ l. absurd (P.gone (subst (There n tree') z l))), λ w. absurd (w.1 (inl (ap (λ (x : ℕ). get_or keys x 0) z))))
          pick q g (no z) = let k = P.kept q g z in (
            (λ l. let w = (T.free q g).0 (k.0 l) in (w.0, ⊎_elim (λ y. z (same_number c q r g P.number y)) w.1)),
            λ w. k.1 ((T.free q g).1 (w.0, λ i. w.1 (inr i))),
          )

  -- j keys have been taken out, and stand at the front of the row
  pub record Peeling (row₀ row counts tree : List ℕ) (j : ℕ) : Type 0 where
    pub out : List Key
    pub order : List Key
    pub state : State c out counts tree
    pub rest : j + length (left out keys n) ≡ n
    pub count : j ≡ length order
    pub front : row ≡ order ++ drop j row₀
    pub so_far : (ks : List Key) → Peels R S out ks → Peels R S [] (order ++ ks)

  pub peeled_none : (row counts tree : List ℕ) → State c [] counts tree → Peeling row row counts tree 0
  peeled_none row counts tree T = record { out = []; order = []; state = T; rest = omega (arith, left_all keys n); count = refl; front = refl; so_far = λ ks p. p }

  module _ (row₀ row counts tree : List ℕ) (j : ℕ) (P : Peeling row₀ row counts tree j) (h : j < n) where
    pub some_left : 0 < length (left P.out keys n)
    some_left = omega (arith, P.rest)

    pub peeled_one : n ≤ length row₀ → (r : ℕ) (tree₁ : List ℕ) → Took n r tree tree₁ → (counts' tree' : List ℕ) → State c (get_or keys r 0 ∷ P.out) counts' tree' → Peeling row₀ (set row j (get_or keys r 0)) counts' tree' (j + 1)
    peeled_one g r tree₁ Q counts' tree' T = record {
      out = get_or keys r 0 ∷ P.out;
      order = P.order ++ (get_or keys r 0 ∷ []);
      state = T;
      rest = omega (arith, P.rest, left_less keys P.out (get_or keys r 0) n r Q.number refl least.free.inside (λ q l y. same_number c q r l Q.number y));
      count = omega (arith, P.count, length-append P.order (get_or keys r 0 ∷ []));
      front = row_more P.order row₀ row j (get_or keys r 0) P.count (omega arith) P.front;
      so_far = λ ks p. rw (append_assoc) (P.so_far (get_or keys r 0 ∷ ks) (next least p));
    }
      where
        least : FirstFree R S P.out (get_or keys r 0)
        least = next_free P.out counts tree P.state r tree₁ Q

  pub peeled_all : (row₀ row counts tree : List ℕ) (j : ℕ) → Peeling row₀ row counts tree j → n ≤ j → InOrder n keys c.us c.ls row₀ row
  peeled_all row₀ row counts tree j P h = record {
    order = P.order;
    peels = rw (append-nil P.order) at (P.so_far [] (end (left_none keys P.out n (omega (arith, P.rest)))));
    count = omega (arith, P.count, P.rest);
    front = P.front ∙ ap (λ (x : ℕ). P.order ++ drop x row₀) (let z : j ≡ n = omega (arith, P.rest) in z);
  }
