-- Threading the rows, one after the other.
use mathlib.Core.Path.{◌≡◌, refl, sym, ap, subst, ◌∙◌}
use mathlib.Core.Logic.{inl, inr, ◌≢◌}
use mathlib.Core.List.{List, []}
use mathlib.Core.Bool.{false, true≢false}
use Prim.Native.Nat.{ℕ, zero, suc, ◌+◌, ◌-◌, ◌≤◌, ◌<◌}
use native.Mathlib.Decide.{ℕ_discrete, dec_lt}
use native.Mathlib.Numerals.{add-one}
use native.Mathlib.Omega.{arith}
use lib.ListN.{length, get_or, set, length-set}
use lib.Seq.{get_or-set_same, get_or-set_other}
use Rattle.ccsk.specs.Term.{Key}
use Rattle.keyset.specs.Set.{member}
use Rattle.keyset.proofs.Small.{member_small}
use Rattle.rank.specs.Rank.{rank}
use Rattle.rank.proofs.Ranks.{rank_once, rank_less}
use Rattle.threads.specs.Rows.{owing, Under, Last}
use Rattle.threads.specs.Threads.{Held, Sortable, Threads, passed, threaded, linked_on, Ready, Threaded}
use Rattle.filing.specs.declared.Cabinet.{Cabinet}
use Rattle.threads.proofs.Counting.{owing_none, owing_yes, owing_no, owing_skip}

-- its rank is one of the ranks
pub rank_low : (marks : List ℕ) → length marks ≡ 8192 → (k : Key) → Held marks k → rank marks k < rank marks 65536
rank_low marks e k h = rank_less marks k 65536 h (member_small marks e k h)

-- a row threaded leaves the drawers' latest links
pub row_latest : (marks : List ℕ) (x : Cabinet) (hs cs : List ℕ) (i : ℕ) (x' : Cabinet) (hs' cs' : List ℕ) → Threads marks x hs cs i x' hs' cs' → x'.latest ≡ x.latest
row_latest marks x hs cs i x' hs' cs' (passed f) = refl
row_latest marks x hs cs i x' hs' cs' (threaded u l h e d) = refl

module _ (marks : List ℕ) (n links : ℕ) (us ls : List ℕ) (S : Sortable marks n links us ls) where
  not_both : (k : Key) → Held marks k → member marks k ≡ false → ⊥
  not_both k h f = true≢false (sym h ∙ f)

  positive : (k : Key) → Held marks k → 0 < k
  positive zero h = absurd (not_both 0 h S.zero)
  positive (suc k) h = omega arith

  -- where there is no upper key there is no row
  no_row : (i : ℕ) → get_or us i 0 ≡ 0 → ¬ Held marks (get_or us i 0)
  no_row i e h = omega (arith, positive (get_or us i 0) h, e)

  rank_inside : (k : Key) → Held marks k → rank marks k < rank marks 65536
  rank_inside k h = rank_low marks S.whole k h

  pub threaded_none : (x : Cabinet) (hs cs : List ℕ) → x.upper ≡ us → x.lower ≡ ls → Ready marks x hs cs → Threaded marks us ls 1 x hs cs
  threaded_none x hs cs p q R = record {
    head = λ k h. record { there = inl (R.no_head (rank marks k)); before = omega (arith, R.no_head (rank marks k)); none = λ i a b. absurd (omega (arith, R.no_head (rank marks k))) };
    older = λ k i h g e f. absurd (first i g f);
    named = λ i g f. absurd (first i g f);
    rest = λ i g. ap (λ (l : List ℕ). get_or l i 0) p;
    lower = q;
    counted = λ k h. R.no_count (rank marks k) ∙ sym (owing_no us ls k [] 0 (λ e. absurd (omega (arith, positive k h, e, S.root))) ∙ owing_none us ls k []);
    small = λ r. omega (arith, R.no_count r);
    long_ups = ap length p;
    long_olds = R.older ∙ ap length p;
  }
    where
      first : (i : ℕ) → i < 1 → ¬ Held marks (get_or us i 0)
      first i g f = let e : i ≡ 0 = omega arith in no_row 0 S.root (subst (λ (x : ℕ). Held marks (get_or us x 0)) e f)

  module _ (i : ℕ) (x : Cabinet) (hs cs : List ℕ) (T : Threaded marks us ls i x hs cs) where
    here : get_or x.upper i 0 ≡ get_or us i 0
    here = T.rest i (omega arith)

    inside : Held marks (get_or us i 0) → Held marks (get_or ls i 0)
    inside h = S.closed (get_or us i 0) (get_or ls i 0) h (i, positive (get_or us i 0) h, refl, refl)

    -- a row from a key that is not in the set changes nothing
    module _ (f : member marks (get_or us i 0) ≡ false) where
      still : (k : Key) (h : ℕ) → Last (Held marks) us ls k i h → Last (Held marks) us ls k (suc i) h
      still k h L = record { there = L.there; before = omega (arith, L.before); none = λ j a b. none j a (ℕ_discrete j i) b }
        where
          none : (j : ℕ) → h < j → Dec (j ≡ i) → j < suc i → ¬ Under (Held marks) us ls k j
          none j a (yes e) b w = not_both (get_or us i 0) (subst (λ (x : ℕ). Held marks (get_or us x 0)) e w.1) f
          none j a (no e) b w = L.none j a (omega arith) w

      old : (j : ℕ) → j < suc i → Held marks (get_or us j 0) → j < i
      old j g h = pick (ℕ_discrete j i)
        where
          pick : Dec (j ≡ i) → j < i
          pick (yes e) = absurd (not_both (get_or us i 0) (subst (λ (x : ℕ). Held marks (get_or us x 0)) e h) f)
          pick (no e) = omega arith

      passed_on : Threaded marks us ls (suc i) x hs cs
      passed_on = record {
        head = λ k h. still k (get_or hs (rank marks k) 0) (T.head k h);
        older = λ k j h g e w. T.older k j h (old j g w) e w;
        named = λ j g w. T.named j (old j g w) w;
        rest = λ j g. T.rest j (omega arith);
        lower = T.lower;
        counted = λ k h. T.counted k h ∙ sym (owing_no us ls k [] i (λ e. absurd (not_both (get_or us i 0) (subst (Held marks) e h) f)));
        small = λ r. omega (arith, T.small r);
        long_ups = T.long_ups;
        long_olds = T.long_olds;
      }

    -- a row from a key of the set
    module _ (u l : ℕ) (h : Held marks (get_or us i 0)) (e : u ≡ rank marks (get_or us i 0)) (d : l ≡ rank marks (get_or ls i 0))
        (a : i < length us) (b : rank marks 65536 ≤ length hs) (c : rank marks 65536 ≤ length cs) where
      low : Held marks (get_or ls i 0)
      low = inside h

      at_head : get_or (set hs l i) l 0 ≡ i
      at_head = get_or-set_same hs l i 0 (omega (arith, d, rank_inside (get_or ls i 0) low))

      other : (k : Key) → Held marks k → k ≢ get_or ls i 0 → rank marks k ≢ l
      other k g f z = f (rank_once marks k (get_or ls i 0) g low (z ∙ d))

      heads_on : (k : Key) → Held marks k → Last (Held marks) us ls k (suc i) (get_or (set hs l i) (rank marks k) 0)
      heads_on k g = pick (ℕ_discrete k (get_or ls i 0))
        where
          pick : Dec (k ≡ get_or ls i 0) → Last (Held marks) us ls k (suc i) (get_or (set hs l i) (rank marks k) 0)
          pick (yes z) = let y : get_or (set hs l i) (rank marks k) 0 ≡ i = ap (λ (x : ℕ). get_or (set hs l i) x 0) (ap (rank marks) z ∙ sym d) ∙ at_head in
              rw y (record { there = inr (sym z, h); before = omega arith; none = λ j p q. absurd (omega arith) })
          pick (no z) = rw (get_or-set_other hs l (rank marks k) i 0 (other k g z)) (let L = T.head k g in
              record { there = L.there; before = omega (arith, L.before); none = λ j p q. none j p q (ℕ_discrete j i) })
            where
              none : (j : ℕ) → get_or hs (rank marks k) 0 < j → j < suc i → Dec (j ≡ i) → ¬ Under (Held marks) us ls k j
              none j p q (yes y) w = z (sym w.0 ∙ ap (λ (x : ℕ). get_or ls x 0) y)
              none j p q (no y) w = (T.head k g).none j p (omega arith) w

      older_on : (k : Key) (j : ℕ) → Held marks k → j < suc i → get_or ls j 0 ≡ k → Held marks (get_or us j 0) → Last (Held marks) us ls k j (get_or (set x.older i (get_or hs l 0)) j 0)
      older_on k j g p q w = pick (ℕ_discrete j i)
        where
          pick : Dec (j ≡ i) → Last (Held marks) us ls k j (get_or (set x.older i (get_or hs l 0)) j 0)
          pick (no z) = rw (get_or-set_other x.older i j (get_or hs l 0) 0 z) (T.older k j g (omega arith) q w)
          pick (yes z) = let y : rank marks k ≡ l = ap (rank marks) (sym q ∙ ap (λ (x : ℕ). get_or ls x 0) z) ∙ sym d in
              rw (z, get_or-set_same x.older i (get_or hs l 0) 0 (omega (arith, T.long_olds)), ← y) (T.head k g)

      named_on : (j : ℕ) → j < suc i → Held marks (get_or us j 0) → get_or (set x.upper i u) j 0 ≡ rank marks (get_or us j 0)
      named_on j p w = pick (ℕ_discrete j i)
        where
          pick : Dec (j ≡ i) → get_or (set x.upper i u) j 0 ≡ rank marks (get_or us j 0)
          pick (yes z) = rw (z, get_or-set_same x.upper i u 0 (omega (arith, T.long_ups))) e
          pick (no z) = get_or-set_other x.upper i j u 0 z ∙ T.named j (omega arith) w

      counted_on : (k : Key) → Held marks k → get_or (set cs u (get_or cs u 0 + 1)) (rank marks k) 0 ≡ owing us ls k [] (suc i)
      counted_on k g = pick (ℕ_discrete k (get_or us i 0))
        where
          pick : Dec (k ≡ get_or us i 0) → get_or (set cs u (get_or cs u 0 + 1)) (rank marks k) 0 ≡ owing us ls k [] (suc i)
          pick (yes z) = let y : rank marks k ≡ u = ap (rank marks) z ∙ sym e in let v : get_or cs u 0 ≡ owing us ls k [] i = subst (λ (x : ℕ). get_or cs x 0 ≡ owing us ls k [] i) y (T.counted k g) in
              rw (y, get_or-set_same cs u (get_or cs u 0 + 1) 0 (omega (arith, e, rank_inside (get_or us i 0) h))) (omega (arith, v, owing_yes us ls k [] i z (λ w. w)))
          pick (no z) = get_or-set_other cs u (rank marks k) (get_or cs u 0 + 1) 0 (λ w. z (rank_once marks k (get_or us i 0) g h (w ∙ e))) ∙ T.counted k g ∙ sym (owing_no us ls k [] i (λ w. absurd (z w)))

      small_on : (r : ℕ) → get_or (set cs u (get_or cs u 0 + 1)) r 0 ≤ suc i
      small_on r = pick (ℕ_discrete r u)
        where
          pick : Dec (r ≡ u) → get_or (set cs u (get_or cs u 0 + 1)) r 0 ≤ suc i
          pick (yes z) = rw (z, get_or-set_same cs u (get_or cs u 0 + 1) 0 (omega (arith, e, rank_inside (get_or us i 0) h))) (omega (arith, T.small u))
          pick (no z) = rw (get_or-set_other cs u r (get_or cs u 0 + 1) 0 z) (omega (arith, T.small r))

      threaded_on : Threaded marks us ls (suc i) (linked_on x i u (get_or hs l 0)) (set hs l i) (set cs u (get_or cs u 0 + 1))
      threaded_on = record {
        head = heads_on;
        older = older_on;
        named = named_on;
        rest = λ j g. get_or-set_other x.upper i j u 0 (λ z. omega arith) ∙ T.rest j (omega arith);
        lower = T.lower;
        counted = counted_on;
        small = small_on;
        long_ups = length-set x.upper i u ∙ T.long_ups;
        long_olds = length-set x.older i (get_or hs l 0) ∙ T.long_olds;
      }

    -- one row more
    on : i ≤ links → rank marks 65536 ≤ length hs → rank marks 65536 ≤ length cs → (x' : Cabinet) (hs' cs' : List ℕ) → Threads marks x hs cs i x' hs' cs' → Threaded marks us ls (suc i) x' hs' cs'
    on g b c x' hs' cs' (passed f) = passed_on (ap (member marks) (sym here) ∙ f)
    on g b c x' hs' cs' (threaded u l h e d) = threaded_on u l (subst (Held marks) here h) (e ∙ ap (rank marks) here) (d ∙ ap (λ (z : List ℕ). rank marks (get_or z i 0)) T.lower) (omega (arith, S.upper, S.last)) b c

    pub row_threaded : i ≤ links → rank marks 65536 ≤ length hs → rank marks 65536 ≤ length cs → (x' : Cabinet) (hs' cs' : List ℕ) → Threads marks x hs cs i x' hs' cs' → Threaded marks us ls (i + 1) x' hs' cs'
    row_threaded g b c x' hs' cs' t = rw (add-one i) (on g b c x' hs' cs' t)

  -- no row comes any more
  pub all_threaded : (i : ℕ) (x : Cabinet) (hs cs : List ℕ) → Threaded marks us ls i x hs cs → links < i → i ≤ links + 1 → Threaded marks us ls (length us) x hs cs
  all_threaded i x hs cs T g f = record {
    head = λ k h. let L = T.head k h in record { there = L.there; before = omega (arith, L.before, S.upper, S.last); none = λ j a b w. L.none j a (early j w.1) w };
    older = λ k j h p e w. T.older k j h (early j w) e w;
    named = λ j p w. T.named j (early j w) w;
    rest = λ j p. T.rest j (omega (arith, S.upper, S.last));
    lower = T.lower;
    counted = λ k h. T.counted k h ∙ sym (more k h);
    small = λ r. omega (arith, T.small r, S.upper, S.last);
    long_ups = T.long_ups;
    long_olds = T.long_olds;
  }
    where
      early : (j : ℕ) → Held marks (get_or us j 0) → j < i
      early j h = pick (dec_lt j i)
        where
          pick : Dec (j < i) → j < i
          pick (yes z) = z
          pick (no z) = absurd (no_row j (S.rest j (omega arith)) h)

      more : (k : Key) → Held marks k → owing us ls k [] (length us) ≡ owing us ls k [] i
      more k h = let z : i + (length us - i) ≡ length us = omega (arith, S.upper, S.last) in rw z at (owing_skip us ls k [] i (length us - i) (λ j p e. omega (arith, positive k h, S.rest j (omega arith), e)))
