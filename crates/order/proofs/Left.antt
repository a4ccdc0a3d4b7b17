-- The keys that are left: a list of them, which has one less for each that is taken out.
use mathlib.Core.Path.{◌≡◌, refl, sym, ap}
use mathlib.Core.Logic.{◌⊎◌, inl, inr, ⊎_elim, ◌≢◌, ◌↔◌}
use mathlib.Core.List.{List, [], ◌∷◌}
use Prim.Native.Nat.{ℕ, zero, suc, ◌<◌}
use native.Mathlib.Decide.{ℕ_discrete}
use native.Mathlib.Omega.{arith}
use lib.ListN.{length, get_or}
use Rattle.ccsk.specs.Numbers.{In, in?}
use Rattle.ccsk.specs.Term.{Key}
use Rattle.threads.specs.Rows.{Among}

abbrev put : {A : Type 0} → Dec A → Key → List Key → List Key
put (yes d) k l = l
put (no d) k l = k ∷ l

-- those of the first n keys that are not out
unfoldable pub left : List Key → List Key → ℕ → List Key
left out keys zero = []
left out keys (suc r) = put (in? (get_or keys r 0) out) (get_or keys r 0) (left out keys r)

module _ (keys : List Key) where
  pub in_left : (out : List Key) (n : ℕ) (k : Key) → In k (left out keys n) ↔ (Among n keys k × ¬ In k out)
  unfolding left
  in_left out zero k = ((λ i. absurd i), λ w. absurd (omega (arith, w.0.1)))
  in_left out (suc n) k = pick (in? (get_or keys n 0) out) (in_left out n k)
    where
      up : Among n keys k → Among (suc n) keys k
      up a = (a.0, omega (arith, a.1), a.2)

      down : get_or keys n 0 ≢ k → Among (suc n) keys k → Among n keys k
      down f a = (a.0, (let z : a.0 ≢ n = λ e. f (rw (← e) a.2) in omega (arith, a.1)), a.2)

      here : get_or keys n 0 ≡ k → Among (suc n) keys k
      here e = (n, omega arith, e)

      pick : (d : Dec (In (get_or keys n 0) out)) → In k (left out keys n) ↔ (Among n keys k × ¬ In k out) → In k (put d (get_or keys n 0) (left out keys n)) ↔ (Among (suc n) keys k × ¬ In k out)
      pick (yes d) w = ((λ i. (up (w.0 i).0, (w.0 i).1)), λ i. w.1 (down (λ e. i.1 (rw e at d)) i.0, i.1))
      pick (no d) w = (
        ⊎_elim (λ e. (here (sym e), λ i. d (rw e at i))) (λ i. (up (w.0 i).0, (w.0 i).1)),
        λ i. other (ℕ_discrete (get_or keys n 0) k) i,
      )
        where
          other : Dec (get_or keys n 0 ≡ k) → Among (suc n) keys k × ¬ In k out → (k ≡ get_or keys n 0) ⊎ In k (left out keys n)
          other (yes e) i = inl (sym e)
          other (no e) i = inr (w.1 (down e i.0, i.1))

  pub left_all : (n : ℕ) → length (left [] keys n) ≡ n
  unfolding left in?
  left_all zero = refl
  left_all (suc n) = ap suc (left_all n)

  module _ (out : List Key) (k : Key) where
    -- a key that is not among them changes nothing
    same : (n : ℕ) → ((r : ℕ) → r < n → get_or keys r 0 ≢ k) → length (left (k ∷ out) keys n) ≡ length (left out keys n)
    unfolding left
    same zero f = refl
    same (suc n) f = pick (in? (get_or keys n 0) (k ∷ out)) (in? (get_or keys n 0) out) (same n (λ r h. f r (omega arith)))
      where
        pick : (d : Dec (In (get_or keys n 0) (k ∷ out))) (e : Dec (In (get_or keys n 0) out)) → length (left (k ∷ out) keys n) ≡ length (left out keys n)
            → length (put d (get_or keys n 0) (left (k ∷ out) keys n)) ≡ length (put e (get_or keys n 0) (left out keys n))
        pick (yes d) (yes e) q = q
        pick (no d) (no e) q = ap suc q
        pick (yes d) (no e) q = absurd (⊎_elim (f n (omega arith)) e d)
        pick (no d) (yes e) q = absurd (d (inr e))

    -- one less for a key that was left
    pub left_less : (n r : ℕ) → r < n → get_or keys r 0 ≡ k → ¬ In k out → ((q : ℕ) → q < n → get_or keys q 0 ≡ k → q ≡ r) → suc (length (left (k ∷ out) keys n)) ≡ length (left out keys n)
    unfolding left
    left_less zero r h e f u = absurd (omega arith)
    left_less (suc n) r h e f u = pick (ℕ_discrete r n) (in? (get_or keys n 0) (k ∷ out)) (in? (get_or keys n 0) out) (left_less n r)
      where
        pick : Dec (r ≡ n) → (d : Dec (In (get_or keys n 0) (k ∷ out))) (g : Dec (In (get_or keys n 0) out))
            → (r < n → get_or keys r 0 ≡ k → ¬ In k out → ((q : ℕ) → q < n → get_or keys q 0 ≡ k → q ≡ r) → suc (length (left (k ∷ out) keys n)) ≡ length (left out keys n))
            → suc (length (put d (get_or keys n 0) (left (k ∷ out) keys n))) ≡ length (put g (get_or keys n 0) (left out keys n))
        pick (yes z) (yes d) (no g) w = ap suc (same n (λ q l y. absurd (omega (arith, u q (omega arith) y, z))))
        pick (yes z) (no d) g w = absurd (d (inl (rw z at e)))
        pick (yes z) (yes d) (yes g) w = absurd (f (rw (← e, z) g))
        pick (no z) (yes d) (yes g) w = w (omega arith) e f (λ q l y. u q (omega arith) y)
        pick (no z) (no d) (no g) w = ap suc (w (omega arith) e f (λ q l y. u q (omega arith) y))
        pick (no z) (yes d) (no g) w = absurd (⊎_elim (λ y. z (sym (u n (omega arith) y))) g d)
        pick (no z) (no d) (yes g) w = absurd (d (inr g))

  -- some are left, or all are out
  pub left_some : (out : List Key) (n : ℕ) → 0 < length (left out keys n) → (k : Key) × Among n keys k × ¬ In k out
  left_some out n h = pick (left out keys n) (λ k. (in_left out n k).0) h
    where
      pick : (l : List Key) → ((k : Key) → In k l → Among n keys k × ¬ In k out) → 0 < length l → (k : Key) × Among n keys k × ¬ In k out
      pick [] f h = absurd (omega arith)
      pick (k ∷ l) f h = let w = f k (inl refl) in (k, w.0, w.1)

  pub left_none : (out : List Key) (n : ℕ) → length (left out keys n) ≡ 0 → (k : Key) → Among n keys k → In k out
  left_none out n h k a = inside (in? k out)
    where
      none : (l : List Key) → length l ≡ 0 → ¬ In k l
      none [] e i = i
      none (x ∷ l) e i = absurd (omega arith)

      inside : Dec (In k out) → In k out
      inside (yes i) = i
      inside (no f) = absurd (none (left out keys n) h ((in_left out n k).1 (a, f)))
