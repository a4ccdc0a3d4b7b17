-- Ascending lists: how long one can be; exactly one lists given numbers, and it can be computed. So can the least free key, and it is one.
use mathlib.Core.Path.{◌≡◌, refl, sym, ◌∙◌}
use mathlib.Core.Logic.{◌⊎◌, inl, inr, ⊎_elim, ◌↔◌}
use mathlib.Core.List.{List, [], ◌∷◌}
use Prim.Native.Nat.{ℕ, suc, ◌+◌, ◌<◌, ◌≤◌}
use native.Mathlib.Decide.{ℕ_discrete, dec_lt}
use native.Mathlib.Omega.{arith}
use lib.ListN.{length}
use Rattle.ccsk.specs.Numbers.{In, in?, distinct, AscendingFrom, Lists, LeastFree}
use Rattle.ccsk.specs.Without.{without}
use Rattle.ccsk.specs.Decide.{both}
use Rattle.ccsk.proofs.Decide.{isnt}
use Rattle.ccsk.proofs.Lists.{in_without, distinct_without, row_distinct}
use Rattle.operations.proofs.Search.{Least, search_up}

-- what stands in a list that ascends from n is above n
pub above : (n : ℕ) (x : List ℕ) → AscendingFrom n x → (k : ℕ) → In k x → n < k
above n [] o k i = absurd i
above n (a ∷ x) o k (inl e) = omega arith
above n (a ∷ x) o k (inr i) = omega (arith, above a x o.1 k i)

-- an ascending list of numbers of x is no longer than x has different ones
pub ascending_few : (n : ℕ) (l x : List ℕ) → AscendingFrom n l → ((k : ℕ) → In k l → In k x) → length l ≤ distinct x
ascending_few n [] x o f = omega arith
ascending_few n (a ∷ l) x o f =
    let rest : (k : ℕ) → In k l → In k (without a x) = λ k i. (in_without k a x (λ e. omega (arith, above a l o.1 k i))).1 (f k (inr i)) in
    omega (arith, distinct_without a x (f a (inl refl)), ascending_few a l (without a x) o.1 rest)

-- two ascending lists with the same numbers are equal
ascending_once : (n : ℕ) (x y : List ℕ) → AscendingFrom n x → AscendingFrom n y → ((k : ℕ) → In k x ↔ In k y) → x ≡ y
ascending_once n [] [] o r f = refl
ascending_once n [] (b ∷ y) o r f = absurd ((f b).1 (inl refl))
ascending_once n (a ∷ x) [] o r f = absurd ((f a).0 (inl refl))
ascending_once n (a ∷ x) (b ∷ y) o r f = cc (first, ascending_once a x y o.1 (rw first r.1) rest)
  where
    first : a ≡ b
    first = pick ((f a).0 (inl refl)) ((f b).1 (inl refl))
      where
        pick : In a (b ∷ y) → In b (a ∷ x) → a ≡ b
        pick (inl e) j = e
        pick (inr i) (inl e) = sym e
        pick (inr i) (inr j) = absurd (omega (arith, above b y r.1 a i, above a x o.1 b j))

    rest : (k : ℕ) → In k x ↔ In k y
    rest k = (λ i. there i ((f k).0 (inr i)), λ i. back i ((f k).1 (inr i)))
      where
        there : In k x → In k (b ∷ y) → In k y
        there i (inl e) = absurd (omega (arith, above a x o.1 k i, first))
        there i (inr j) = j

        back : In k y → In k (a ∷ x) → In k x
        back i (inl e) = absurd (omega (arith, above b y r.1 k i, first))
        back i (inr j) = j

pub lists_once : (P : ℕ → Type 0) (x y : List ℕ) → Lists P x → Lists P y → x ≡ y
lists_once P x y a b = ascending_once 0 x y a.0 b.0 (λ k. (λ i. (b.1 k).1 ((a.1 k).0 i), λ i. (a.1 k).1 ((b.1 k).0 i)))

-- one number put in its place
abbrev put : {k a : ℕ} → List ℕ → List ℕ → Dec (k < a) → Dec (k ≡ a) → List ℕ
put {k} {a} x y (yes h) e = k ∷ (a ∷ x)
put {k} {a} x y (no h) (yes e) = a ∷ x
put {k} {a} x y (no h) (no e) = a ∷ y

unfoldable insert : ℕ → List ℕ → List ℕ
insert k [] = k ∷ []
insert k (a ∷ x) = put x (insert k x) (dec_lt k a) (ℕ_discrete k a)

insert_ascends : (k n : ℕ) (x : List ℕ) → n < k → AscendingFrom n x → AscendingFrom n (insert k x)
unfolding insert
insert_ascends k n [] h o = (h, tt)
insert_ascends k n (a ∷ x) h o = pick (dec_lt k a) (ℕ_discrete k a) (insert_ascends k a x)
  where
    pick : (d : Dec (k < a)) (e : Dec (k ≡ a)) → (a < k → AscendingFrom a x → AscendingFrom a (insert k x)) → AscendingFrom n (put x (insert k x) d e)
    pick (yes g) e f = (h, (g, o.1))
    pick (no g) (yes e) f = o
    pick (no g) (no e) f = (o.0, f (omega arith) o.1)

insert_holds : (k j : ℕ) (x : List ℕ) → In j (insert k x) ↔ ((j ≡ k) ⊎ In j x)
unfolding insert
insert_holds k j [] = (λ i. i, λ i. i)
insert_holds k j (a ∷ x) = pick (dec_lt k a) (ℕ_discrete k a) (insert_holds k j x)
  where
    pick : (d : Dec (k < a)) (e : Dec (k ≡ a)) → In j (insert k x) ↔ ((j ≡ k) ⊎ In j x) → In j (put x (insert k x) d e) ↔ ((j ≡ k) ⊎ ((j ≡ a) ⊎ In j x))
    pick (yes g) e f = (λ i. i, λ i. i)
    pick (no g) (yes e) f = (inr, ⊎_elim (λ z. inl (z ∙ e)) (λ z. z))
    pick (no g) (no e) f = (⊎_elim (λ z. inr (inl z)) (λ i. ⊎_elim inl (λ z. inr (inr z)) (f.0 i)), ⊎_elim (λ z. inr (f.1 (inl z))) (⊎_elim inl (λ z. inr (f.1 (inr z)))))

-- the numbers above 0 of a list that pass a test, ascending
module _ (P : ℕ → Type 0) (p? : (k : ℕ) → Dec (P k)) where
  abbrev keep : {k : ℕ} → List ℕ → Dec ((0 < k) × P k) → List ℕ
  keep {k} x (yes h) = insert k x
  keep {k} x (no h) = x

  unfoldable pub pass : List ℕ → List ℕ
  unfolding insert
  pass [] = []
  pass (k ∷ x) = keep (pass x) (both (dec_lt 0 k) (p? k))

  pass_ascends : (x : List ℕ) → AscendingFrom 0 (pass x)
  unfolding pass
  pass_ascends [] = tt
  pass_ascends (k ∷ x) = pick (both (dec_lt 0 k) (p? k)) (pass_ascends x)
    where
      pick : (d : Dec ((0 < k) × P k)) → AscendingFrom 0 (pass x) → AscendingFrom 0 (keep (pass x) d)
      pick (yes h) o = insert_ascends k 0 (pass x) h.0 o
      pick (no h) o = o

  pass_holds : (j : ℕ) (x : List ℕ) → In j (pass x) ↔ (((0 < j) × P j) × In j x)
  unfolding pass
  pass_holds j [] = (λ i. absurd i, λ i. i.1)
  pass_holds j (k ∷ x) = pick (both (dec_lt 0 k) (p? k)) (pass_holds j x)
    where
      pick : (d : Dec ((0 < k) × P k)) → In j (pass x) ↔ (((0 < j) × P j) × In j x) → In j (keep (pass x) d) ↔ (((0 < j) × P j) × In j (k ∷ x))
      pick (yes h) f = (
        λ i. ⊎_elim (λ e. (rw e h, inl e)) (λ z. ((f.0 z).0, inr (f.0 z).1)) ((insert_holds k j (pass x)).0 i),
        λ i. (insert_holds k j (pass x)).1 (⊎_elim inl (λ z. inr (f.1 (i.0, z))) i.1),
      )
      pick (no h) f = (λ i. ((f.0 i).0, inr (f.0 i).1), λ i. f.1 (i.0, ⊎_elim (λ e. absurd (h (rw e at i.0))) (λ z. z) i.1))

  -- where P holds only of numbers of x
  pub lists_some : (x : List ℕ) → ((k : ℕ) → 0 < k → P k → In k x) → Lists P (pass x)
  lists_some x f = (pass_ascends x, λ k. (λ i. ((pass_holds k x).0 i).0, λ h. (pass_holds k x).1 (h, f k h.0 h.1)))

-- there is one least free key
pub least_free_once : {x : List ℕ} {j k : ℕ} → LeastFree x j → LeastFree x k → j ≡ k
least_free_once {j = j} {k = k} a b = pick (dec_lt j k) (dec_lt k j)
  where
    pick : Dec (j < k) → Dec (k < j) → j ≡ k
    pick (yes h) d = absurd (a.free (b.least j a.pos h))
    pick (no h) (yes i) = absurd (b.free (a.least k b.pos i))
    pick (no h) (no i) = omega arith

-- the least free key is found by counting up from 1
pub held : (j : ℕ) (x : List ℕ) → ¬ (¬ In j x) → In j x
held j x f = pick (in? j x)
  where
    pick : Dec (In j x) → In j x
    pick (yes i) = i
    pick (no g) = absurd (f g)

unfoldable pub least_free_key : (x : List ℕ) → (k : ℕ) × LeastFree x k
least_free_key x = pick (search_up (λ k. ¬ In k x) (λ k. isnt (in? k x)) (suc (distinct x)) 1)
  where
    pick : Least (λ k. ¬ In k x) 1 ⊎ ((j : ℕ) → 1 ≤ j → j < 1 + suc (distinct x) → ¬ (¬ In j x)) → (k : ℕ) × LeastFree x k
    pick (inl r) = (r.0, record { pos = r.1; free = r.2; least = λ j p h. held j x (λ f. omega (arith, r.3 j p f)) })
    pick (inr f) = absurd (omega (arith, row_distinct (suc (distinct x)) x (λ k p h. held k x (f k p (omega arith)))))
