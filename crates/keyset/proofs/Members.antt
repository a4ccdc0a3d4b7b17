-- The numbers of a set in ascending order: one step of going up, and what the whole list is.
use mathlib.Core.Path.{◌≡◌, refl, sym, ap, ◌∙◌}
use mathlib.Core.Logic.{◌↔◌, inl, inr, ⊎_elim}
use mathlib.Core.List.{List, [], ◌∷◌, ◌++◌}
use mathlib.Core.Bool.{Bool, true, false}
use Prim.Native.Nat.{ℕ, zero, suc, ◌+◌, ◌-◌, ◌*◌, ◌≤◌, ◌<◌, ◌/◌, ◌%◌}
use native.Mathlib.Numerals.{add-one}
use native.Mathlib.Decide.{ℕ_discrete, dec_lt}
use native.Mathlib.Omega.{arith}
use lib.Dec.{eqb}
use lib.ListN.{length, get_or, length-append}
use Rattle.ccsk.specs.Numbers.{In, AscendingFrom, Lists}
use Rattle.ccsk.proofs.Lists.{in_left, in_right, in_either}
use Rattle.keyset.specs.Set.{bit, member, tick, members_below}
use Rattle.keyset.proofs.Bits.{empty_bit}
use Rattle.keyset.proofs.Steps.{true_false}

module _ (s : List ℕ) where
  pub members_none : members_below s 0 ≡ []
  unfolding members_below
  members_none = refl

  pub members_absent : (k : ℕ) → member s k ≡ false → members_below s (k + 1) ≡ members_below s k
  unfolding members_below
  members_absent k e = rw (add-one k, e)

  pub members_there : (k : ℕ) → member s k ≡ true → members_below s (k + 1) ≡ members_below s k ++ (k ∷ [])
  unfolding members_below
  members_there k e = rw (add-one k, e)

  -- over numbers that are not in the set
  over : (k d : ℕ) → ((j : ℕ) → k ≤ j → j < k + d → member s j ≡ false) → members_below s (k + d) ≡ members_below s k
  over k zero f = let z : k + 0 ≡ k = omega arith in rw z
  over k (suc d) f =
      let z : k + suc d ≡ k + d + 1 = omega arith in
      rw z (members_absent (k + d) (f (k + d) (omega arith) (omega arith))) ∙ over k d (λ j a b. f j a (omega arith))

  absent_byte : (j : ℕ) → get_or s (j / 8) 0 ≡ 0 → member s j ≡ false
  unfolding member
  absent_byte j e = rw (e, empty_bit (j % 8))

  -- over a byte with none
  pub members_skip : (i : ℕ) → get_or s i 0 ≡ 0 → members_below s ((i + 1) * 8) ≡ members_below s (i * 8)
  members_skip i e =
      let z : (i + 1) * 8 ≡ i * 8 + 8 = omega arith in
      rw z (over (i * 8) 8 (λ j a b. absent_byte j (let q : j / 8 ≡ i = omega arith in rw q e)))

  -- the numbers of a byte are its bits
  pub member_at : (i j : ℕ) → j < 8 → member s (i * 8 + j) ≡ eqb (bit (get_or s i 0) j) 1
  unfolding member
  member_at i j h =
      let a : (i * 8 + j) / 8 ≡ i = omega arith in
      let b : (i * 8 + j) % 8 ≡ j = omega arith in
      rw (a, b)

  grows : (k : ℕ) → length (members_below s k) ≤ length (members_below s (suc k))
  unfolding members_below
  grows k = pick (member s k)
    where
      pick : (b : Bool) → length (members_below s k) ≤ length (tick b k (members_below s k))
      pick true = omega (arith, length-append (members_below s k) (k ∷ []))
      pick false = omega arith

  grow : (k d : ℕ) → length (members_below s k) ≤ length (members_below s (k + d))
  grow k zero = let z : k + 0 ≡ k = omega arith in rw z (omega arith)
  grow k (suc d) = let z : k + suc d ≡ suc (k + d) = omega arith in rw z (omega (arith, grow k d, grows (k + d)))

  -- no more numbers than there are below k
  pub members_few : (k : ℕ) → length (members_below s k) ≤ k
  unfolding members_below
  members_few zero = omega arith
  members_few (suc k) = pick (member s k) (members_few k)
    where
      pick : (b : Bool) → length (members_below s k) ≤ k → length (tick b k (members_below s k)) ≤ suc k
      pick true h = omega (arith, length-append (members_below s k) (k ∷ []))
      pick false h = omega arith

  -- there is room for one number more
  pub room_for : (k n top : ℕ) → k < top → n ≡ length (members_below s k) → member s k ≡ true → n < length (members_below s top)
  room_for k n top h e m =
      let z : top ≡ k + 1 + (top - (k + 1)) = omega arith in
      rw z (omega (arith, grow (k + 1) (top - (k + 1)), ap length (members_there k m), length-append (members_below s k) (k ∷ []), e))

  -- a number is ahead, so the end is not reached
  pub not_the_end : (i n m : ℕ) → i ≤ 8192 → m ≡ length (members_below s (i * 8)) → n ≡ length (members_below s 65536) → m < n → i < 8192
  not_the_end i n m h c e l = pick (dec_lt i 8192)
    where
      pick : Dec (i < 8192) → i < 8192
      pick (yes g) = g
      pick (no g) = let z : i ≡ 8192 = omega arith in absurd (omega (arith, ap (λ (x : ℕ). length (members_below s (x * 8))) z))

  -- no number is ahead, so the list is whole
  pub none_ahead : (k d : ℕ) → length (members_below s (k + d)) ≤ length (members_below s k) → members_below s (k + d) ≡ members_below s k
  none_ahead k zero h = let z : k + 0 ≡ k = omega arith in rw z
  none_ahead k (suc d) h = pick (member s (k + d)) refl (none_ahead k d)
    where
      z : k + suc d ≡ k + d + 1
      z = omega arith

      pick : (b : Bool) → member s (k + d) ≡ b → (length (members_below s (k + d)) ≤ length (members_below s k) → members_below s (k + d) ≡ members_below s k) → members_below s (k + suc d) ≡ members_below s k
      pick true e f = absurd (omega (arith, h, grow k d, ap length (ap (members_below s) z), ap length (members_there (k + d) e), length-append (members_below s (k + d)) ((k + d) ∷ [])))
      pick false e f = let q = ap (members_below s) z ∙ members_absent (k + d) e in q ∙ f (omega (arith, h, ap length q))

-- a list that ascends from n goes on with a greater number
ascends_on : (n k : ℕ) (l : List ℕ) → n < k → ((j : ℕ) → In j l → j < k) → AscendingFrom n l → AscendingFrom n (l ++ (k ∷ []))
ascends_on n k [] h f a = (h, tt)
ascends_on n k (b ∷ l) h f a = (a.0, ascends_on b k l (f b (inl refl)) (λ j i. f j (inr i)) a.1)

module _ (s : List ℕ) where
  -- what stands in the list
  in_members : (k j : ℕ) → In j (members_below s k) → (j < k) × (member s j ≡ true)
  unfolding members_below
  in_members zero j i = absurd i
  in_members (suc k) j i = pick (member s k) refl i (in_members k j)
    where
      pick : (b : Bool) → member s k ≡ b → In j (tick b k (members_below s k)) → (In j (members_below s k) → (j < k) × (member s j ≡ true)) → (j < suc k) × (member s j ≡ true)
      pick true e i f = ⊎_elim (λ z. let w = f z in (omega (arith, w.0), w.1)) (⊎_elim (λ z. (omega arith, rw z e)) (λ z. absurd z)) (in_either j (members_below s k) (k ∷ []) i)
      pick false e i f = let w = f i in (omega (arith, w.0), w.1)

  members_in : (k j : ℕ) → j < k → member s j ≡ true → In j (members_below s k)
  unfolding members_below
  members_in zero j h e = absurd (omega arith)
  members_in (suc k) j h e = pick (member s k) refl (ℕ_discrete j k) (members_in k j)
    where
      pick : (b : Bool) → member s k ≡ b → Dec (j ≡ k) → (j < k → member s j ≡ true → In j (members_below s k)) → In j (tick b k (members_below s k))
      pick true q (yes z) f = in_right j (members_below s k) (k ∷ []) (inl z)
      pick true q (no z) f = in_left j (members_below s k) (k ∷ []) (f (omega arith) e)
      pick false q (yes z) f = absurd (true_false (sym (rw z at e) ∙ q))
      pick false q (no z) f = f (omega arith) e

  members_ascend : member s 0 ≡ false → (k : ℕ) → AscendingFrom 0 (members_below s k)
  unfolding members_below
  members_ascend o zero = tt
  members_ascend o (suc k) = pick (member s k) refl (members_ascend o k) (λ j i. (in_members k j i).0)
    where
      pick : (b : Bool) → member s k ≡ b → AscendingFrom 0 (members_below s k) → ((j : ℕ) → In j (members_below s k) → j < k) → AscendingFrom 0 (tick b k (members_below s k))
      pick true e a f = ascends_on 0 k (members_below s k) (above k e) f a
        where
          above : (k : ℕ) → member s k ≡ true → 0 < k
          above zero e = absurd (true_false (sym e ∙ o))
          above (suc k) e = omega arith
      pick false e a f = a

  -- A set without 0 lists the numbers that are in it.
  pub members_list : member s 0 ≡ false → (top : ℕ) (P : ℕ → Type 0) → ((k : ℕ) → (k < top) × (member s k ≡ true) ↔ (0 < k) × P k) → Lists P (members_below s top)
  members_list o top P f = (members_ascend o top, λ k. (λ i. (f k).0 (in_members top k i), λ w. let v = (f k).1 w in members_in top k v.0 v.1))
