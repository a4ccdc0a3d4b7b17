-- Lists of numbers: membership, how many different ones, the least that is missing, ascending lists.
use Rattle.std.specs.Prelude.{◌≡◌, ◌⊎◌, ◌↔◌, List, [], ◌∷◌, ℕ, suc, ◌<◌}
use Rattle.std.proofs.Common.{inl, inr, ⊎_elim}
use Rattle.std.proofs.Math.Decide.{ℕ_discrete}

-- a is one of the numbers of the list
abbrev pub In : ℕ → List ℕ → Type 0
In a [] = ⊥
In a (b ∷ l) = (a ≡ b) ⊎ In a l

-- one of two statements holds
abbrev pub either : {A B : Type 0} → Dec A → Dec B → Dec (A ⊎ B)
either (yes a) d = yes (inl a)
either (no a) (yes b) = yes (inr b)
either (no a) (no b) = no (⊎_elim a b)

-- whether a is one of the numbers, with the reason
unfoldable pub in? : (a : ℕ) (l : List ℕ) → Dec (In a l)
in? a [] = no (λ b. b)
in? a (b ∷ l) = either (ℕ_discrete a b) (in? a l)

-- one more, unless it holds
abbrev pub new : {A : Type 0} → Dec A → ℕ → ℕ
new (yes a) n = n
new (no a) n = suc n

-- How many different numbers a list has: each counts where it stands last (01, Operations: number of distinct keys).
unfoldable pub distinct : List ℕ → ℕ
distinct [] = 0
distinct (a ∷ l) = new (in? a l) (distinct l)

-- k is the least number above 0 that is not in the list (01, Operations: least free key).
pub record LeastFree (l : List ℕ) (k : ℕ) : Type 0 where
  pub pos : 0 < k
  pub free : ¬ In k l
  pub least : (j : ℕ) → 0 < j → j < k → In j l

-- each number of the list is above n, and above all that stand before it
abbrev pub AscendingFrom : ℕ → List ℕ → Type 0
AscendingFrom n [] = Unit {0}
AscendingFrom n (a ∷ l) = (n < a) × AscendingFrom a l

-- The list holds exactly the numbers above 0 that have P, ascending (01, Operations: undo listing, waiting list).
abbrev pub Lists : (ℕ → Type 0) → List ℕ → Type 0
Lists P l = AscendingFrom 0 l × ((k : ℕ) → In k l ↔ ((0 < k) × P k))
