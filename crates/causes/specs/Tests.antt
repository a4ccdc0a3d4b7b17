-- A test on the entries of a term for each condition of 01 (Soundness), and the verdict that these tests give.
use Rattle.std.specs.Prelude.{◌≡◌, ◌⊎◌, List, [], ◌∷◌, Bool, true, false, not, ◌&&◌, ◌||◌, ℕ, zero, suc, ◌≤◌, ◌<◌, length}
use Rattle.ccsk.specs.Term.{Term, Key, nil, pre, cho, par, res, Co}
use Rattle.sound.specs.Sound.{Chain}
use Rattle.causes.specs.Entry.{Entry, all, only}

-- some prefix of the term holds a key
unfoldable pub holds : Term → Bool
holds nil = false
holds (pre a zero t) = holds t
holds (pre a (suc k) t) = true
holds (cho t u) = holds t || holds u
holds (par t u) = holds t || holds u
holds (res a t) = holds t

-- 1: nothing below a prefix with key 0 holds a key.
unfoldable pub waits : Term → Bool
waits nil = true
waits (pre a zero t) = not (holds t)
waits (pre a (suc k) t) = waits t
waits (cho t u) = waits t && waits u
waits (par t u) = waits t && waits u
waits (res a t) = waits t

-- 2: in a choice at most one side holds keys.
unfoldable pub chosen : Term → Bool
chosen nil = true
chosen (pre a k t) = chosen t
chosen (cho t u) = not (holds t && holds u) && (chosen t && chosen u)
chosen (par t u) = chosen t && chosen u
chosen (res a t) = chosen t

-- what is asked of the entries of each key
abbrev pub EachKey : (List Entry → Type 0) → List Entry → Type 0
EachKey P l = (m : Key) → 0 < m → P (only m l)

-- 3: a key has at most two entries.
abbrev pub AtMostTwo : List Entry → Type 0
AtMostTwo l = length l ≤ 2

-- 4: two entries of a key have complementary actions.
abbrev pub Complements : List Entry → Type 0
Complements [] = Unit {0}
Complements (e ∷ []) = Unit {0}
Complements (e ∷ (f ∷ [])) = Co e.action f.action
Complements (e ∷ (f ∷ (g ∷ l))) = Unit {0}

-- 5: of two entries of a key the second comes after all that is below the first.
abbrev pub Beside : List Entry → Type 0
Beside [] = Unit {0}
Beside (e ∷ []) = Unit {0}
Beside (e ∷ (f ∷ [])) = e.end ≤ f.row
Beside (e ∷ (f ∷ (g ∷ l))) = Unit {0}

-- 6: the only entry of a key stands in no scope, and two entries of a key stand in the same.
abbrev pub Enclosed : List Entry → Type 0
Enclosed [] = Unit {0}
Enclosed (e ∷ []) = e.scope ≡ 0
Enclosed (e ∷ (f ∷ [])) = e.scope ≡ f.scope
Enclosed (e ∷ (f ∷ (g ∷ l))) = Unit {0}

-- the key m stands in the nearest marked prefix above one that holds n
abbrev pub Leads : List Entry → Key → Key → Type 0
Leads [] m n = ⊥
Leads (e ∷ l) m n = ((0 < m) × (m ≡ e.up) × (n ≡ e.key)) ⊎ Leads l m n

-- 7: going from a key to those right below it never leads back.
abbrev pub Acyclic : List Entry → Type 0
Acyclic l = (m : Key) → ¬ Chain (Leads l) m m

-- The verdict by these tests: the lowest number that fails, 0 if none does.
pub data Tested (t : Term) : ℕ → Type 0 where
  none_fails : waits t ≡ true → chosen t ≡ true → EachKey AtMostTwo (all t) → EachKey Complements (all t) → EachKey Beside (all t) → EachKey Enclosed (all t) → Acyclic (all t) → Tested t 0
  first_fails : waits t ≡ false → Tested t 1
  second_fails : waits t ≡ true → chosen t ≡ false → Tested t 2
  third_fails : waits t ≡ true → chosen t ≡ true → ¬ EachKey AtMostTwo (all t) → Tested t 3
  fourth_fails : waits t ≡ true → chosen t ≡ true → EachKey AtMostTwo (all t) → ¬ EachKey Complements (all t) → Tested t 4
  fifth_fails : waits t ≡ true → chosen t ≡ true → EachKey AtMostTwo (all t) → EachKey Complements (all t) → ¬ EachKey Beside (all t) → Tested t 5
  sixth_fails : waits t ≡ true → chosen t ≡ true → EachKey AtMostTwo (all t) → EachKey Complements (all t) → EachKey Beside (all t) → ¬ EachKey Enclosed (all t) → Tested t 6
  seventh_fails : waits t ≡ true → chosen t ≡ true → EachKey AtMostTwo (all t) → EachKey Complements (all t) → EachKey Beside (all t) → EachKey Enclosed (all t) → ¬ Acyclic (all t) → Tested t 7
