-- Lists noted at the front of arrays: pushing one, and cutting back.
use mathlib.Core.Path.{◌≡◌, sym, ap, ◌∙◌}
use mathlib.Core.List.{List, [], ◌∷◌, ◌++◌}
use Prim.Native.Nat.{ℕ, ◌+◌, ◌<◌, ◌≤◌}
use native.Mathlib.Numerals.{add-one}
use lib.ListN.{length, set, take}
use lib.Seq.{take-take, take_at, take-suc-set}

module _ {A : Type 0} where
  -- cut back to what stood before
  pub cut_back : (n l : ℕ) (x old new : List A) → length old ≡ n → n ≤ l → take l x ≡ old ++ new → take n x ≡ old
  cut_back n l x old new e h q = sym (take-take n l x h) ∙ ap (take n) q ∙ take_at old new n e

  -- one more
  pub push : (n : ℕ) (x old : List A) (a : A) → n < length x → take n x ≡ old → take (n + 1) (set x n a) ≡ old ++ (a ∷ [])
  push n x old a h q = rw (add-one n, take-suc-set x n a h, q)
