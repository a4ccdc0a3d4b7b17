-- Entries that are written into a column one after the other.
use mathlib.Core.Path.{◌≡◌, refl, sym, ap, ◌∙◌}
use mathlib.Core.List.{List, [], ◌∷◌, ◌++◌, append_assoc, append-nil}
use Prim.Native.Nat.{ℕ, suc, ◌+◌, ◌<◌}
use native.Mathlib.Numerals.{add-one}
use native.Mathlib.Omega.{arith}
use lib.ListN.{length, take, set, get_or}
use lib.Seq.{take-suc, take-suc-set, take-set-lt, set_at, length-take-le}
use Rattle.causes.specs.Entry.{Entry}
use Rattle.lay.specs.Sheet.{column, Filled}

pub column-append : (f : Entry → ℕ) (l m : List Entry) → column f (l ++ m) ≡ column f l ++ column f m
unfolding column
column-append f [] m = refl
column-append f (e ∷ l) m = ap (λ (x : List ℕ). f e ∷ x) (column-append f l m)

pub column-length : (f : Entry → ℕ) (l : List Entry) → length (column f l) ≡ length l
unfolding column
column-length f [] = refl
column-length f (e ∷ l) = ap suc (column-length f l)

-- nothing is written
pub filled_none : (f : Entry → ℕ) (i : ℕ) (c : List ℕ) → Filled f i i c c []
unfolding column
filled_none f i c = sym (append-nil (take i c))

-- one part after the other
pub filled_both : (f : Entry → ℕ) (i j k : ℕ) (a b c : List ℕ) (l m : List Entry) → Filled f i j a b l → Filled f j k b c m → Filled f i k a c (l ++ m)
filled_both f i j k a b c l m p q = q ∙ rw (p, column-append f l m, append_assoc (take i a) (column f l) (column f m))

-- an entry is written first, and then what follows it
pub filled_first : (f : Entry → ℕ) (i j : ℕ) (c c' : List ℕ) (e : Entry) (l : List Entry) (v : ℕ) → i < length c → v ≡ f e → Filled f (i + 1) j (set c i v) c' l → Filled f i j c c' (e ∷ l)
unfolding column
filled_first f i j c c' e l v h q p = p ∙ rw (add-one i, take-suc-set c i v h, append_assoc (take i c) (v ∷ []) (column f l), q)

-- an entry is written after what follows it
pub filled_last : (f : Entry → ℕ) (i j : ℕ) (c c' : List ℕ) (e : Entry) (l : List Entry) (v : ℕ) → i < length c → i < j → v ≡ f e → Filled f (i + 1) j c c' l → Filled f i j c (set c' i v) (e ∷ l)
unfolding column
filled_last f i j c c' e l v h g q p = take-set-lt j c' i v g
    ∙ ap (λ (x : List ℕ). set x i v) before
    ∙ set_at (take i c) (get_or c i 0) (column f l) v i (length-take-le i c (omega arith))
    ∙ rw q
  where
    before : take j c' ≡ take i c ++ (get_or c i 0 ∷ column f l)
    before = p ∙ rw (add-one i, take-suc c i 0 h, append_assoc (take i c) (get_or c i 0 ∷ []) (column f l))
