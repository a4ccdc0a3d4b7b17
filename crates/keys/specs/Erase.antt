-- A term and a record without some of their keys.
use Rattle.std.specs.Prelude.{◌≡◌, Bool, true, false, cond, List, ℕ}
use Rattle.ccsk.specs.Term.{Term, Key, nil, pre, cho, par, res}
use Rattle.format.specs.Encode.{encode}
use Rattle.keys.specs.Gather.{RecordOf, cleared_at}

-- the keys for which the test holds become 0, and all else stays
unfoldable pub erase : (Key → Bool) → Term → Term
erase f nil = nil
erase f (pre a k t) = pre a (cond (f k) 0 k) (erase f t)
erase f (cho t u) = cho (erase f t) (erase f u)
erase f (par t u) = par (erase f t) (erase f u)
erase f (res a t) = res a (erase f t)

-- the bytes with key 0 at the node at a place, if the test holds
abbrev pub erased_at : Bool → List ℕ → ℕ → List ℕ
erased_at true s at = cleared_at s at
erased_at false s at = s

-- The bytes s were the record of a term, and s' is its record without the keys for which the test holds.
abbrev pub Erased : (Key → Bool) → List ℕ → List ℕ → Type 0
Erased f s s' = (t : Term) × RecordOf s t × (s' ≡ encode (erase f t))
