-- What the helpers of the operations on keys promise each other: marked keys, a scanned record, a cleared record.
use Rattle.std.specs.Prelude.{◌≡◌, ◌↔◌, List, [], ◌++◌, true, cond, ℕ, ◌+◌, ◌≤◌, ◌<◌, eqb, length, get_or, set, Result, Ok, Err}
use Rattle.ccsk.specs.Numbers.{In, distinct}
use Rattle.ccsk.specs.Term.{Term, Key, keys, done, blank}
use Rattle.format.specs.Read.{Reads, Refuses}
use Rattle.format.specs.Encode.{encode, Fits}
use Rattle.format.specs.Kinds.{length_of_body}
use Rattle.keyset.specs.Set.{member}
use Rattle.shared.specs.declared.Refusal.{Refusal}
use Rattle.shared.specs.Refusal.{number}

-- The bytes s are the record of the term t.
pub record RecordOf (s : List ℕ) (t : Term) : Type 0 where
  pub reads : Reads s t
  pub bytes : encode t ≡ s
  pub fits : Fits t

abbrev pub Readable : List ℕ → Type 0
Readable s = (t : Term) × RecordOf s t

-- The set m holds exactly the keys of the list.
pub record Holds (m : List ℕ) (l : List Key) : Type 0 where
  pub whole : length m ≡ 8192
  pub exact : (k : Key) → k < 65536 → (member m k ≡ true) ↔ In k l

-- A key was put into the set m, which is then m' and has r keys more; 0 is no key.
pub record Marked (m : List ℕ) (k : Key) (m' : List ℕ) (r : ℕ) : Type 0 where
  pub one : r ≤ 1
  pub more : (l : List Key) → Holds m l → Holds m' (l ++ done k []) × (distinct (l ++ done k []) ≡ distinct l + r)

-- The set m holds the keys of the record s, and n of them are different.
pub record Scanned (s m : List ℕ) (n : ℕ) : Type 0 where
  pub of : Term
  pub whole : RecordOf s of
  pub count : n ≡ distinct (keys of)
  pub holds : Holds m (keys of)

-- The same after reading the record, which may be refused.
abbrev pub Gathered : List ℕ → List ℕ → Result ℕ Refusal → Type 0
Gathered s m (Err r) = Refuses s (number r)
Gathered s m (Ok n) = Scanned s m n

-- where the node at a place ends, by the byte of kind there
abbrev pub end_at : List ℕ → ℕ → ℕ
end_at s at = at + (1 + length_of_body (get_or s at 0))

-- the byte of kind at a place is a known one, and the bytes of that node are there
abbrev pub Within : List ℕ → ℕ → Type 0
Within s at = (get_or s at 0 ≤ 4) × (end_at s at ≤ length s)

-- the bytes with key 0 at the node at a place, if it is a prefix
abbrev pub cleared_at : List ℕ → ℕ → List ℕ
cleared_at s at = cond (eqb (get_or s at 0) 1) (set (set s (at + 2) 0) (at + 3) 0) s

-- The bytes s were the record of a term, and s' is the record of its blank form.
abbrev pub Cleared : List ℕ → List ℕ → Type 0
Cleared s s' = (t : Term) × RecordOf s t × (s' ≡ encode (blank t))
