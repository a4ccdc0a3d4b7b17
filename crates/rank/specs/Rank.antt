-- The rank of a number in a set: how many members are below it.
use Rattle.std.specs.Prelude.{◌≡◌, List, Bool, true, false, ℕ, zero, suc, ◌*◌, ◌<◌, ◌/◌, get_or}
use Rattle.keyset.specs.Set.{member}

-- one more, if the test holds
abbrev pub one_more : Bool → ℕ → ℕ
one_more true n = suc n
one_more false n = n

-- How many numbers below k are in the set.
unfoldable pub rank : List ℕ → ℕ → ℕ
rank s zero = 0
rank s (suc k) = one_more (member s k) (rank s k)

-- For each byte of the set that holds a number, the rank of its first.
abbrev pub Ranked : List ℕ → List ℕ → Type 0
Ranked s base = (k : ℕ) → k < 65536 → member s k ≡ true → get_or base (k / 8) 0 ≡ rank s (k / 8 * 8)
