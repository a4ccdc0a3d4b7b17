-- Places as the operations name them, their order, and the keys that a key waits for.
use Rattle.std.specs.Prelude.{◌≡◌, ◌⊎◌, ◌≢◌, List, [], ◌∷◌, zero, suc, ◌<◌, ◌≤◌}
use Rattle.ccsk.specs.Numbers.{LeastFree}
use Rattle.ccsk.specs.Term.{Term, Label, Key, Node, keys}
use Rattle.ccsk.specs.Place.{ForwardAt, IsPrefix}
use Rattle.sound.specs.Sound.{Before, Chain}

-- q = 0 means the one place p; otherwise both p and q step together (01, Operations: forward step).
abbrev pub pair : Node → Node → List Node
pair p zero = p ∷ []
pair p (suc q) = p ∷ (suc q ∷ [])

-- p is a prefix node, and q is 0 or a prefix node after p (01, refusal 4).
abbrev pub ArePlaces : Term → Node → Node → Type 0
ArePlaces t p zero = IsPrefix p t
ArePlaces t p (suc q) = IsPrefix p t × IsPrefix (suc q) t × (p < suc q)

-- The places (p', q') are (p, q) or come after: p is compared first, then q (01, Operations: first forward step).
abbrev pub AtOrAfter : Node → Node → Node → Node → Type 0
AtOrAfter p q p' q' = (p < p') ⊎ ((p ≡ p') × (q ≤ q'))

-- The rules derive a step at (p, q) with label l for the least free key.
abbrev pub FreeStep : Term → Node → Node → Label → Type 0
FreeStep t p q l = (m : Key) × LeastFree (keys t) m × ((w : ForwardAt t m (pair p q)) × (w.0 ≡ l))

-- No such step stands at or after (p, q).
abbrev pub NoFreeStep : Term → Node → Node → Type 0
NoFreeStep t p q = (p' q' : Node) (l : Label) → AtOrAfter p q p' q' → ¬ FreeStep t p' q' l

-- (p', q') with label l is the first such step at or after (p, q).
pub record FirstFrom (t : Term) (p q p' q' : Node) (l : Label) : Type 0 where
  pub step : FreeStep t p' q' l
  pub after : AtOrAfter p q p' q'
  pub least : (p'' q'' : Node) (l'' : Label) → AtOrAfter p q p'' q'' → FreeStep t p'' q'' l'' → AtOrAfter p' q' p'' q''

-- The key m waits for n: n is another key, and a chain leads from m to n. One link goes from a key to another that stands below a prefix
-- holding the first (02, [5]; 004, Definition 3.1: the order on keys, here without the key itself).
abbrev pub WaitsFor : Term → Key → Key → Type 0
WaitsFor t m n = (n ≢ m) × Chain (Before t) m n
