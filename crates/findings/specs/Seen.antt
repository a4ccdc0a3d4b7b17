-- What the program's findings mean: its enums and structs against the definitions of one pass.
use Rattle.std.specs.Prelude.{◌≡◌, Bool, true, ℕ, ◌==◌, min, Option, Some, None, List, [], ◌∷◌, length, get_or}
use Rattle.ccsk.specs.Term.{Term, Label, Key, Node}
use Rattle.moves.specs.Choose.{forward_choice, undo_choice}
use Rattle.moves.specs.Choose as chosen
use Rattle.moves.specs.Move.{holds, move}
use Rattle.moves.specs.Move as pass
use Rattle.findings.specs.declared.Move.{Move}
use Rattle.findings.specs.declared.Move.TheVariants.{Still, Step, Stuck}
use Rattle.findings.specs.declared.Places.{Places}
use Rattle.findings.specs.declared.Places.TheVariants.{Zero, One, Two, More}
use Rattle.findings.specs.declared.Spots.{Spots}
use Rattle.findings.specs.declared.Ask.{Ask}
use Rattle.findings.specs.declared.Ask.TheVariants.{Undo, Forward}
use Rattle.findings.specs.declared.Seen.{Seen}

-- the move that the program's answer stands for
abbrev pub move_of : Move → pass.Move
move_of Still = pass.still
move_of (Step l) = pass.step l
move_of Stuck = pass.stuck

-- its label, if it is a step
abbrev pub label_of : Move → Option Label
label_of Still = None
label_of (Step l) = Some l
label_of Stuck = None

-- the key that is asked about
abbrev pub key_asked : Ask → Key
key_asked (Undo m) = m
key_asked (Forward p q m) = m

-- the prefixes that are chosen: by key for an undo, by node number for a forward step
abbrev pub choice_of : Ask → Node → Key → Bool
choice_of (Undo m) n k = undo_choice m n k
choice_of (Forward p q m) n k = forward_choice p q n k

-- the keys with which a chosen prefix may step: any for an undo, 0 for a forward step
abbrev pub may_of : Ask → Key → Bool
may_of (Undo m) k = true
may_of (Forward p q m) k = k == 0

-- the places in a list; of more than two their number in 16 bits and the first two. A readable record has at most 4,096 nodes: there it is the number itself
abbrev pub places_of : List ℕ → Places
places_of [] = Zero
places_of (i ∷ []) = One i
places_of (i ∷ (j ∷ [])) = Two i j
places_of (i ∷ (j ∷ (k ∷ l))) = More (min (length (i ∷ (j ∷ (k ∷ l)))) 65535) i j

-- the same in three numbers: how many, in 16 bits, and the first two, 0 where there is none
abbrev pub spots_of : List ℕ → Spots
spots_of l = record { many = min (length l) 65535; first = get_or l 0 0; second = get_or l 1 0 }

-- The findings are those of the one pass, for a term whose root is node n and whose bytes begin at the position i.
pub record Found (ask : Ask) (i : ℕ) (n : Node) (t : Term) (r : Seen) : Type 0 where
  pub any : r.any ≡ holds t
  pub stands : r.stands ≡ pass.stands (key_asked ask) t
  pub spots : r.spots ≡ spots_of (chosen.spots (choice_of ask) i n t)
  pub moved : move_of r.moved ≡ move (choice_of ask) (may_of ask) n t
