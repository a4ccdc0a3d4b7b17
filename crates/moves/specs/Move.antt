-- Whether the chosen prefixes of a term step together, decided from the leaves to the root in one pass.
use Rattle.std.specs.Prelude.{Bool, true, false, not, ◌||◌, ◌+◌, eqb}
use Rattle.ccsk.specs.Term.{Term, Name, Label, Key, Node, nil, pre, cho, par, res, size}
use Rattle.ccsk.specs.Decide.{co?, on?}

-- Of a part of the record: no chosen prefix is there; or all that are there step together, with the label seen at the part's root;
-- or some are there and do not.
pub data Move : Type 0 where
  still : Move
  step : Label → Move
  stuck : Move

-- some prefix holds a key
unfoldable pub holds : Term → Bool
holds nil = false
holds (pre a k t) = not (eqb k 0) || holds t
holds (cho t u) = holds t || holds u
holds (par t u) = holds t || holds u
holds (res a t) = holds t

-- some prefix holds the key m
unfoldable pub stands : Key → Term → Bool
stands m nil = false
stands m (pre a k t) = eqb m k || stands m t
stands m (cho t u) = stands m t || stands m u
stands m (par t u) = stands m t || stands m u
stands m (res a t) = stands m t

-- the step, or stuck where the test asks for it
abbrev pub stuck_if : Bool → Label → Move
stuck_if true l = stuck
stuck_if false l = step l

-- a chosen prefix: it steps if it may and nothing below it holds a key or is chosen
abbrev pub own : Bool → Bool → Label → Move → Move
own true false a still = step a
own true false a (step l) = stuck
own true false a stuck = stuck
own true true a x = stuck
own false b a x = stuck

-- any other prefix passes a step if it is done
abbrev pub pass : Bool → Move → Move
pass done still = still
pass true (step l) = step l
pass false (step l) = stuck
pass done stuck = stuck

abbrev pub move_over_prefix : Bool → Bool → Bool → Bool → Label → Move → Move
move_over_prefix true may done below a x = own may below a x
move_over_prefix false may done below a x = pass done x

-- a choice passes the step of one side if the other side holds no key
abbrev pub move_over_choice : Bool → Bool → Move → Move → Move
move_over_choice left right still still = still
move_over_choice left right (step l) still = stuck_if right l
move_over_choice left right still (step l) = stuck_if left l
move_over_choice left right (step l) (step k) = stuck
move_over_choice left right (step l) stuck = stuck
move_over_choice left right still stuck = stuck
move_over_choice left right stuck x = stuck

abbrev pub joined_if : {A : Type 0} → Dec A → Move
joined_if (yes c) = step 0
joined_if (no c) = stuck

-- a parallel passes the step of one side, or joins two with complementary labels
abbrev pub move_over_parallel : Move → Move → Move
move_over_parallel still x = x
move_over_parallel (step l) still = step l
move_over_parallel (step l) (step k) = joined_if (co? l k)
move_over_parallel (step l) stuck = stuck
move_over_parallel stuck x = stuck

abbrev pub hidden_if : {A : Type 0} → Dec A → Label → Move
hidden_if (yes o) l = stuck
hidden_if (no o) l = step l

-- a restriction stops a step on its name
abbrev pub move_over_restriction : Name → Move → Move
move_over_restriction a still = still
move_over_restriction a (step l) = hidden_if (on? a l) l
move_over_restriction a stuck = stuck

-- The move of the term whose root is node n. A chosen prefix may step if its key is one that `may` takes.
unfoldable pub move : (Node → Key → Bool) → (Key → Bool) → Node → Term → Move
move c may n nil = still
move c may n (pre a k t) = move_over_prefix (c n k) (may k) (not (eqb k 0)) (holds t) a (move c may (n + 1) t)
move c may n (cho t u) = move_over_choice (holds t) (holds u) (move c may (n + 1) t) (move c may (n + 1 + size t) u)
move c may n (par t u) = move_over_parallel (move c may (n + 1) t) (move c may (n + 1 + size t) u)
move c may n (res a t) = move_over_restriction a (move c may (n + 1) t)
