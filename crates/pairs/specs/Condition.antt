-- The conditions of soundness and their numbers (01, Soundness).
use Rattle.std.specs.Prelude.{ℕ, nat_lt, cond, Option, Some, None}
use Rattle.pairs.specs.declared.Condition.{Condition}
use Rattle.pairs.specs.declared.Condition.TheVariants.{Waiting, Choosing, Twice, Complementary, Apart, Hidden, Ordered}

-- the number of a condition
abbrev pub number_of : Condition → ℕ
number_of Waiting = 1
number_of Choosing = 2
number_of Twice = 3
number_of Complementary = 4
number_of Apart = 5
number_of Hidden = 6
number_of Ordered = 7

-- the number of the lowest condition that fails; 0 where none fails
abbrev pub verdict : Option Condition → ℕ
verdict None = 0
verdict (Some c) = number_of c

-- the lower of two conditions, or the one that there is
abbrev pub lower : Option Condition → Option Condition → Option Condition
lower None b = b
lower (Some c) None = Some c
lower (Some c) (Some d) = cond (nat_lt (number_of d) (number_of c)) (Some d) (Some c)
