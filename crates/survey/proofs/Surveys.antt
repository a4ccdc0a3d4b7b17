-- How many prefixes of a record can be chosen: so few that 16 bits tell their number.
use mathlib.Core.Path.{◌≡◌}
use mathlib.Core.List.{List}
use mathlib.Core.Bool.{Bool, true, false}
use Prim.Native.Nat.{ℕ, suc, ◌+◌, ◌≤◌}
use native.Mathlib.Omega.{arith}
use lib.ListN.{length, length-append}
use Rattle.ccsk.specs.Term.{Term, Key, Node, nil, pre, cho, par, res, size, tick}
use Rattle.format.specs.Read.{Reads}
use Rattle.format.specs.Encode.{encode, Bytes}
use Rattle.operations.proofs.Readable.{read_fits}
use Rattle.moves.specs.Choose.{spots}
use Rattle.std.specs.Prelude.{Result, Ok, Err}
use Rattle.shared.specs.declared.Refusal.{Refusal}
use Rattle.passes.specs.Pass.{Whole}
use Rattle.findings.specs.declared.Ask.{Ask}
use Rattle.findings.specs.declared.Seen.{Seen}
use Rattle.findings.specs.Seen.{Found, choice_of}
use Rattle.survey.specs.Survey.{Looked}

-- no more prefixes are chosen than there are nodes
tick_length : (b : Bool) (i : ℕ) (l : List ℕ) → length (tick b i l) ≤ suc (length l)
tick_length true i l = omega arith
tick_length false i l = omega arith

pub spots_few : (c : Node → Key → Bool) (i n : ℕ) (t : Term) → length (spots c i n t) ≤ size t
unfolding spots size
spots_few c i n nil = omega arith
spots_few c i n (pre a k t) = omega (arith, tick_length (c n k) i (spots c (i + 4) (n + 1) t), spots_few c (i + 4) (n + 1) t)
spots_few c i n (cho t u) = rw length-append (omega (arith, spots_few c (i + 1) (n + 1) t, spots_few c (i + 1 + length (encode t)) (n + 1 + size t) u))
spots_few c i n (par t u) = rw length-append (omega (arith, spots_few c (i + 1) (n + 1) t, spots_few c (i + 1 + length (encode t)) (n + 1 + size t) u))
spots_few c i n (res a t) = omega (arith, spots_few c (i + 2) (n + 1) t)

-- the number that a pass over a whole record finds is their number
all_counted : (s : List ℕ) → Bytes s → (t : Term) → Reads s t → (ask : Ask) (r : Seen) → Found ask 0 0 t r → r.spots.many ≡ length (spots (choice_of ask) 0 0 t)
all_counted s b t e ask r f = rw f.spots (omega (arith, spots_few (choice_of ask) 0 0 t, (read_fits s b e).nodes))

-- what a pass over a whole record comes to, with that number
pub counted : (s : List ℕ) → Bytes s → (ask : Ask) (r : Result Seen Refusal) → Whole (Found ask) s r → Looked s ask r
counted s b ask (Ok r) w = (w.0, w.1, w.2, all_counted s b w.0 w.1 ask r w.2)
counted s b ask (Err r) w = w
