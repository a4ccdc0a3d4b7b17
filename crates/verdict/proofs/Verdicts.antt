-- The verdict of a term that is laid out in columns, from the answers of the tests on columns; its first two conditions hold.
use mathlib.Core.Path.{◌≡◌, subst}
use mathlib.Core.Logic.Iff
use mathlib.Core.Logic.{◌↔◌}
use mathlib.Core.List.{List}
use mathlib.Core.Bool.{true}
use Prim.Native.Nat.{ℕ, ◌<◌}
use lib.ListN.{length}
use Rattle.std.specs.Prelude.{Option, Some, None}
use Rattle.ccsk.specs.Term.{Term}
use Rattle.causes.specs.Entry.{Entry, all}
use Rattle.causes.specs.Tests as tests
use Rattle.causes.specs.Tests.{EachKey, AtMostTwo, Complements, Beside, Enclosed, Tested, none_fails, third_fails, fourth_fails, fifth_fails, sixth_fails, seventh_fails}
use Rattle.causes.proofs.Renaming.{Blind, two_blind, complements_blind, beside_blind, enclosed_blind, each_renamed, acyclic_renamed, all_known}
use Rattle.causes.specs.Columns.{Below}
use Rattle.cycles.specs.Graph as graph
use Rattle.pairs.specs.declared.Condition.{Condition}
use Rattle.pairs.specs.declared.Condition.TheVariants.{Complementary, Apart, Hidden}
use Rattle.pairs.specs.Condition.{number_of}
use Rattle.pairs.specs.Rows.{table, rows_of, Indexed}
use Rattle.pairs.specs.Cause.{Lowest, CauseBelow}
use Rattle.pairs.specs.Answer.{Climbed}
use Rattle.pairs.proofs.Tables.{two_rows, three_rows, lowest_rows}
use Rattle.verdict.specs.Laid.{Laid}
use Rattle.verdict.specs.Sheet.{Noted}
use Rattle.verdict.proofs.Order.{acyclic_rows, noted}

module _ (t : Term) (n : ℕ) (ks acs es ss us first second : List ℕ) (l : Laid t n ks acs es ss us) (e : length first ≡ n) (w : tests.waits t ≡ true) (c : tests.chosen t ≡ true) where
  abbrev rows : List Entry
  rows = table 0 ks acs es ss us

  below : Below (length first) ks
  below = rw e l.keys_below

  -- what does not look at keys holds of the rows exactly if it holds of the term
  each : (P : List Entry → Type 0) → Blind P → EachKey P (all t) ↔ EachKey P rows
  each P b = rw l.rows (each_renamed P b l.name (all t) l.faithful)

  order : tests.Acyclic (all t) ↔ tests.Acyclic rows
  order = rw l.rows (acyclic_renamed l.name (all t) l.root l.faithful (all_known t))

  -- a key stands in three rows
  pub verdict_3 : (k : ℕ) → 2 < length (rows_of k 0 ks) → Tested t 3
  verdict_3 k h = third_fails w c (λ f. three_rows ks acs es ss us first second l.square below l.keys k h ((each AtMostTwo two_blind).0 f))

  module _ (x : Indexed ks first second) (r : Option Condition) (g : CauseBelow (length first) acs es ss first second r) where
    twice : EachKey AtMostTwo (all t)
    twice = (each AtMostTwo two_blind).1 (two_rows ks acs es ss us first second l.square below l.keys x)

    low : Lowest (EachKey Complements rows) (EachKey Beside rows) (EachKey Enclosed rows) r
    low = lowest_rows ks acs es ss us first second l.square below l.keys x r g

    four : EachKey Complements (all t) ↔ EachKey Complements rows
    four = each Complements complements_blind

    five : EachKey Beside (all t) ↔ EachKey Beside rows
    five = each Beside beside_blind

    six : EachKey Enclosed (all t) ↔ EachKey Enclosed rows
    six = each Enclosed enclosed_blind

    -- one of the conditions 4 to 6 fails
    pub verdict_4_to_6 : (d : Condition) → r ≡ Some d → Tested t (number_of d)
    verdict_4_to_6 d q = pick d (subst (Lowest (EachKey Complements rows) (EachKey Beside rows) (EachKey Enclosed rows)) q low)
      where
        pick : (d : Condition) → Lowest (EachKey Complements rows) (EachKey Beside rows) (EachKey Enclosed rows) (Some d) → Tested t (number_of d)
        pick Complementary f = fourth_fails w c twice (λ z. f (four.0 z))
        pick Apart f = fifth_fails w c twice (four.1 f.0) (λ z. f.1 (five.0 z))
        pick Hidden f = sixth_fails w c twice (four.1 f.0) (five.1 f.1) (λ z. f.2 (six.0 z))
        pick _ f = absurd f

    -- what the cycle test asks for
    pub asked : Noted us first second
    asked = noted n ks us first second e l.some l.few l.keys l.ups_below x l.square.ups

    module _ (h : r ≡ None) (one two : List ℕ) (f : Climbed us first one) (i : Climbed us second two) where
      hold : EachKey Complements rows × EachKey Beside rows × EachKey Enclosed rows
      hold = subst (Lowest (EachKey Complements rows) (EachKey Beside rows) (EachKey Enclosed rows)) h low

      same : tests.Acyclic (all t) ↔ graph.Acyclic one two
      same = Iff.trans order (acyclic_rows ks acs es ss us first second one two l.square below x f i)

      -- there is a cycle, or none
      pub verdict_7 : ¬ graph.Acyclic one two → Tested t 7
      verdict_7 a = seventh_fails w c twice (four.1 hold.0) (five.1 hold.1) (six.1 hold.2) (λ z. a (same.0 z))

      pub verdict_0 : graph.Acyclic one two → Tested t 0
      verdict_0 a = none_fails w c twice (four.1 hold.0) (five.1 hold.1) (six.1 hold.2) (same.1 a)
