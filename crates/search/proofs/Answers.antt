-- The answer of the search over the rows of a record is the operation's answer.
use mathlib.Core.Path.{◌≡◌}
use mathlib.Core.Logic.{inr, ⊎_elim, ◌↔◌}
use mathlib.Core.List.{List}
use Prim.Native.Nat.{ℕ, ◌<◌, ◌≤◌}
use native.Mathlib.Decide.{dec_lt}
use native.Mathlib.Omega.{arith}
use Rattle.std.proofs.lemmas.List.{get_or-take, get_or_past}
use lib.ListN.{length, get_or, take, replicate, length-take, length-replicate}
use Rattle.std.specs.Prelude.{Option, Some, None, Ok}
use Rattle.ccsk.specs.Term.{Term, Node}
use Rattle.format.specs.Read.{Reads}
use Rattle.operations.specs.Ask.{FirstStep, FirstStep.none, FirstStep.found}
use Rattle.labelset.specs.declared.Labels.{Labels}
use Rattle.labelset.specs.Set.{Shows, Exactly}
use Rattle.offers.specs.Offers.{Wanted}
use Rattle.offers.proofs.Places.{trans}
use Rattle.offers.proofs.Parts.{offers_under, joins_under}
use Rattle.offers.proofs.Wanted.{wanted_same}
use Rattle.wanted.specs.Pass.{Marks}
use Rattle.index.specs.declared.Rows.{Rows}
use Rattle.index.specs.Whole.{RowsOf}
use Rattle.index.proofs.Answers.{rows_part}
use Rattle.search.specs.declared.Step.{Step}
use Rattle.search.specs.First as answer
use Rattle.search.proofs.Places.{at_zero, no_marks}

-- the marks that the pass leaves in a row without any, if every label is asked for, as far as there are nodes
pub marked_all : {R : Rows} {M : List ℕ} {K K' : List Labels} {all : Labels} {t : Term} {n m : ℕ} → n ≤ m → RowsOf t n R → Exactly all (λ l. l < 256) → Marks R 0 all (replicate m 0) K M K' → answer.Ready t R (take n M)
marked_all {R} {M} {all = all} {t = t} {n} {m} h W e k = record { rows = rw long W; marked = λ i. pick i (dec_lt i n) }
  where
    long : length (take n M) ≡ n
    long = omega (arith, length-take n M, k.room, length-replicate {A = ℕ} m 0)

    added : (i : Node) → (get_or M i 0 ≡ 1) ↔ Wanted (Shows all) t i
    added i = let w = (k.part t (rows_part W)).adds.at i in let a = at_zero (Wanted (Shows all) t) i in
        (λ x. ⊎_elim (λ y. absurd (omega (arith, no_marks m i, y))) (λ y. a.0 y) (w.0 x), λ x. w.1 (inr (a.1 x)))

    low : (i : Node) → Wanted (λ l. l < 256) t i → i < n
    low i w = ⊎_elim (λ z. omega (arith, offers_under z.2, W.count)) (λ z. omega (arith, joins_under z.1, W.count)) w

    pick : (i : Node) → Dec (i < n) → (get_or (take n M) i 0 ≡ 1) ↔ Wanted (λ l. l < 256) t i
    pick i (yes l) = rw (get_or-take n M i 0 l) (trans (added i) (wanted_same {t = t} e.at i))
    pick i (no l) = rw (get_or_past (take n M) i 0 (omega (arith, long))) (λ x. absurd (omega (arith, x)), λ w. absurd (l (low i w)))

pub first_answer : (s : List ℕ) (t : Term) (p q : Node) → Reads s t → (r : Option Step) → answer.NextOf t p q r
    → FirstStep s p q 0 (answer.found (Ok r)) (answer.first_place (Ok r)) (answer.second_place (Ok r)) (answer.label (Ok r))
first_answer s t p q h None w = none h w
first_answer s t p q h (Some x) w = found h w
