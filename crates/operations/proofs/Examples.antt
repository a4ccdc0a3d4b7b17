-- The definitions that `Marked` and `Sides` do not show at work: the order of places, a filled row, blank form, runs, keys and where they stand.
use mathlib.Core.Path.{◌≡◌, refl}
use mathlib.Core.Logic.{inl, inr}
use mathlib.Core.List.{List, [], ◌∷◌}
use Prim.Native.Nat.{ℕ}
use native.Mathlib.Decide.{ℕ_discrete, dec_le, dec_lt}
use native.Mathlib.Omega.{arith}
use Rattle.ccsk.specs.Numbers.{in?, distinct}
use Rattle.ccsk.specs.Term.{Term, nil, pre, par, keys, blank, size}
use Rattle.ccsk.specs.Decide.{channel?, co?}
use Rattle.ccsk.specs.Place.{shift, places}
use Rattle.ccsk.proofs.Basic.{has?}
use Rattle.ccsk.proofs.Decide.{std?}
use Rattle.ccsk.proofs.ForwardDec.{forward?, do_zero, do_pre, do_cho, do_par, do_res, below?, unshift, zero?}
use Rattle.ccsk.proofs.UndoDec.{undo?}
use Rattle.sound.specs.Sound.{Before}
use Rattle.format.specs.Read.{decode, read, node, kind_of, finish}
use Rattle.format.specs.Encode.{encode}
use Rattle.operations.specs.Order.{pair, ArePlaces, AtOrAfter, WaitsFor}
use Rattle.operations.specs.Change.{ForwardStep, UndoStep, BlankForm}
use Rattle.operations.specs.Ask.{Filled}
use Rattle.operations.specs.Runs.{ForwardRun, UndoRun, KeyIn, HoldsAt}
use Rattle.operations.proofs.Choose.{Fit}
use Rattle.operations.proofs.Places.{places?, prefix?}
use Rattle.operations.proofs.ChangeOnce.{forward_answer, forward_of, undo_answer, undo_of, blank_answer, blank_some}
use Rattle.operations.proofs.RowOnce.{link_waits}
use Rattle.operations.proofs.Marked.{forward_computed, undo_computed, beside, one}

-- one place, and two
as_places : (pair 2 0 ≡ 2 ∷ []) × (pair 2 4 ≡ 2 ∷ (4 ∷ []))
as_places = (refl, refl)

-- (2, 0) comes before (2, 4), and (2, 4) before (3, 0)
in_order : AtOrAfter 2 0 2 4 × AtOrAfter 2 4 3 0
in_order = (inr (refl, omega arith), inl (omega arith))

-- a[1].b[2].0
abbrev two_done : Term
two_done = pre 1 1 (pre 2 2 nil)

both_prefixes : ArePlaces two_done 0 1
both_prefixes = (tt, tt, omega arith)

one_above_two : Before two_done 1 2
one_above_two = (omega arith, omega arith, (λ e. omega arith), inl (refl, inl refl))

one_waits_for_two : WaitsFor two_done 1 2
one_waits_for_two = link_waits two_done 1 2 one_above_two

holds_two : HoldsAt 2 1 two_done
holds_two = refl

-- 2 goes to the front of a row of two, and is refused by a row of none
filled_row : Filled (2 ∷ []) (7 ∷ (8 ∷ [])) 0 1 (2 ∷ (8 ∷ []))
filled_row = Filled.filled (omega arith)

short_row : Filled (2 ∷ []) [] 9 0 []
short_row = Filled.short (omega arith)

-- a.0 | a'.0, and the same with key 1 on both
abbrev apart : List ℕ
apart = beside (one 1 0) (one 129 0)

abbrev shared : List ℕ
shared = beside (one 1 1) (one 129 1)

blank_computed : {s b : List ℕ} {r n : ℕ} → blank_answer s ≡ (r, n, b) → BlankForm s r n b
blank_computed {s} {b} {r} {n} e = let f : Fit (BlankForm s) (r, n, b) = rw e at (blank_some s) in f

-- its blank form, with one key removed; of no bytes, refusal 1
blanked : BlankForm shared 0 1 apart × BlankForm [] 1 0 []
unfolding decode read node kind_of finish encode blank_answer blank keys distinct in? ℕ_discrete
blanked = (blank_computed refl, blank_computed refl)

together : ForwardStep apart 1 3 1 0 0 shared
unfolding decode read node kind_of finish encode forward_answer forward_of places? prefix? forward? do_zero do_pre do_cho do_par do_res below? unshift zero? size shift places has? std? co? channel? dec_le dec_lt ℕ_discrete
together = forward_computed refl

taken_back : UndoStep shared 1 0 0 apart
unfolding decode read node kind_of finish encode undo_answer undo_of undo? has? std? co? channel? dec_le ℕ_discrete
taken_back = undo_computed refl

there : ForwardRun apart shared
there = ForwardRun.then {m = 1} ForwardRun.stay (omega arith) together

back : UndoRun (1 ∷ []) shared apart
back = UndoRun.then taken_back UndoRun.stay

one_stands : KeyIn 1 shared
unfolding decode read node kind_of finish
one_stands = (par (pre 1 1 nil) (pre 129 1 nil), refl, omega arith, inl (inl refl))
