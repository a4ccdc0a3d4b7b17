-- The pass on small records (01, Examples on both sides): each is computed.
use mathlib.Core.Path.{◌≡◌, refl}
use mathlib.Core.List.{[], ◌∷◌}
use mathlib.Core.Bool.{true}
use native.Mathlib.Decide.{ℕ_discrete, dec_le}
use lib.Dec.{eqb}
use Rattle.ccsk.specs.Term.{Term, nil, pre, cho, par, res, size}
use Rattle.ccsk.specs.Place.{shift}
use Rattle.ccsk.specs.Decide.{channel?, co?, on?}
use Rattle.format.specs.Encode.{encode}
use Rattle.moves.specs.Choose.{forward_choice, undo_choice, chosen, spots}
use Rattle.moves.specs.Move.{step, stuck, holds, move}

-- a.0 | a'.0 under a restriction on a
abbrev hidden : Term
hidden = res 1 (par (pre 1 0 nil) (pre 129 0 nil))

-- its prefixes are nodes 2 and 4, and their bytes begin at 3 and 8
hidden_nodes : chosen (forward_choice 2 4) 0 hidden ≡ 2 ∷ (4 ∷ [])
unfolding chosen shift size
hidden_nodes = refl

hidden_spots : spots (forward_choice 2 4) 0 0 hidden ≡ 3 ∷ (8 ∷ [])
unfolding spots encode size
hidden_spots = refl

-- together they step with tau; one alone is stopped by the restriction
hidden_together : move (forward_choice 2 4) (λ k. eqb k 0) 0 hidden ≡ step 0
unfolding move holds size co? on? channel? ℕ_discrete dec_le
hidden_together = refl

hidden_alone : move (forward_choice 2 0) (λ k. eqb k 0) 0 hidden ≡ stuck
unfolding move holds size co? on? channel? ℕ_discrete dec_le
hidden_alone = refl

-- a[1].0 + b.0: the second side does not go on
second_side : move (forward_choice 3 0) (λ k. eqb k 0) 0 (cho (pre 1 1 nil) (pre 2 0 nil)) ≡ stuck
unfolding move holds size
second_side = refl

-- two tau steps never join
two_taus : move (forward_choice 1 3) (λ k. eqb k 0) 0 (par (pre 0 0 nil) (pre 0 0 nil)) ≡ stuck
unfolding move holds size co? channel? ℕ_discrete dec_le
two_taus = refl

-- a[1].0 | a'[1].0: both halves of the shared step are undone
shared_undo : move (undo_choice 1) (λ k. true) 0 (par (pre 1 1 nil) (pre 129 1 nil)) ≡ step 0
unfolding move holds size co? channel? ℕ_discrete dec_le
shared_undo = refl

-- a[1].0 | a'[2].0: the right side stays
own_undo : move (undo_choice 1) (λ k. true) 0 (par (pre 1 1 nil) (pre 129 2 nil)) ≡ step 1
unfolding move holds size
own_undo = refl

-- a[1].b[2].0: 1 waits for 2
early_undo : move (undo_choice 1) (λ k. true) 0 (pre 1 1 (pre 2 2 nil)) ≡ stuck
unfolding move holds
early_undo = refl
