-- The lasts of small terms: 01's examples, and the errors that look reasonable.
use mathlib.Core.Path.{◌≡◌, refl}
use mathlib.Core.List.{[], ◌∷◌}
use Prim.Native.Nat.{ℕ}
use Rattle.ccsk.specs.Term.{Key, Label, nil, pre, cho, par, res, size}
use Rattle.moves.specs.Move.{holds}
use Rattle.lasts.specs.declared.Last.{Last}
use Rattle.lasts.specs.Last.{lasts, all_lasts}

abbrev at : Key → Label → ℕ → Last
at k a s = record { key = k; action = a; scope = s }

-- a[1].b[2].0: only 2 is last
below_first : all_lasts (pre 1 1 (pre 2 2 nil)) ≡ at 2 2 0 ∷ []
unfolding lasts holds
below_first = refl

-- a[1].0 | a'[1].0 under a restriction on a: both halves, in one scope
joined : all_lasts (res 1 (par (pre 1 1 nil) (pre 129 1 nil))) ≡ at 1 1 1 ∷ (at 1 129 1 ∷ [])
unfolding lasts holds size
joined = refl

-- a[1].0 under a restriction on a, beside a'[1].0: the halves are in different scopes
one_inside : all_lasts (par (res 1 (pre 1 1 nil)) (pre 129 1 nil)) ≡ at 1 1 2 ∷ (at 1 129 0 ∷ [])
unfolding lasts holds size
one_inside = refl

-- a[1].b[2].0 | b'[2].a'[1].0: one half of each key is last
crossed : all_lasts (par (pre 1 1 (pre 2 2 nil)) (pre 130 2 (pre 129 1 nil))) ≡ at 2 2 0 ∷ (at 1 129 0 ∷ [])
unfolding lasts holds size
crossed = refl

-- a[1].0 + b[2].0: keys on both sides, none is last; a[1].0 + b.0: 1 is
both_sides : all_lasts (cho (pre 1 1 nil) (pre 2 2 nil)) ≡ []
unfolding lasts holds size
both_sides = refl

one_side : all_lasts (cho (pre 1 1 nil) (pre 2 0 nil)) ≡ at 1 1 0 ∷ []
unfolding lasts holds size
one_side = refl

-- a.b[1].0: below a prefix that is not done none is last
not_done : all_lasts (pre 1 0 (pre 2 1 nil)) ≡ []
unfolding lasts holds
not_done = refl
