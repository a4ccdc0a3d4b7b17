-- The conditions of soundness and the runs on small terms (01, Examples on both sides): each example computes.
use mathlib.Core.Path.{◌≡◌, refl}
use mathlib.Core.Logic.{inl, inr, ⊎_elim}
use mathlib.Core.List.{[], ◌∷◌}
use native.Mathlib.Omega.{arith}
use Rattle.ccsk.specs.Term.{Term, nil, pre, cho, par, res, labels}
use Rattle.ccsk.specs.Step.{Forward}
use Rattle.ccsk.proofs.Loop.{undo_of_forward}
use Rattle.sound.specs.Sound.{count, Waits, Chosen, Twice, Paired, Apart, Split, Hidden, Before, one, more, Ordered, Verdict}
use Rattle.sound.specs.Run.{Run, Undos}

-- a[1].0 | a'[1].0, and before that step a.0 | a'.0
abbrev shared : Term
shared = par (pre 1 1 nil) (pre 129 1 nil)

abbrev apart : Term
apart = par (pre 1 0 nil) (pre 129 0 nil)

stands_twice : count 1 shared ≡ 2
unfolding labels
stands_twice = refl

-- 1: a.b[1].0 fails
not_waiting : ¬ Waits (pre 1 0 (pre 2 1 nil))
not_waiting w = w

-- 2: a[1].0 + b[2].0 fails
both_sides : ¬ Chosen (cho (pre 1 1 nil) (pre 2 2 nil))
both_sides c = ⊎_elim (λ s. s) (λ s. s) c.0

-- 3: a[1].0 | (a[1].0 | a'[1].0) fails
three_times : ¬ Twice (par (pre 1 1 nil) shared)
unfolding labels
three_times t = omega (arith, t 1 (omega arith))

-- 4: a[1].0 | a[1].0 fails
same_actions : ¬ Paired (par (pre 1 1 nil) (pre 1 1 nil))
unfolding labels
same_actions p = ⊎_elim (λ c. omega (arith, c.1)) (λ c. omega (arith, c.1)) (p 1 (omega arith) 1 1 refl)

-- 5: in a[1].a'[1].0 the key 1 stands on no two sides of a parallel, and in a[1].0 | a'[1].0 it does
on_both_sides : Apart 1 shared
unfolding labels
on_both_sides = inl (refl, refl)

one_below_the_other : ¬ Split (pre 1 1 (pre 129 1 nil))
unfolding labels
one_below_the_other s = s 1 (omega arith) refl

-- 6: a[1].0 under a restriction on a fails
alone_under_restriction : ¬ Hidden (res 1 (pre 1 1 nil))
unfolding labels
alone_under_restriction h = let e = h.0 1 (omega arith) 1 (inl refl) ((omega arith, omega arith), inl refl) in omega arith

-- 7: in a[1].b[2].0 the key 1 stands above 2, and in a[1].b[2].0 | b'[2].a'[1].0 each stands above the other
one_above_two : Before (pre 1 1 (pre 2 2 nil)) 1 2
one_above_two = (omega arith, omega arith, (λ e. omega arith), inl (refl, inl refl))

abbrev crossed : Term
crossed = par (pre 1 1 (pre 2 2 nil)) (pre 130 2 (pre 129 1 nil))

in_a_circle : ¬ Ordered crossed
in_a_circle o = o 1 (more (one one_two) two_one)
  where
    one_two : Before crossed 1 2
    one_two = (omega arith, omega arith, (λ e. omega arith), inl (inl (refl, inl refl)))

    two_one : Before crossed 2 1
    two_one = (omega arith, omega arith, (λ e. omega arith), inr (inl (refl, inl refl)))

-- the verdict is the lowest number that fails
verdict_one : Verdict (pre 1 0 (pre 2 1 nil)) 1
verdict_one = Verdict.fails₁ not_waiting

-- runs: the one shared step, and its undo
step_a : Forward (pre 1 0 nil) 1 1 (pre 1 1 nil)
step_a = Forward.top {m = 1} (omega arith) tt

step_co_a : Forward (pre 129 0 nil) 1 129 (pre 129 1 nil)
step_co_a = Forward.top {m = 1} (omega arith) tt

together : Forward apart 1 0 shared
together = Forward.synch {l = 1} {k = 129} (inl ((omega arith, omega arith), refl)) step_a step_co_a

there : Run apart shared
there = Run.then Run.stay together

back : Undos (1 ∷ []) shared apart
back = Undos.then (undo_of_forward together) Undos.stay
