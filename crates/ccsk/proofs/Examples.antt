-- The definitions of the calculus on small numbers and terms: each example computes.
use mathlib.Core.Path.{◌≡◌, refl}
use mathlib.Core.Logic.{inl, inr, ⊎_elim}
use mathlib.Core.List.{[], ◌∷◌}
use native.Mathlib.Omega.{arith}
use native.Mathlib.Decide.{ℕ_discrete}
use Rattle.ccsk.specs.Numbers.{In, in?, distinct, LeastFree, AscendingFrom, Lists}
use Rattle.ccsk.specs.Term.{Term, nil, pre, cho, par, res, Co, On, Std, Has, Fsh, labels, keys, blank, size}
use Rattle.ccsk.specs.Step.{Forward, Undo, Undoable}
use Rattle.ccsk.proofs.Loop.{undo_of_forward}
use Rattle.ccsk.specs.Place.{shift, places, ForwardAt, mark, marks, IsPrefix}

-- numbers

in_list : In 3 (1 ∷ (3 ∷ []))
in_list = inr (inl refl)

-- 1, 3, 1 are two different numbers
two_different : distinct (1 ∷ (3 ∷ (1 ∷ []))) ≡ 2
unfolding distinct in? ℕ_discrete
two_different = refl

-- 2 is the least number above 0 that 1, 3 leave out
two_is_free : LeastFree (1 ∷ (3 ∷ [])) 2
two_is_free = record {
  pos = omega arith;
  free = ⊎_elim (λ e. omega arith) (⊎_elim (λ e. omega arith) (λ e. e));
  least = λ j p q. inl (omega arith);
}

one_three_ascend : AscendingFrom 0 (1 ∷ (3 ∷ []))
one_three_ascend = (omega arith, (omega arith, tt))

-- the numbers that equal 4, as a list
fours : Lists (λ k. k ≡ 4) (4 ∷ [])
fours = ((omega arith, tt), λ k. (⊎_elim (λ e. (omega arith, e)) (λ e. absurd e), λ p. inl p.1))

-- labels: a is 1, its co-name a' is 129, tau is 0

name_and_co_name : Co 1 129
name_and_co_name = inl ((omega arith, omega arith), refl)

no_tau : ¬ Co 0 0
no_tau = ⊎_elim (λ p. omega (arith, p.0.0)) (λ p. omega (arith, p.0.0))

-- a restriction on a stops a'
stops_co_name : On 1 129
stops_co_name = ((omega arith, omega arith), inr refl)

-- terms: a[1].b.0 | a'[1].0, and before that step a.b.0 | a'.0
abbrev joined : Term
joined = par (pre 1 1 (pre 2 0 nil)) (pre 129 1 nil)

abbrev apart : Term
apart = par (pre 1 0 (pre 2 0 nil)) (pre 129 0 nil)

not_done : Std apart
not_done = (tt, tt)

done_once : Has 1 joined
done_once = inl (inl refl)

two_is_fresh : Fsh 2 joined
two_is_fresh = ⊎_elim (⊎_elim (λ e. omega arith) (⊎_elim (λ e. omega arith) (λ e. e))) (⊎_elim (λ e. omega arith) (λ e. e))

key_one_marks : labels 1 joined ≡ 1 ∷ (129 ∷ [])
unfolding labels
key_one_marks = refl

its_keys : keys joined ≡ 1 ∷ (1 ∷ [])
unfolding keys
its_keys = refl

its_blank_form : blank joined ≡ apart
unfolding blank
its_blank_form = refl

its_nodes : size joined ≡ 6
unfolding size
its_nodes = refl

-- steps: a makes its own step, and so does a'; together they step with tau, at the nodes 1 and 4

step_a : Forward (pre 1 0 (pre 2 0 nil)) 1 1 (pre 1 1 (pre 2 0 nil))
step_a = Forward.top {m = 1} (omega arith) tt

step_co_a : Forward (pre 129 0 nil) 1 129 (pre 129 1 nil)
step_co_a = Forward.top {m = 1} (omega arith) tt

together : Forward apart 1 0 joined
together = Forward.synch name_and_co_name step_a step_co_a

together_places : places together ≡ 1 ∷ (4 ∷ [])
unfolding places together step_a step_co_a shift size
together_places = refl

together_at : ForwardAt apart 1 (1 ∷ (4 ∷ []))
together_at = (0, joined, together, together_places)

-- the undo of the key 1 takes both back
taken_back : Undo joined 1 0 apart
taken_back = undo_of_forward together

undoable : Undoable joined 1
undoable = (0, apart, taken_back)

-- b steps below a[1], with another key that a'[1] does not hold
step_b : Forward (pre 2 0 nil) 2 2 (pre 2 2 nil)
step_b = Forward.top {m = 2} (omega arith) tt

not_beside : Fsh 2 (pre 129 1 nil)
not_beside = ⊎_elim (λ e. omega arith) (λ e. e)

then_b : Forward joined 2 2 (par (pre 1 1 (pre 2 2 nil)) (pre 129 1 nil))
then_b = Forward.par₁ not_beside (Forward.prefix {n = 1} {m = 2} (omega arith) (λ e. omega arith) step_b)

-- a restriction on a lets b pass, and a choice its second side while the first holds no key
passes_b : ¬ On 1 2
passes_b o = ⊎_elim (λ e. omega arith) (λ e. omega arith) o.1

second_side : Forward (res 1 (cho (pre 1 0 nil) (pre 2 0 nil))) 2 2 (res 1 (cho (pre 1 0 nil) (pre 2 2 nil)))
second_side = Forward.restrict passes_b (Forward.choice₂ tt step_b)

-- writing the key 1 at the nodes 1 and 4 makes the one of the other
written : marks 1 (1 ∷ (4 ∷ [])) apart ≡ joined
unfolding marks mark size
written = refl

node_four : IsPrefix 4 joined
unfolding size
node_four = tt
