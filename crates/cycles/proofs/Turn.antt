-- One turn of the loop of `peel`, in the terms of its code: x is the number at the head of the queue, and both above it are released.
use mathlib.Core.Path.{◌≡◌}
use mathlib.Core.Logic.{◌↔◌}
use mathlib.Core.List.{List, [], ◌∷◌}
use Prim.Native.Nat.{ℕ, ◌+◌, ◌≤◌, ◌<◌}
use native.Mathlib.Numerals.{add-one}
use native.Mathlib.Omega.{arith}
use lib.ListN.{length, get_or}
use Rattle.cycles.specs.declared.Pair.{Pair}
use Rattle.cycles.specs.Pair.{firsts, seconds}
use Rattle.cycles.specs.Graph.{Acyclic}
use Rattle.cycles.specs.Counters.{Released}
use Rattle.cycles.proofs.Pairs.{nothing, firsts-length, first_at, second_at}
use Rattle.cycles.proofs.Rounds.{State, next_below, next, room, after, in_order, finish}

module _ (over : List Pair) (c q : List ℕ) (h t x : ℕ) (n : length over ≤ length c) (r : length over ≤ length q) (s : State (firsts over) (seconds over) c q h t []) (l : h < t) (e : x ≡ get_or q h 0) where
  abbrev one : List ℕ
  one = firsts over

  abbrev two : List ℕ
  two = seconds over

  -- the numbers above x
  abbrev u : ℕ
  u = (get_or over x nothing).first

  abbrev v : ℕ
  v = (get_or over x nothing).second

  x_in : x < length one
  x_in = rw e (next_below one two c q h t s l)

  pub x_below : x < length over
  x_below = omega (arith, x_in, firsts-length over)

  u_below : u < length one
  u_below = rw first_at at (s.columns.below_one x x_in)

  v_below : v < length one
  v_below = rw second_at at (s.columns.below_two x (omega (arith, x_in, s.columns.alike)))

  open_state : State one two c q (h + 1) t (u ∷ (v ∷ []))
  open_state = rw (first_at, second_at) at (let z : State one two c q (h + 1) t (get_or one x 0 ∷ (get_or two x 0 ∷ [])) = rw (e, add-one h) (next one two c q h t s l) in z)

  -- the first release is asked for rightly
  pub first_asked : (u < length c) × ((0 < get_or c u 0) × (t < length q))
  first_asked = let b = room one two c q (h + 1) t u (v ∷ []) open_state u_below in (omega (arith, u_below, firsts-length over), (b.0, omega (arith, firsts-length over)))

  module _ (c' q' : List ℕ) (t' : ℕ) (d : Released u c q t c' q' t') where
    half : (length c' ≡ length c) × (length q' ≡ length q) × State one two c' q' (h + 1) t' (v ∷ [])
    half = after one two c q (h + 1) t u (v ∷ []) c' q' t' (omega (arith, firsts-length over)) (omega (arith, firsts-length over)) u_below open_state d

    -- and so is the second
    pub second_asked : (v < length c') × ((0 < get_or c' v 0) × (t' < length q'))
    second_asked = let z = half in let b = room one two c' q' (h + 1) t' v [] half.2 v_below in (omega (arith, v_below, firsts-length over), (b.0, omega (arith, firsts-length over)))

    -- after both the turn is done
    pub turn_done : (c'' q'' : List ℕ) (t'' : ℕ) → Released v c' q' t' c'' q'' t'' → State one two c'' q'' (h + 1) t'' []
    turn_done c'' q'' t'' f = let z = half in (after one two c' q' (h + 1) t' v [] c'' q'' t'' (omega (arith, firsts-length over)) (omega (arith, firsts-length over)) v_below half.2 f).2

-- the head is below the number of columns
pub head_below : (over : List Pair) (c q : List ℕ) (h t : ℕ) → State (firsts over) (seconds over) c q h t [] → h < t → h < length over
head_below over c q h t s l = omega (arith, in_order (firsts over) (seconds over) c q h t [] s, firsts-length over)

-- the queue has run empty
pub at_end : (over : List Pair) (c q : List ℕ) (h t : ℕ) → State (firsts over) (seconds over) c q h t [] → t ≤ h → length over ≤ length c → (t + 1 ≡ length over) ↔ Acyclic (firsts over) (seconds over)
at_end over c q h t s l n = let a = in_order (firsts over) (seconds over) c q h t [] s in let e : h ≡ t = omega arith in
    rw firsts-length at (finish (firsts over) (seconds over) c q t (rw e at s) (omega (arith, firsts-length over)))
