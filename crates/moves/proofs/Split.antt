-- The nodes of a term's two sides, put together as one list, can be told apart again.
use mathlib.Core.Path.{◌≡◌, refl, sym}
use mathlib.Core.Logic.{◌≢◌}
use mathlib.Core.List.{List, [], ◌∷◌, ◌++◌, append-nil}
use mathlib.Core.Bool.{Bool, true, false}
use Prim.Native.Nat.{ℕ, suc, ◌+◌}
use native.Mathlib.Omega.{arith}
use Rattle.ccsk.specs.Term.{Term, Key, Node, nil, pre, cho, par, res, size, tick}
use Rattle.ccsk.specs.Place.{shift}
use Rattle.ccsk.proofs.Place.{Under, under_shift, under_append}
use Rattle.ccsk.proofs.Basic.{nil_left, nil_right}
use Rattle.ccsk.proofs.ForwardDec.{shift_once, down_le}
use Rattle.moves.specs.Choose.{chosen}

pub shift-nil : (k : ℕ) (x : List ℕ) → shift k x ≡ [] → x ≡ []
unfolding shift
shift-nil k x e = shift_once k x [] e

pub some_left : (k j : ℕ) (x y : List ℕ) → x ≢ [] → shift k x ++ shift j y ≢ []
some_left k j x y f e = f (shift-nil k x (nil_left (shift k x) (shift j y) e))

pub some_right : (k j : ℕ) (x y : List ℕ) → y ≢ [] → shift k x ++ shift j y ≢ []
some_right k j x y f e = f (shift-nil j y (nil_right (shift k x) (shift j y) e))

-- the chosen nodes are nodes of the term
pub chosen_under : (c : Node → Key → Bool) (n : Node) (t : Term) → Under (size t) (chosen c n t)
unfolding chosen size
chosen_under c n nil = tt
chosen_under c n (pre a k t) = first (c n k) (under_shift 1 (size t) (suc (size t)) (chosen c (n + 1) t) (omega arith) (chosen_under c (n + 1) t))
  where
    first : (b : Bool) → Under (suc (size t)) (shift 1 (chosen c (n + 1) t)) → Under (suc (size t)) (tick b 0 (shift 1 (chosen c (n + 1) t)))
    first true u = (omega arith, u)
    first false u = u
chosen_under c n (cho t u) = under_append (suc (size t + size u)) (shift 1 (chosen c (n + 1) t)) (shift (1 + size t) (chosen c (n + 1 + size t) u))
    (under_shift 1 (size t) (suc (size t + size u)) (chosen c (n + 1) t) (omega arith) (chosen_under c (n + 1) t))
    (under_shift (1 + size t) (size u) (suc (size t + size u)) (chosen c (n + 1 + size t) u) (omega arith) (chosen_under c (n + 1 + size t) u))
chosen_under c n (par t u) = under_append (suc (size t + size u)) (shift 1 (chosen c (n + 1) t)) (shift (1 + size t) (chosen c (n + 1 + size t) u))
    (under_shift 1 (size t) (suc (size t + size u)) (chosen c (n + 1) t) (omega arith) (chosen_under c (n + 1) t))
    (under_shift (1 + size t) (size u) (suc (size t + size u)) (chosen c (n + 1 + size t) u) (omega arith) (chosen_under c (n + 1 + size t) u))
chosen_under c n (res a t) = under_shift 1 (size t) (suc (size t)) (chosen c (n + 1) t) (omega arith) (chosen_under c (n + 1) t)

-- a list of the first side's nodes, then the second side's, says which are which
pub split : (k : ℕ) (x y z w : List ℕ) → Under k x → Under k z → shift 1 x ++ shift (1 + k) y ≡ shift 1 z ++ shift (1 + k) w → (x ≡ z) × (y ≡ w)
unfolding shift
split k [] y [] w u v e = (refl, shift_once (1 + k) y w e)
split k [] y (q ∷ z) w u v e = absurd (omega (arith, down_le (1 + k) (1 + q) (shift 1 z ++ shift (1 + k) w) y e))
split k (p ∷ x) y [] w u v e = absurd (omega (arith, down_le (1 + k) (1 + p) (shift 1 x ++ shift (1 + k) y) w (sym e)))
split k (p ∷ x) y (q ∷ z) w u v e =
    let a : 1 + p ≡ 1 + q = cc in let b : p ≡ q = omega arith in let f : shift 1 x ++ shift (1 + k) y ≡ shift 1 z ++ shift (1 + k) w = cc in
    let r = split k x y z w u.1 v.1 f in (cc, r.1)

pub split_left : (k : ℕ) (x y z : List ℕ) → Under k x → Under k z → shift 1 z ≡ shift 1 x ++ shift (1 + k) y → (z ≡ x) × (y ≡ [])
unfolding shift
split_left k x y z u v e = let r = split k x y z [] u v (rw append-nil (sym e)) in (sym r.0, r.1)

pub split_right : (k : ℕ) (x y z : List ℕ) → Under k x → shift (1 + k) z ≡ shift 1 x ++ shift (1 + k) y → (z ≡ y) × (x ≡ [])
unfolding shift
split_right k x y z u e = let r = split k x y [] z u tt (sym e) in (sym r.1, r.0)
