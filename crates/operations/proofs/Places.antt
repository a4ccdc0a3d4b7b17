-- The places of a derived step are places: each is a prefix node, and two of them ascend. Which numbers are places can be decided.
use mathlib.Core.Path.{◌≡◌}
use mathlib.Core.Bool.{Bool, true, false, cond}
use mathlib.Core.List.{List, [], ◌∷◌, ◌++◌}
use Prim.Native.Nat.{ℕ, zero, suc, ◌+◌, ◌-◌, ◌<◌}
use native.Mathlib.Decide.{dec_lt}
use native.Mathlib.Omega.{arith}
use borrow.Author.Tests.{lt-ltb, le-ltb}
use lib.Dec.{ltb}
use Rattle.ccsk.specs.Term.{Term, Label, Key, Node, nil, pre, cho, par, res, size}
use Rattle.ccsk.specs.Step.{Forward, Forward.top, Forward.prefix, Forward.choice₁, Forward.choice₂, Forward.par₁, Forward.par₂, Forward.synch, Forward.restrict}
use Rattle.ccsk.specs.Place.{shift, places, ForwardAt, IsPrefix}
use Rattle.ccsk.proofs.Decide.{three}
use Rattle.ccsk.proofs.Place.{Under, places_under, Placed, alone, joined, step_placed}
use Rattle.operations.specs.Order.{pair, ArePlaces}

abbrev one_side : (b : Bool) {A B : Type 0} → Dec A → Dec B → Dec (cond b A B)
one_side true a c = a
one_side false a c = c

unfoldable pub prefix? : (p : Node) (t : Term) → Dec (IsPrefix p t)
prefix? p nil = no (λ i. i)
prefix? zero (pre a k t) = yes tt
prefix? (suc p) (pre a k t) = prefix? p t
prefix? zero (cho t u) = no (λ i. i)
prefix? (suc p) (cho t u) = one_side (ltb p (size t)) (prefix? p t) (prefix? (p - size t) u)
prefix? zero (par t u) = no (λ i. i)
prefix? (suc p) (par t u) = one_side (ltb p (size t)) (prefix? p t) (prefix? (p - size t) u)
prefix? zero (res a t) = no (λ i. i)
prefix? (suc p) (res a t) = prefix? p t

-- refusal 4 can be decided
unfoldable pub places? : (t : Term) (p q : Node) → Dec (ArePlaces t p q)
places? t p zero = prefix? p t
places? t p (suc q) = three (prefix? p t) (prefix? (suc q) t) (dec_lt p (suc q))

-- each node of the list is a prefix
abbrev Prefixes : List Node → Term → Type 0
Prefixes [] t = Unit {0}
Prefixes (p ∷ x) t = IsPrefix p t × Prefixes x t

raise : (k : ℕ) (x : List Node) (t u : Term) → Under (size t) x → ((p : Node) → p < size t → IsPrefix p t → IsPrefix (k + p) u) → Prefixes x t → Prefixes (shift k x) u
unfolding shift
raise k [] t u h f i = tt
raise k (p ∷ x) t u h f i = (f p h.0 i.0, raise k x t u h.1 f i.1)

together : (x y : List Node) (t : Term) → Prefixes x t → Prefixes y t → Prefixes (x ++ y) t
together [] y t i j = j
together (p ∷ x) y t i j = (i.0, together x y t i.1 j)

below-pre : (a k : ℕ) (t : Term) (p : Node) → IsPrefix p t → IsPrefix (1 + p) (pre a k t)
below-pre a k t p i = let e : 1 + p ≡ suc p = omega arith in rw e i

below-res : (a : ℕ) (t : Term) (p : Node) → IsPrefix p t → IsPrefix (1 + p) (res a t)
below-res a t p i = let e : 1 + p ≡ suc p = omega arith in rw e i

left_cho : (t u : Term) (p : Node) → p < size t → IsPrefix p t → IsPrefix (1 + p) (cho t u)
left_cho t u p h i = let e : 1 + p ≡ suc p = omega arith in rw (e, lt-ltb p (size t) h) i

left_par : (t u : Term) (p : Node) → p < size t → IsPrefix p t → IsPrefix (1 + p) (par t u)
left_par t u p h i = let e : 1 + p ≡ suc p = omega arith in rw (e, lt-ltb p (size t) h) i

right_cho : (t u : Term) (p : Node) → IsPrefix p u → IsPrefix ((1 + size t) + p) (cho t u)
right_cho t u p i = let e : (1 + size t) + p ≡ suc (size t + p) = omega arith in let f : (size t + p) - size t ≡ p = omega arith in rw (e, le-ltb (size t + p) (size t) (omega arith), f) i

right_par : (t u : Term) (p : Node) → IsPrefix p u → IsPrefix ((1 + size t) + p) (par t u)
right_par t u p i = let e : (1 + size t) + p ≡ suc (size t + p) = omega arith in let f : (size t + p) - size t ≡ p = omega arith in rw (e, le-ltb (size t + p) (size t) (omega arith), f) i

step_prefixes : {t u : Term} {m : Key} {l : Label} (d : Forward t m l u) → Prefixes (places d) t
unfolding places
step_prefixes (top h s) = (tt, tt)
step_prefixes (prefix {a = a} {n = n} {t = t} h f d) = raise 1 (places d) t (pre a n t) (places_under d) (λ p o i. below-pre a n t p i) (step_prefixes d)
step_prefixes (choice₁ {t = t} {u = u} s d) = raise 1 (places d) t (cho t u) (places_under d) (left_cho t u) (step_prefixes d)
step_prefixes (choice₂ {t = t} {u = u} s d) = raise (1 + size t) (places d) u (cho t u) (places_under d) (λ p o i. right_cho t u p i) (step_prefixes d)
step_prefixes (par₁ {t = t} {u = u} f d) = raise 1 (places d) t (par t u) (places_under d) (left_par t u) (step_prefixes d)
step_prefixes (par₂ {t = t} {u = u} f d) = raise (1 + size t) (places d) u (par t u) (places_under d) (λ p o i. right_par t u p i) (step_prefixes d)
step_prefixes (synch {t = t} {u = u} c d e) = together (shift 1 (places d)) (shift (1 + size t) (places e)) (par t u)
    (raise 1 (places d) t (par t u) (places_under d) (left_par t u) (step_prefixes d))
    (raise (1 + size t) (places e) u (par t u) (places_under e) (λ p o i. right_par t u p i) (step_prefixes e))
step_prefixes (restrict {a = a} {t = t} f d) = raise 1 (places d) t (res a t) (places_under d) (λ p o i. below-res a t p i) (step_prefixes d)

ascend : {t : Term} {l : Label} {x : List Node} {p q : Node} → x ≡ p ∷ (q ∷ []) → Placed t l x → p < q
ascend e (alone p i) = let z : ◌≡◌ {A = ℕ} 0 1 = cc in absurd (omega arith)
ascend {p = p} {q = q} e (joined p' q' o z c) = let a : p' ≡ p = cc in let b : q' ≡ q = cc in omega arith

-- where a step is derived, p and q are places
pub forward_places : (t : Term) (m : Key) (p q : Node) → ForwardAt t m (pair p q) → ArePlaces t p q
forward_places t m p zero w = let i : Prefixes (p ∷ []) t = rw w.3 at (step_prefixes w.2) in i.0
forward_places t m p (suc q) w =
    let i : Prefixes (p ∷ (suc q ∷ [])) t = rw w.3 at (step_prefixes w.2) in
    (i.0, i.1.0, ascend w.3 (step_placed w.2))
