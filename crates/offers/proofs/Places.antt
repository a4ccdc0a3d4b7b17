-- Places of a part, and of a part of a part.
use mathlib.Core.Path.{◌≡◌, refl}
use mathlib.Core.Logic.{◌⊎◌, inl, inr, ⊎_elim, ◌↔◌}
use Prim.Native.Nat.{◌+◌}
use native.Mathlib.Omega.{arith}
use Rattle.ccsk.specs.Term.{Node}
use Rattle.offers.specs.Offers.{At}

pub trans : {A B C : Type 0} → A ↔ B → B ↔ C → A ↔ C
trans f g = (λ a. g.0 (f.0 a), λ c. f.1 (g.1 c))

pub flip : {A B : Type 0} → A ↔ B → B ↔ A
flip f = (f.1, f.0)

-- a place of a part of a part
pub at_in : (P : Node → Type 0) (n k m i : Node) → m ≡ n + k → At n (At k P) i ↔ At m P i
at_in P n k m i e = (λ w. let z = w.2 in (z.0, omega (arith, w.1, z.1), z.2), λ w. (k + w.0, omega (arith, w.1), (w.0, refl, w.2)))

pub at_same : {P Q : Node → Type 0} (n i : Node) → ((q : Node) → P q ↔ Q q) → At n P i ↔ At n Q i
at_same n i f = (λ w. (w.0, w.1, (f w.0).0 w.2), λ w. (w.0, w.1, (f w.0).1 w.2))

-- the places of a part that are those of one part of it, or of two
pub at_one : {P Q : Node → Type 0} (n k m i : Node) → m ≡ n + k → ((q : Node) → P q ↔ At k Q q) → At n P i ↔ At m Q i
at_one {Q = Q} n k m i e f = (λ w. (at_in Q n k m i e).0 (w.0, w.1, (f w.0).0 w.2), λ w. let y = (at_in Q n k m i e).1 w in (y.0, y.1, (f y.0).1 y.2))

pub at_two_lem : {P Q R : Node → Type 0} (n k m h j i : Node) → h ≡ n + k → j ≡ n + m → ((q : Node) → P q ↔ (At k Q q ⊎ At m R q)) → At n P i ↔ (At h Q i ⊎ At j R i)
at_two_lem {Q = Q} {R = R} n k m h j i d e f = (
  λ w. ⊎_elim (λ z. inl ((at_in Q n k h i d).0 (w.0, w.1, z))) (λ z. inr ((at_in R n m j i e).0 (w.0, w.1, z))) ((f w.0).0 w.2),
  λ w. ⊎_elim (λ z. let y = (at_in Q n k h i d).1 z in (y.0, y.1, (f y.0).1 (inl y.2))) (λ z. let y = (at_in R n m j i e).1 z in (y.0, y.1, (f y.0).1 (inr y.2))) w,
)

-- the one place of a prefix that steps itself
pub at_own : {P : Node → Type 0} {X : Type 0} (n i : Node) → ((q : Node) → P q ↔ ((q ≡ 0) × X)) → At n P i ↔ ((i ≡ n) × X)
at_own n i f = (λ w. let z = (f w.0).0 w.2 in (omega (arith, w.1, z.0), z.1), λ w. (0, omega (arith, w.0), (f 0).1 (refl, w.1)))

-- two places of a part
abbrev pub Pair : Node → Node → (Node → Node → Type 0) → Node → Node → Type 0
Pair n m R i j = At n (λ p. At m (R p) j) i

pub pair_in : {S : Node → Node → Type 0} (R : Node → Node → Type 0) (n k l m h i j : Node) → m ≡ n + k → h ≡ n + l → ((p q : Node) → S p q ↔ Pair k l R p q) → Pair n n S i j ↔ Pair m h R i j
pair_in R n k l m h i j d e f = (
  λ w. let v = w.2 in let z = (f w.0 v.0).0 v.2 in let y = z.2 in (z.0, omega (arith, w.1, z.1), (y.0, omega (arith, v.1, y.1), y.2)),
  λ w. let v = w.2 in (k + w.0, omega (arith, w.1), (l + v.0, omega (arith, v.1), (f (k + w.0) (l + v.0)).1 (w.0, refl, (v.0, refl, v.2)))),
)
