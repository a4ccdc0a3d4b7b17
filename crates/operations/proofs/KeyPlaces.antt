-- After a forward step its key stands exactly at the step's places.
use mathlib.Core.Path.{◌≡◌, refl}
use mathlib.Core.Logic.{inl, inr, ⊎_elim, ◌↔◌}
use mathlib.Core.Bool.{Bool, true, false, cond}
use mathlib.Core.List.{List, [], ◌∷◌, ◌++◌, append-nil}
use Prim.Native.Nat.{ℕ, zero, suc, ◌+◌, ◌-◌, ◌<◌, ◌≤◌}
use native.Mathlib.Decide.{dec_lt}
use native.Mathlib.Omega.{arith}
use borrow.Author.Tests.{lt-ltb, le-ltb}
use lib.Dec.{ltb}
use Rattle.ccsk.specs.Numbers.{In}
use Rattle.ccsk.specs.Term.{Term, Label, Key, Node, nil, pre, cho, par, res, Std, Has, size}
use Rattle.ccsk.specs.Step.{Forward, Forward.top, Forward.prefix, Forward.choice₁, Forward.choice₂, Forward.par₁, Forward.par₂, Forward.synch, Forward.restrict}
use Rattle.ccsk.specs.Place.{shift, places}
use Rattle.ccsk.proofs.Basic.{std_has}
use Rattle.ccsk.proofs.Lists.{in_left, in_right, in_either}
use Rattle.ccsk.proofs.Loop.{undo_of_forward}
use Rattle.ccsk.proofs.Undo.{key_pos, blank_kept}
use Rattle.ccsk.proofs.Place.{Under, places_under}
use Rattle.operations.specs.Runs.{HoldsAt}
use Rattle.operations.proofs.Kept.{same_shape}

-- which numbers stand in a shifted list
shift_in : (k p : ℕ) (x : List ℕ) → In p (shift k x) ↔ ((k ≤ p) × In (p - k) x)
unfolding shift
shift_in k p [] = (λ i. absurd i, λ i. i.1)
shift_in k p (a ∷ x) = let r = shift_in k p x in (⊎_elim (λ e. (omega arith, inl (omega arith))) (λ i. ((r.0 i).0, inr (r.0 i).1)), λ i. ⊎_elim (λ e. inl (omega (arith, i.0))) (λ j. inr (r.1 (i.0, j))) i.1)

under_in : (n p : ℕ) (x : List ℕ) → Under n x → In p x → p < n
under_in n p [] u i = absurd i
under_in n p (a ∷ x) u (inl e) = omega (arith, u.0)
under_in n p (a ∷ x) u (inr i) = under_in n p x u.1 i

-- one child: node p of it is node 1 + p of the whole
below : (p : ℕ) (x : List ℕ) {L : Type 0} → L ↔ In p x → L ↔ In (suc p) (shift 1 x)
below p x r = let e : suc p - 1 ≡ p = omega arith in (λ l. (shift_in 1 (suc p) x).1 (omega arith, rw e (r.0 l)), λ i. r.1 (rw e at ((shift_in 1 (suc p) x).0 i).1))

root : (x : List ℕ) → ¬ In 0 (shift 1 x)
root x i = omega (arith, ((shift_in 1 0 x).0 i).0)

-- two children, the left one of n nodes
beside : (p n : ℕ) (x y : List ℕ) {L R : Type 0} → Under n x → L ↔ In p x → R ↔ In (p - n) y → cond (ltb p n) L R ↔ In (suc p) (shift 1 x ++ shift (1 + n) y)
beside p n x y {L} {R} u l r = pick (dec_lt p n)
  where
    e : suc p - (1 + n) ≡ p - n
    e = omega arith

    pick : Dec (p < n) → cond (ltb p n) L R ↔ In (suc p) (shift 1 x ++ shift (1 + n) y)
    pick (yes h) = rw (lt-ltb p n h) (
      λ a. in_left (suc p) (shift 1 x) (shift (1 + n) y) ((below p x l).0 a),
      λ i. ⊎_elim (below p x l).1 (λ j. absurd (omega (arith, ((shift_in (1 + n) (suc p) y).0 j).0))) (in_either (suc p) (shift 1 x) (shift (1 + n) y) i),
    )
    pick (no h) = rw (le-ltb p n (omega arith)) (
      λ a. in_right (suc p) (shift 1 x) (shift (1 + n) y) ((shift_in (1 + n) (suc p) y).1 (omega arith, rw e (r.0 a))),
      λ i. ⊎_elim (λ j. absurd (h (under_in n p x u (rw (one p) at ((shift_in 1 (suc p) x).0 j).1)))) (λ j. r.1 (rw e at ((shift_in (1 + n) (suc p) y).0 j).1)) (in_either (suc p) (shift 1 x) (shift (1 + n) y) i),
    )
      where
        one : (p : ℕ) → suc p - 1 ≡ p
        one p = omega arith

root_two : (n : ℕ) (x y : List ℕ) → ¬ In 0 (shift 1 x ++ shift (1 + n) y)
root_two n x y i = ⊎_elim (root x) (λ j. omega (arith, ((shift_in (1 + n) 0 y).0 j).0)) (in_either 0 (shift 1 x) (shift (1 + n) y) i)

-- a key that stands at a node stands in the term
one_of : (b : Bool) {A B C : Type 0} → (A → C) → (B → C) → cond b A B → C
one_of true f g i = f i
one_of false f g i = g i

pub holds_has : (m : Key) (p : Node) (t : Term) → HoldsAt m p t → Has m t
holds_has m p nil i = i
holds_has m zero (pre a k t) i = inl i
holds_has m (suc p) (pre a k t) i = inr (holds_has m p t i)
holds_has m zero (cho t u) i = absurd i
holds_has m (suc p) (cho t u) i = one_of (ltb p (size t)) (λ j. inl (holds_has m p t j)) (λ j. inr (holds_has m (p - size t) u j)) i
holds_has m zero (par t u) i = absurd i
holds_has m (suc p) (par t u) i = one_of (ltb p (size t)) (λ j. inl (holds_has m p t j)) (λ j. inr (holds_has m (p - size t) u j)) i
holds_has m zero (res a t) i = absurd i
holds_has m (suc p) (res a t) i = holds_has m p t i

-- where the key stands nowhere, it stands at no node
nowhere : (m : Key) (p : Node) (t : Term) → ¬ Has m t → HoldsAt m p t ↔ In p []
nowhere m p t f = (λ i. f (holds_has m p t i), λ i. absurd i)

size_step : {t u : Term} {m : Key} {l : Label} → Forward t m l u → size u ≡ size t
size_step {t} {u} d = (same_shape u t (blank_kept (undo_of_forward d))).0

fresh_std : (t : Term) {u v : Term} {m : Key} {l : Label} → Std t → Forward u m l v → ¬ Has m t
fresh_std t s d = std_has t s (key_pos (undo_of_forward d))

pub key_at_places : {t u : Term} {m : Key} {l : Label} (d : Forward t m l u) (p : Node) → HoldsAt m p u ↔ In p (places d)
unfolding places shift
key_at_places (top h s) zero = (λ e. inl refl, λ i. refl)
key_at_places (top {m = m} {t = t} h s) (suc p) = (λ i. absurd (std_has t s h (holds_has m p t i)), λ i. ⊎_elim (λ e. absurd (omega arith)) (λ j. absurd j) i)
key_at_places (prefix h n d) zero = (λ e. absurd (n e), λ i. absurd (root (places d) i))
key_at_places (prefix h n d) (suc p) = below p (places d) (key_at_places d p)
key_at_places (choice₁ s d) zero = (λ e. absurd e, λ i. absurd (root (places d) i))
key_at_places (choice₁ {m = m} {t = t} {u = v} s d) (suc p) = rw (size_step d, ← append-nil (shift 1 (places d))) (beside p (size t) (places d) [] (places_under d) (key_at_places d p) (nowhere m (p - size t) v (fresh_std v s d)))
key_at_places (choice₂ {t = t} s d) zero = (λ e. absurd e, λ i. absurd (root_two (size t) [] (places d) i))
key_at_places (choice₂ {m = m} {t = t} s d) (suc p) = beside p (size t) [] (places d) tt (nowhere m p t (fresh_std t s d)) (key_at_places d (p - size t))
key_at_places (par₁ f d) zero = (λ e. absurd e, λ i. absurd (root (places d) i))
key_at_places (par₁ {m = m} {t = t} {u = v} f d) (suc p) = rw (size_step d, ← append-nil (shift 1 (places d))) (beside p (size t) (places d) [] (places_under d) (key_at_places d p) (nowhere m (p - size t) v f))
key_at_places (par₂ {t = t} f d) zero = (λ e. absurd e, λ i. absurd (root_two (size t) [] (places d) i))
key_at_places (par₂ {m = m} {t = t} f d) (suc p) = beside p (size t) [] (places d) tt (nowhere m p t f) (key_at_places d (p - size t))
key_at_places (synch {t = t} c d e) zero = (λ z. absurd z, λ i. absurd (root_two (size t) (places d) (places e) i))
key_at_places (synch {t = t} c d e) (suc p) = rw (size_step d) (beside p (size t) (places d) (places e) (places_under d) (key_at_places d p) (key_at_places e (p - size t)))
key_at_places (restrict f d) zero = (λ e. absurd e, λ i. absurd (root (places d) i))
key_at_places (restrict f d) (suc p) = below p (places d) (key_at_places d p)
