-- The move of chosen prefixes decides the forward step at them: none is chosen, or the rules derive the step with the label, or they derive none.
use mathlib.Core.Path.{◌≡◌, refl, ap, sym, ◌∙◌}
use mathlib.Core.Logic.{◌⊎◌, inl, inr, ⊎_elim, ◌≢◌}
use mathlib.Core.List.{List, [], ◌∷◌, ◌++◌, append-nil}
use mathlib.Core.Bool.{Bool, true, false, not}
use Prim.Native.Nat.{ℕ, ◌+◌, ◌<◌}
use native.Mathlib.Omega.{arith}
use lib.Dec.{eqb}
use Rattle.ccsk.specs.Term.{Term, Name, Label, Key, Node, nil, pre, cho, par, res, Std, Fsh, Co, On, size, tick}
use Rattle.ccsk.specs.Step.{Forward, Forward.top, Forward.prefix, Forward.choice₁, Forward.choice₂, Forward.par₁, Forward.par₂, Forward.synch, Forward.restrict}
use Rattle.ccsk.specs.Place.{shift, places, ForwardAt}
use Rattle.ccsk.proofs.Basic.{never}
use Rattle.ccsk.proofs.Place.{Under, Placed, alone, joined, places_under, step_placed}
use Rattle.ccsk.specs.Decide.{co?, on?}
use Rattle.ccsk.proofs.ForwardDec.{zero_one, shift_once, down_le, Below, With, Joint, single, inv_pre, inv_cho, inv_par, inv_res, label}
use Rattle.moves.specs.Choose.{chosen}
use Rattle.moves.specs.Move.{Move, still, step, stuck, holds, own, pass, move_over_prefix, move_over_choice, move_over_parallel, move_over_restriction, joined_if, hidden_if, move}
use Rattle.moves.proofs.Holds.{Says, equal_says, Holding, holding}
use Rattle.moves.proofs.Split.{shift-nil, some_left, some_right, chosen_under, split, split_left, split_right}
use Rattle.moves.proofs.Written.{keyed, written}

-- what a move tells of the step of t at the places x, which leads to v
abbrev pub Tells : Key → Term → List Node → Term → Move → Type 0
Tells m t x v still = (x ≡ []) × (v ≡ t)
Tells m t x v (step l) = (d : Forward t m l v) × (places d ≡ x)
Tells m t x v stuck = (x ≢ []) × ¬ ForwardAt t m x

some_placed : {t : Term} {l : Label} {x : List ℕ} → Placed t l x → x ≢ []
some_placed (alone p a) e = zero_one (cc)
some_placed (joined p q o z c) e = zero_one (cc)

pub some_places : {t v : Term} {m : Key} {l : Label} {x : List Node} (d : Forward t m l v) → places d ≡ x → x ≢ []
some_places d e f = some_placed (step_placed d) (e ∙ f)

below-zero : {A : Type 0} (x y : List ℕ) → shift 1 y ≡ 0 ∷ x → A
below-zero x y e = absurd (omega (arith, down_le 1 0 x y e))

tail_nil : (x : List ℕ) → 0 ∷ [] ≡ 0 ∷ shift 1 x → x ≡ []
tail_nil x e = let f : shift 1 x ≡ [] = cc in shift-nil 1 x f

at_under : {t : Term} {m : Key} {x : List Node} → ForwardAt t m x → Under (size t) x
at_under w = rw w.3 at (places_under w.2)

-- a step of a choice is a step of one side, and no place is on the other
un_cho : (m : Key) (t u : Term) (x y : List Node) → Under (size t) x → ForwardAt (cho t u) m (shift 1 x ++ shift (1 + size t) y)
    → (Std u × ForwardAt t m x × (y ≡ [])) ⊎ (Std t × ForwardAt u m y × (x ≡ []))
un_cho m t u x y h w = ⊎_elim (λ i. inl (left i.0 i.1)) (λ i. inr (right i.0 i.1)) (inv_cho w.2 w.3)
  where
    left : Std u → Below 1 (shift 1 x ++ shift (1 + size t) y) (ForwardAt t m) → Std u × ForwardAt t m x × (y ≡ [])
    left s b = let r = split_left (size t) x y b.0 h (at_under b.2) b.1 in (s, rw r.0 at b.2, r.1)

    right : Std t → Below (1 + size t) (shift 1 x ++ shift (1 + size t) y) (ForwardAt u m) → Std t × ForwardAt u m y × (x ≡ [])
    right s b = let r = split_right (size t) x y b.0 h b.1 in (s, rw r.0 at b.2, r.1)

-- a step of a parallel is a step of one side, or the two steps at both sides' places with complementary labels
un_par : (m : Key) (t u : Term) (x y : List Node) → Under (size t) x → ForwardAt (par t u) m (shift 1 x ++ shift (1 + size t) y)
    → (ForwardAt t m x × (y ≡ [])) ⊎ ((ForwardAt u m y × (x ≡ [])) ⊎ ((v : ForwardAt t m x) × (w : ForwardAt u m y) × Co v.0 w.0))
un_par m t u x y h w = ⊎_elim (λ i. inl (left i.1)) (⊎_elim (λ i. inr (inl (right i.1))) (λ i. inr (inr (both i)))) (inv_par w.2 w.3)
  where
    left : Below 1 (shift 1 x ++ shift (1 + size t) y) (ForwardAt t m) → ForwardAt t m x × (y ≡ [])
    left b = let r = split_left (size t) x y b.0 h (at_under b.2) b.1 in (rw r.0 at b.2, r.1)

    right : Below (1 + size t) (shift 1 x ++ shift (1 + size t) y) (ForwardAt u m) → ForwardAt u m y × (x ≡ [])
    right b = let r = split_right (size t) x y b.0 h b.1 in (rw r.0 at b.2, r.1)

    both : Joint t u m (shift 1 x ++ shift (1 + size t) y) → (v : ForwardAt t m x) × (w : ForwardAt u m y) × Co v.0 w.0
    both j = let b = j.3 in let c = b.2.1 in
        let r = split (size t) b.0 c.0 x y (at_under b.2.0) h (single 1 j.0 j.1 b.0 c.0 (1 + size t) b.1 c.1 ∙ j.2) in
        rw (← r.0, ← r.1) (b.2.0, c.2.0, c.2.1)

module _ (m : Key) (h : 0 < m) where
  at_own : (a : Label) (k : Key) (t v : Term) (x : List Node) (b c : Bool) (y : Move) → Says b (k ≡ 0) → Holding c t → Tells m t x v y
      → Tells m (pre a k t) (0 ∷ shift 1 x) (pre a m v) (own b c a y)
  unfolding places shift
  at_own a k t v x true false still z s r = rw (z, r.0, r.1) (top h s, refl)
  at_own a k t v x true false (step l) z s r = (λ e. zero_one (cc), λ w. ⊎_elim (λ i. some_places r.0 r.1 (tail_nil x i.3)) (λ i. never i.0 z) (inv_pre w.2 w.3))
  at_own a k t v x true false stuck z s r = (λ e. zero_one (cc), λ w. ⊎_elim (λ i. r.0 (tail_nil x i.3)) (λ i. never i.0 z) (inv_pre w.2 w.3))
  at_own a k t v x true true y z s r = (λ e. zero_one (cc), λ w. ⊎_elim (λ i. s i.2) (λ i. never i.0 z) (inv_pre w.2 w.3))
  at_own a k t v x false c y z s r = (λ e. zero_one (cc), λ w. ⊎_elim (λ i. z i.0) (λ i. below-zero (shift 1 x) i.2.0 i.2.1) (inv_pre w.2 w.3))

  at_pass : (a : Label) (k : Key) (t v : Term) (x : List Node) (b : Bool) (y : Move) → m ≢ k → Says b (k ≡ 0) → Tells m t x v y
      → Tells m (pre a k t) (shift 1 x) (pre a k v) (pass (not b) y)
  unfolding places shift
  at_pass a k t v x b still e z r = (rw r.0, rw r.1)
  at_pass a k t v x true (step l) e z r = (λ f. some_places r.0 r.1 (shift-nil 1 x f), λ w. ⊎_elim (λ i. below-zero [] x (sym i.3)) (λ i. never i.0 z) (inv_pre w.2 w.3))
  at_pass a k t v x false (step l) e z r = (prefix {n = k} (omega arith) e r.0, ap (shift 1) r.1)
  at_pass a k t v x b stuck e z r =
      (λ f. r.0 (shift-nil 1 x f), λ w. ⊎_elim (λ i. below-zero [] x (sym i.3)) (λ i. r.1 (rw (shift_once 1 i.2.0 x i.2.1) at i.2.2)) (inv_pre w.2 w.3))

  at_pre : (a : Label) (k : Key) (t v : Term) (x : List Node) (b c d : Bool) (y : Move) → m ≢ k → Says c (k ≡ 0) → Holding d t → Tells m t x v y
      → Tells m (pre a k t) (tick b 0 (shift 1 x)) (pre a (keyed b m k) v) (move_over_prefix b c (not c) d a y)
  at_pre a k t v x true c d y e z s r = at_own a k t v x c d y z s r
  at_pre a k t v x false c d y e z s r = at_pass a k t v x c y e z r

  module _ (t u v v' : Term) (x x' : List Node) (g : Under (size t) x) where
    at_cho : (b c : Bool) (y z : Move) → Holding b t → Holding c u → Tells m t x v y → Tells m u x' v' z → Tells m (cho t u) (shift 1 x ++ shift (1 + size t) x') (cho v v') (move_over_choice b c y z)
    unfolding places shift
    at_cho b c still still s s' r r' = (rw (r.0, r'.0), rw (r.1, r'.1))
    at_cho b true (step l) still s s' r r' = (some_left 1 (1 + size t) x x' (some_places r.0 r.1), λ w. ⊎_elim (λ i. s' i.0) (λ i. some_places r.0 r.1 i.2) (un_cho m t u x x' g w))
    at_cho b false (step l) still s s' r r' = rw (r'.0, r'.1) (choice₁ s' r.0, ap (shift 1) r.1 ∙ sym (append-nil (shift 1 x)))
    at_cho true c still (step l) s s' r r' = (some_right 1 (1 + size t) x x' (some_places r'.0 r'.1), λ w. ⊎_elim (λ i. some_places r'.0 r'.1 i.2) (λ i. s i.0) (un_cho m t u x x' g w))
    at_cho false c still (step l) s s' r r' = rw (r.0, r.1) (choice₂ s r'.0, ap (shift (1 + size t)) r'.1)
    at_cho b c (step l) (step k) s s' r r' = (some_left 1 (1 + size t) x x' (some_places r.0 r.1), λ w. ⊎_elim (λ i. some_places r'.0 r'.1 i.2) (λ i. some_places r.0 r.1 i.2) (un_cho m t u x x' g w))
    at_cho b c (step l) stuck s s' r r' = (some_right 1 (1 + size t) x x' r'.0, λ w. ⊎_elim (λ i. r'.0 i.2) (λ i. r'.1 i.1) (un_cho m t u x x' g w))
    at_cho b c still stuck s s' r r' = (some_right 1 (1 + size t) x x' r'.0, λ w. ⊎_elim (λ i. r'.0 i.2) (λ i. r'.1 i.1) (un_cho m t u x x' g w))
    at_cho b c stuck z s s' r r' = (some_left 1 (1 + size t) x x' r.0, λ w. ⊎_elim (λ i. r.1 i.1) (λ i. r.0 i.2) (un_cho m t u x x' g w))

    at_both : (l k : Label) (c : Dec (Co l k)) → Tells m t x v (step l) → Tells m u x' v' (step k) → Tells m (par t u) (shift 1 x ++ shift (1 + size t) x') (par v v') (joined_if c)
    unfolding places
    at_both l k (yes c) r r' = (synch c r.0 r'.0, rw (r.1, r'.1))
    at_both l k (no c) r r' = (
      some_left 1 (1 + size t) x x' (some_places r.0 r.1),
      λ w. ⊎_elim (λ i. some_places r'.0 r'.1 i.1) (⊎_elim (λ i. some_places r.0 r.1 i.1) (λ i. c (rw (label (l, v, r.0, r.1) i.0, label (k, v', r'.0, r'.1) i.1) i.2))) (un_par m t u x x' g w),
    )

    at_par : (y z : Move) → Fsh m t → Fsh m u → Tells m t x v y → Tells m u x' v' z → Tells m (par t u) (shift 1 x ++ shift (1 + size t) x') (par v v') (move_over_parallel y z)
    unfolding places shift
    at_par still still f f' r r' = (rw (r.0, r'.0), rw (r.1, r'.1))
    at_par still (step l) f f' r r' = rw (r.0, r.1) (par₂ f r'.0, ap (shift (1 + size t)) r'.1)
    at_par still stuck f f' r r' = (some_right 1 (1 + size t) x x' r'.0, λ w. ⊎_elim (λ i. r'.0 i.1) (⊎_elim (λ i. r'.1 i.0) (λ i. r'.1 i.1)) (un_par m t u x x' g w))
    at_par (step l) still f f' r r' = rw (r'.0, r'.1) (par₁ f' r.0, ap (shift 1) r.1 ∙ sym (append-nil (shift 1 x)))
    at_par (step l) (step k) f f' r r' = at_both l k (co? l k) r r'
    at_par (step l) stuck f f' r r' = (some_right 1 (1 + size t) x x' r'.0, λ w. ⊎_elim (λ i. r'.0 i.1) (⊎_elim (λ i. r'.1 i.0) (λ i. r'.1 i.1)) (un_par m t u x x' g w))
    at_par stuck z f f' r r' = (some_left 1 (1 + size t) x x' r.0, λ w. ⊎_elim (λ i. r.1 i.0) (⊎_elim (λ i. r.0 i.1) (λ i. r.1 i.0)) (un_par m t u x x' g w))

  module _ (a : Name) (t v : Term) (x : List Node) where
    at_hidden : (l : Label) (o : Dec (On a l)) → Tells m t x v (step l) → Tells m (res a t) (shift 1 x) (res a v) (hidden_if o l)
    unfolding places
    at_hidden l (yes o) r = (λ f. some_places r.0 r.1 (shift-nil 1 x f), λ w. shut (inv_res w.2 w.3))
      where
        shut : Below 1 (shift 1 x) (With t m (λ l. ¬ On a l)) → ⊥
        shut b = let q : With t m (λ l. ¬ On a l) x = rw (shift_once 1 b.0 x b.1) at b.2 in q.1 (rw (label (l, v, r.0, r.1) q.0) at o)
    at_hidden l (no o) r = (restrict o r.0, ap (shift 1) r.1)

    at_res : (y : Move) → Tells m t x v y → Tells m (res a t) (shift 1 x) (res a v) (move_over_restriction a y)
    unfolding shift
    at_res still r = (rw r.0, rw r.1)
    at_res (step l) r = at_hidden l (on? a l) r
    at_res stuck r = (λ f. r.0 (shift-nil 1 x f), λ w. let b = inv_res w.2 w.3 in r.1 (rw (shift_once 1 b.0 x b.1) at b.2.0))

-- what the whole pass tells of a key that stands nowhere in the term
pub step_tells : (c : Node → Key → Bool) (m : Key) → 0 < m → (n : Node) (t : Term) → Fsh m t → Tells m t (chosen c n t) (written c m n t) (move c (λ k. eqb k 0) n t)
unfolding move chosen written
step_tells c m h n nil f = (refl, refl)
step_tells c m h n (pre a k t) f = at_pre m h a k t (written c m (n + 1) t) (chosen c (n + 1) t) (c n k) (eqb k 0) (holds t) (move c (λ k. eqb k 0) (n + 1) t)
    (λ e. f (inl e)) (equal_says k 0) (holding t) (step_tells c m h (n + 1) t (λ i. f (inr i)))
step_tells c m h n (cho t u) f = at_cho m h t u (written c m (n + 1) t) (written c m (n + 1 + size t) u) (chosen c (n + 1) t) (chosen c (n + 1 + size t) u) (chosen_under c (n + 1) t)
    (holds t) (holds u) (move c (λ k. eqb k 0) (n + 1) t) (move c (λ k. eqb k 0) (n + 1 + size t) u)
    (holding t) (holding u) (step_tells c m h (n + 1) t (λ i. f (inl i))) (step_tells c m h (n + 1 + size t) u (λ i. f (inr i)))
step_tells c m h n (par t u) f = at_par m h t u (written c m (n + 1) t) (written c m (n + 1 + size t) u) (chosen c (n + 1) t) (chosen c (n + 1 + size t) u) (chosen_under c (n + 1) t)
    (move c (λ k. eqb k 0) (n + 1) t) (move c (λ k. eqb k 0) (n + 1 + size t) u)
    (λ i. f (inl i)) (λ i. f (inr i)) (step_tells c m h (n + 1) t (λ i. f (inl i))) (step_tells c m h (n + 1 + size t) u (λ i. f (inr i)))
step_tells c m h n (res a t) f = at_res m h a t (written c m (n + 1) t) (chosen c (n + 1) t) (move c (λ k. eqb k 0) (n + 1) t) (step_tells c m h (n + 1) t f)
