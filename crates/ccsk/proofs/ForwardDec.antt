-- Whether the rules derive a forward step with key m at given places, decided along the term.
use mathlib.Core.Path.{◌≡◌, refl, sym, ◌∙◌}
use mathlib.Core.Logic.{◌⊎◌, inl, inr, ⊎_elim, ◌≢◌}
use mathlib.Core.List.{List, [], ◌∷◌, ◌++◌}
use Prim.Native.Nat.{ℕ, zero, suc, ◌+◌, ◌-◌, ◌<◌, ◌≤◌}
use native.Mathlib.Decide.{ℕ_discrete, dec_lt, dec_le}
use native.Mathlib.Omega.{arith}
use lib.ListN.{length}
use Rattle.ccsk.specs.Numbers.{either}
use Rattle.ccsk.specs.Term.{Term, nil, pre, cho, par, res, Std, Has, Co, On, size}
use Rattle.ccsk.specs.Step.{Forward, Forward.top, Forward.prefix, Forward.choice₁, Forward.choice₂, Forward.par₁, Forward.par₂, Forward.synch, Forward.restrict}
use Rattle.ccsk.specs.Place.{shift, places, ForwardAt}
use Rattle.ccsk.proofs.Basic.{has?, never}
use Rattle.ccsk.proofs.Place.{Placed, alone, joined, step_placed, step_once, co_pos}
use Rattle.ccsk.specs.Decide.{both, co?, on?}
use Rattle.ccsk.proofs.Decide.{three, isnt, same, std?}

pub zero_one : {A : Type 0} → ◌≡◌ {A = ℕ} 0 1 → A
zero_one e = absurd (omega arith)

pub shift_once : (k : ℕ) (x y : List ℕ) → shift k x ≡ shift k y → x ≡ y
unfolding shift
shift_once k [] [] e = refl
shift_once k [] (q ∷ y) e = zero_one (cc)
shift_once k (p ∷ x) [] e = zero_one (cc)
shift_once k (p ∷ x) (q ∷ y) e = let a : k + p ≡ k + q = cc in let b : p ≡ q = omega arith in let c : shift k x ≡ shift k y = cc in cc (b, shift_once k x y c)

pub up_down : (k p : ℕ) (x y : List ℕ) → k ≤ p → shift k y ≡ x → shift k ((p - k) ∷ y) ≡ p ∷ x
unfolding shift
up_down k p x y h e = let a : k + (p - k) ≡ p = omega arith in rw (a, e)

pub down_le : (k p : ℕ) (x y : List ℕ) → shift k y ≡ p ∷ x → k ≤ p
unfolding shift
down_le k p x [] e = zero_one (cc)
down_le k p x (q ∷ y) e = let a : k + q ≡ p = cc in omega arith

pub down_tail : (k p : ℕ) (x y : List ℕ) → shift k y ≡ p ∷ x → (z : List ℕ) × (shift k z ≡ x)
unfolding shift
down_tail k p x [] e = zero_one (cc)
down_tail k p x (q ∷ y) e = (y, cc)

unfoldable pub unshift : (k : ℕ) (x : List ℕ) → Dec ((y : List ℕ) × (shift k y ≡ x))
unfolding shift
unshift k [] = yes ([], refl)
unshift k (p ∷ x) = pick (dec_le k p) (unshift k x)
  where
    pick : Dec (k ≤ p) → Dec ((y : List ℕ) × (shift k y ≡ x)) → Dec ((y : List ℕ) × (shift k y ≡ p ∷ x))
    pick (no h) d = no (λ z. h (down_le k p x z.0 z.1))
    pick (yes h) (no d) = no (λ z. d (down_tail k p x z.0 z.1))
    pick (yes h) (yes d) = yes ((p - k) ∷ d.0, up_down k p x d.0 h d.1)

-- a list that is shifted by k to x, and has P
abbrev pub Below : ℕ → List ℕ → (List ℕ → Type 0) → Type 0
Below k x P = (y : List ℕ) × (shift k y ≡ x) × P y

unfoldable pub below? : (k : ℕ) (x : List ℕ) (P : List ℕ → Type 0) → ((y : List ℕ) → Dec (P y)) → Dec (Below k x P)
below? k x P f = pick (unshift k x)
  where
    pick : Dec ((y : List ℕ) × (shift k y ≡ x)) → Dec (Below k x P)
    pick (no d) = no (λ z. d (z.0, z.1))
    pick (yes d) = choose (f d.0)
      where
        choose : Dec (P d.0) → Dec (Below k x P)
        choose (yes p) = yes (d.0, d.1, p)
        choose (no p) = no (λ z. p (rw (shift_once k d.0 z.0 (d.1 ∙ sym z.1)) z.2))

-- a step of t with a label of which Q holds
abbrev pub With : Term → ℕ → (ℕ → Type 0) → List ℕ → Type 0
With t m Q x = (w : ForwardAt t m x) × Q w.0

pub label : {t : Term} {m : ℕ} {x : List ℕ} (v w : ForwardAt t m x) → v.0 ≡ w.0
label v w = (step_once v.2 w.2 (v.3 ∙ sym w.3)).0

abbrev with? : {t : Term} {m : ℕ} {x : List ℕ} (Q : ℕ → Type 0) → ((l : ℕ) → Dec (Q l)) → Dec (ForwardAt t m x) → Dec (With t m Q x)
with? Q q (no d) = no (λ w. d w.0)
with? {t} {m} {x} Q q (yes d) = pick (q d.0)
  where
    pick : Dec (Q d.0) → Dec (With t m Q x)
    pick (yes p) = yes (d, p)
    pick (no p) = no (λ w. p (rw (label d w.0) w.1))

-- what a step of each kind of node comes from
pub inv_nil : {m l : ℕ} {u : Term} → Forward nil m l u → ⊥
inv_nil = elim [ ]

pub inv_pre : {a k m l : ℕ} {t u : Term} {x : List ℕ} (d : Forward (pre a k t) m l u) → places d ≡ x
    → ((k ≡ 0) × (0 < m) × Std t × (0 ∷ [] ≡ x)) ⊎ ((0 < k) × (m ≢ k) × Below 1 x (ForwardAt t m))
unfolding places
inv_pre (top h s) e = inl (refl, h, s, e)
inv_pre (prefix h n d) e = inr (h, n, (places d, e, (_, _, d, refl)))

pub inv_cho : {m l : ℕ} {t u v : Term} {x : List ℕ} (d : Forward (cho t u) m l v) → places d ≡ x → (Std u × Below 1 x (ForwardAt t m)) ⊎ (Std t × Below (1 + size t) x (ForwardAt u m))
unfolding places
inv_cho (choice₁ s d) e = inl (s, (places d, e, (_, _, d, refl)))
inv_cho (choice₂ s d) e = inr (s, (places d, e, (_, _, d, refl)))

-- the two places of a joined step
abbrev pub Sides : Term → Term → ℕ → ℕ → ℕ → Type 0
Sides t u m p q = Below 1 (p ∷ []) (With t m (λ l. Below (1 + size t) (q ∷ []) (With u m (Co l))))

abbrev pub Joint : Term → Term → ℕ → List ℕ → Type 0
Joint t u m x = (p : ℕ) × (q : ℕ) × (p ∷ (q ∷ []) ≡ x) × Sides t u m p q

lone : {t : Term} {l : ℕ} {x : List ℕ} → Placed t l x → 0 < l → (p : ℕ) × (x ≡ p ∷ [])
lone (alone p e) h = (p, refl)
lone (joined p q o z c) h = absurd (omega arith)

pub make_joint : {t u v w : Term} {m l k : ℕ} {x : List ℕ} → Co l k → (d : Forward t m l v) (e : Forward u m k w) → shift 1 (places d) ++ shift (1 + size t) (places e) ≡ x → Joint t u m x
unfolding shift
make_joint {t} {u} {l = l} {k = k} {x = x} c d e z =
    let a = lone (step_placed d) (co_pos c).0 in let b = lone (step_placed e) (co_pos c).1 in
    (1 + a.0, (1 + size t) + b.0, rw (a.1, b.1) at z, (a.0 ∷ [], refl, ((_, _, d, a.1), (b.0 ∷ [], refl, ((_, _, e, b.1), c)))))

pub inv_par : {m l : ℕ} {t u v : Term} {x : List ℕ} (d : Forward (par t u) m l v) → places d ≡ x
    → (¬ Has m u × Below 1 x (ForwardAt t m)) ⊎ ((¬ Has m t × Below (1 + size t) x (ForwardAt u m)) ⊎ Joint t u m x)
unfolding places
inv_par (par₁ f d) e = inl (f, (places d, e, (_, _, d, refl)))
inv_par (par₂ f d) e = inr (inl (f, (places d, e, (_, _, d, refl))))
inv_par (synch c d d') e = inr (inr (make_joint c d d' e))

pub inv_res : {a m l : ℕ} {t u : Term} {x : List ℕ} (d : Forward (res a t) m l u) → places d ≡ x → Below 1 x (With t m (λ l. ¬ On a l))
unfolding places
inv_res (restrict f d) e = (places d, e, ((_, _, d, refl), f))

-- and back
unfoldable pub do_zero : (a m : ℕ) (t : Term) (x : List ℕ) → (0 < m) × Std t × (0 ∷ [] ≡ x) → ForwardAt (pre a 0 t) m x
unfolding places
do_zero a m t x h = (a, pre a m t, top h.0 h.1, h.2)

unfoldable pub do_pre : (a k m : ℕ) (t : Term) (x : List ℕ) → 0 < k → (m ≢ k) × Below 1 x (ForwardAt t m) → ForwardAt (pre a k t) m x
unfolding places
do_pre a k m t x p (h) = let w = h.1.2 in (w.0, pre a k w.1, prefix p h.0 w.2, rw w.3 h.1.1)

unfoldable pub do_cho : (m : ℕ) (t u : Term) (x : List ℕ) → (Std u × Below 1 x (ForwardAt t m)) ⊎ (Std t × Below (1 + size t) x (ForwardAt u m)) → ForwardAt (cho t u) m x
unfolding places
do_cho m t u x (inl h) = let w = h.1.2 in (w.0, cho w.1 u, choice₁ h.0 w.2, rw w.3 h.1.1)
do_cho m t u x (inr h) = let w = h.1.2 in (w.0, cho t w.1, choice₂ h.0 w.2, rw w.3 h.1.1)

pub single : (k p q : ℕ) (y z : List ℕ) (j : ℕ) → shift k y ≡ p ∷ [] → shift j z ≡ q ∷ [] → shift k y ++ shift j z ≡ p ∷ (q ∷ [])
single k p q y z j e f = rw (e, f)

unfoldable pub do_par : (m : ℕ) (t u : Term) (x : List ℕ) → (¬ Has m u × Below 1 x (ForwardAt t m)) ⊎ ((¬ Has m t × Below (1 + size t) x (ForwardAt u m)) ⊎ Joint t u m x) → ForwardAt (par t u) m x
unfolding places
do_par m t u x (inl h) = let w = h.1.2 in (w.0, par w.1 u, par₁ h.0 w.2, rw w.3 h.1.1)
do_par m t u x (inr (inl h)) = let w = h.1.2 in (w.0, par t w.1, par₂ h.0 w.2, rw w.3 h.1.1)
do_par m t u x (inr (inr h)) = let b = h.3 in let v = b.2.0 in let c = b.2.1 in let w = c.2.0 in
    (0, par v.1 w.1, synch c.2.1 v.2 w.2, rw (v.3, w.3) (single 1 h.0 h.1 b.0 c.0 (1 + size t) b.1 c.1 ∙ h.2))

unfoldable pub do_res : (a m : ℕ) (t : Term) (x : List ℕ) → Below 1 x (With t m (λ l. ¬ On a l)) → ForwardAt (res a t) m x
unfolding places
do_res a m t x h = let w = h.2.0 in (w.0, res a w.1, restrict h.2.1 w.2, rw w.3 h.1)

pub no_joint : (t u : Term) (m : ℕ) (x : List ℕ) → length x ≢ 2 → Joint t u m x → ⊥
no_joint t u m x f j = f (rw (← j.2))

pub joint_back : (t u : Term) (m p q : ℕ) → Joint t u m (p ∷ (q ∷ [])) → Sides t u m p q
joint_back t u m p q j = let e = j.2 in let a : j.0 ≡ p = cc in let b : j.1 ≡ q = cc in rw (← a, ← b) j.3

pub not_one : (n : ℕ) → suc (suc (suc n)) ≢ 2
not_one n e = omega arith

abbrev joint? : (t u : Term) (m : ℕ) (x : List ℕ) → ((y : List ℕ) → Dec (ForwardAt t m y)) → ((y : List ℕ) → Dec (ForwardAt u m y)) → Dec (Joint t u m x)
joint? t u m [] f g = no (no_joint t u m [] (λ e. omega arith))
joint? t u m (p ∷ []) f g = no (no_joint t u m (p ∷ []) (λ e. omega arith))
joint? t u m (p ∷ (q ∷ [])) f g = same (λ b. (p, q, refl, b)) (joint_back t u m p q)
    (below? 1 (p ∷ []) (With t m (λ l. Below (1 + size t) (q ∷ []) (With u m (Co l))))
    (λ y. with? (λ l. Below (1 + size t) (q ∷ []) (With u m (Co l))) (λ l. below? (1 + size t) (q ∷ []) (With u m (Co l)) (λ z. with? (Co l) (co? l) (g z))) (f y)))
joint? t u m (p ∷ (q ∷ (r ∷ x))) f g = no (no_joint t u m (p ∷ (q ∷ (r ∷ x))) (not_one (length x)))

pub un_zero : (a m : ℕ) (t : Term) (x : List ℕ) → ForwardAt (pre a 0 t) m x → (0 < m) × Std t × (0 ∷ [] ≡ x)
un_zero a m t x w = ⊎_elim (λ h. (h.1, h.2, h.3)) (λ h. never h.0 refl) (inv_pre w.2 w.3)

pub un_pre : (a k m : ℕ) (t : Term) (x : List ℕ) → 0 < k → ForwardAt (pre a k t) m x → (m ≢ k) × Below 1 x (ForwardAt t m)
un_pre a k m t x p w = ⊎_elim (λ h. never p h.0) (λ h. (h.1, h.2)) (inv_pre w.2 w.3)

pub above_zero : (k : ℕ) → 0 < suc k
above_zero k = omega arith

unfoldable pub zero? : (x : List ℕ) → Dec (0 ∷ [] ≡ x)
zero? [] = no (λ e. zero_one (cc))
zero? (zero ∷ []) = yes refl
zero? (suc p ∷ []) = no (λ e. zero_one (cc))
zero? (p ∷ (q ∷ x)) = no (λ e. zero_one (cc))

unfoldable pub forward? : (t : Term) (m : ℕ) (x : List ℕ) → Dec (ForwardAt t m x)
forward? nil m x = no (λ w. inv_nil w.2)
forward? (pre a zero t) m x = same (do_zero a m t x) (un_zero a m t x) (three (dec_lt 0 m) (std? t) (zero? x))
forward? (pre a (suc k) t) m x = same (do_pre a (suc k) m t x (above_zero k)) (un_pre a (suc k) m t x (above_zero k)) (both (isnt (ℕ_discrete m (suc k))) (below? 1 x (ForwardAt t m) (forward? t m)))
forward? (cho t u) m x = same (do_cho m t u x) (λ w. inv_cho w.2 w.3)
    (either (both (std? u) (below? 1 x (ForwardAt t m) (forward? t m))) (both (std? t) (below? (1 + size t) x (ForwardAt u m) (forward? u m))))
forward? (par t u) m x = same (do_par m t u x) (λ w. inv_par w.2 w.3)
    (either (both (isnt (has? m u)) (below? 1 x (ForwardAt t m) (forward? t m)))
    (either (both (isnt (has? m t)) (below? (1 + size t) x (ForwardAt u m) (forward? u m))) (joint? t u m x (forward? t m) (forward? u m))))
forward? (res a t) m x = same (do_res a m t x) (λ w. inv_res w.2 w.3) (below? 1 x (With t m (λ l. ¬ On a l)) (λ y. with? (λ l. ¬ On a l) (λ l. isnt (on? a l)) (forward? t m y)))
