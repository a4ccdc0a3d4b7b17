-- How keys, std, labels and the blank form belong together.
use mathlib.Core.Path.{◌≡◌, refl, ap}
use mathlib.Core.Logic.{◌⊎◌, inl, inr, ⊎_elim, ◌≢◌}
use mathlib.Core.List.{List, [], ◌∷◌, ◌++◌}
use Prim.Native.Nat.{ℕ, zero, suc, ◌+◌, ◌<◌}
use native.Mathlib.Decide.{ℕ_discrete}
use native.Mathlib.Omega.{arith}
use borrow.Author.Tests.{eq-eqb, ne_eqb}
use Rattle.ccsk.specs.Numbers.{either}
use Rattle.ccsk.specs.Term.{Term, nil, pre, cho, par, res, Std, Has, Co, On, Channel, labels, blank, size}

pub never : {A : Type 0} {m : ℕ} → 0 < m → m ≡ 0 → A
never h e = absurd (omega arith)

-- a term has a node
pub size_pos : (t : Term) → 0 < size t
unfolding size
size_pos nil = omega arith
size_pos (pre a k t) = omega arith
size_pos (cho t u) = omega arith
size_pos (par t u) = omega arith
size_pos (res a t) = omega arith

pub co_sym : {a b : ℕ} → Co a b → Co b a
co_sym (inl c) = inr c
co_sym (inr c) = inl c

pub tau_open : {a : ℕ} → ¬ On a 0
tau_open h = out h.0 h.1
  where
    out : {a : ℕ} → Channel a → (0 ≡ a) ⊎ (0 ≡ a + 128) → ⊥
    out n (inl e) = omega arith
    out n (inr e) = omega arith

pub std_has : {m : ℕ} (t : Term) → Std t → 0 < m → ¬ Has m t
std_has nil s h i = i
std_has (pre a zero t) s h (inl e) = never h e
std_has (pre a zero t) s h (inr i) = std_has t s h i
std_has (pre a (suc k) t) s h i = s
std_has (cho t u) s h (inl i) = std_has t s.0 h i
std_has (cho t u) s h (inr i) = std_has u s.1 h i
std_has (par t u) s h (inl i) = std_has t s.0 h i
std_has (par t u) s h (inr i) = std_has u s.1 h i
std_has (res a t) s h i = std_has t s h i

-- a term without keys is standard, or there is a key
pub std_or_key : (t : Term) → Std t ⊎ ((m : ℕ) × (0 < m) × Has m t)
std_or_key nil = inl tt
std_or_key (pre a zero t) = ⊎_elim inl (λ h. inr (h.0, h.1, inr h.2)) (std_or_key t)
std_or_key (pre a (suc k) t) = inr (suc k, omega arith, inl refl)
std_or_key (cho t u) = two (std_or_key t) (std_or_key u)
  where
    two : Std t ⊎ ((m : ℕ) × (0 < m) × Has m t) → Std u ⊎ ((m : ℕ) × (0 < m) × Has m u) → Std (cho t u) ⊎ ((m : ℕ) × (0 < m) × Has m (cho t u))
    two (inl s) (inl r) = inl (s, r)
    two (inl s) (inr h) = inr (h.0, h.1, inr h.2)
    two (inr h) d = inr (h.0, h.1, inl h.2)
std_or_key (par t u) = two (std_or_key t) (std_or_key u)
  where
    two : Std t ⊎ ((m : ℕ) × (0 < m) × Has m t) → Std u ⊎ ((m : ℕ) × (0 < m) × Has m u) → Std (par t u) ⊎ ((m : ℕ) × (0 < m) × Has m (par t u))
    two (inl s) (inl r) = inl (s, r)
    two (inl s) (inr h) = inr (h.0, h.1, inr h.2)
    two (inr h) d = inr (h.0, h.1, inl h.2)
std_or_key (res a t) = std_or_key t

pub labels_same : (m a k : ℕ) (t : Term) → m ≡ k → labels m (pre a k t) ≡ a ∷ labels m t
unfolding labels
labels_same m a k t e = rw (eq-eqb m k e)

pub labels_other : (m a k : ℕ) (t : Term) → m ≢ k → labels m (pre a k t) ≡ labels m t
unfolding labels
labels_other m a k t e = rw (ne_eqb m k e)

pub nil_left : (x y : List ℕ) → x ++ y ≡ [] → x ≡ []
nil_left [] y e = refl
nil_left (a ∷ x) y e = let z : ◌≡◌ {A = ℕ} 0 1 = cc in absurd (omega arith)

pub nil_right : (x y : List ℕ) → x ++ y ≡ [] → y ≡ []
nil_right [] y e = e
nil_right (a ∷ x) y e = let z : ◌≡◌ {A = ℕ} 0 1 = cc in absurd (omega arith)

-- no action is marked by m where m does not stand, and the other way round
pub fresh_labels : (m : ℕ) (t : Term) → ¬ Has m t → labels m t ≡ []
unfolding labels
fresh_labels m nil f = refl
fresh_labels m (pre a k t) f = rw (ne_eqb m k (λ e. f (inl e))) (fresh_labels m t (λ i. f (inr i)))
fresh_labels m (cho t u) f = rw (fresh_labels m t (λ i. f (inl i))) (fresh_labels m u (λ i. f (inr i)))
fresh_labels m (par t u) f = rw (fresh_labels m t (λ i. f (inl i))) (fresh_labels m u (λ i. f (inr i)))
fresh_labels m (res a t) f = fresh_labels m t f

pub labels_fresh : (m : ℕ) (t : Term) → labels m t ≡ [] → ¬ Has m t
unfolding labels
labels_fresh m nil e i = i
labels_fresh m (pre a k t) e (inl q) = let z : a ∷ labels m t ≡ [] = rw (eq-eqb m k q) at e in let o : ◌≡◌ {A = ℕ} 0 1 = cc in omega arith
labels_fresh m (pre a k t) e (inr i) = pick (ℕ_discrete m k) (λ z. labels_fresh m t z i)
  where
    pick : Dec (m ≡ k) → (labels m t ≡ [] → ⊥) → ⊥
    pick (yes q) f = let z : a ∷ labels m t ≡ [] = rw (eq-eqb m k q) at e in let o : ◌≡◌ {A = ℕ} 0 1 = cc in omega arith
    pick (no q) f = f (rw (ne_eqb m k q) at e)
labels_fresh m (cho t u) e (inl i) = labels_fresh m t (nil_left (labels m t) (labels m u) e) i
labels_fresh m (cho t u) e (inr i) = labels_fresh m u (nil_right (labels m t) (labels m u) e) i
labels_fresh m (par t u) e (inl i) = labels_fresh m t (nil_left (labels m t) (labels m u) e) i
labels_fresh m (par t u) e (inr i) = labels_fresh m u (nil_right (labels m t) (labels m u) e) i
labels_fresh m (res a t) e i = labels_fresh m t e i

pub std_labels : (m : ℕ) (t : Term) → Std t → 0 < m → labels m t ≡ []
std_labels m t s h = fresh_labels m t (std_has t s h)

unfoldable pub has? : (m : ℕ) (t : Term) → Dec (Has m t)
has? m nil = no (λ b. b)
has? m (pre a k t) = either (ℕ_discrete m k) (has? m t)
has? m (cho t u) = either (has? m t) (has? m u)
has? m (par t u) = either (has? m t) (has? m u)
has? m (res a t) = has? m t

pub blank_std : (t : Term) → Std (blank t)
unfolding blank
blank_std nil = tt
blank_std (pre a k t) = blank_std t
blank_std (cho t u) = (blank_std t, blank_std u)
blank_std (par t u) = (blank_std t, blank_std u)
blank_std (res a t) = blank_std t

pub std_blank : (t : Term) → Std t → blank t ≡ t
unfolding blank
std_blank nil s = refl
std_blank (pre a zero t) s = ap (pre a 0) (std_blank t s)
std_blank (pre a (suc k) t) s = absurd s
std_blank (cho t u) s = rw (std_blank t s.0, std_blank u s.1)
std_blank (par t u) s = rw (std_blank t s.0, std_blank u s.1)
std_blank (res a t) s = ap (res a) (std_blank t s)
