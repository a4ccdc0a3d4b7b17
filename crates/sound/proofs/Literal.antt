-- The conditions 1, 2, 5 and 6, and the relation of 7, once more, word for word as 004 has them: over every place of the term. Both forms say the same.
use mathlib.Core.Path.{◌≡◌, refl}
use mathlib.Core.Logic.{◌⊎◌, inl, inr, ◌↔◌}
use Prim.Native.Nat.{ℕ, zero, suc, ◌<◌}
use Rattle.ccsk.specs.Numbers.{In}
use Rattle.ccsk.specs.Term.{Term, nil, pre, cho, par, res, Std, Has, On, labels}
use Rattle.sound.specs.Sound.{count, Waits, Chosen, Apart, Hidden, Above}
use Rattle.sound.proofs.Conditions.{std_waits}

-- t is C[s] for some context C
pub data Sub (s : Term) : Term → Type 0 where
  here : Sub s s
  under : {a k : ℕ} {t : Term} → Sub s t → Sub s (pre a k t)
  cho₁ : {t u : Term} → Sub s t → Sub s (cho t u)
  cho₂ : {t u : Term} → Sub s u → Sub s (cho t u)
  par₁ : {t u : Term} → Sub s t → Sub s (par t u)
  par₂ : {t u : Term} → Sub s u → Sub s (par t u)
  inner : {a : ℕ} {t : Term} → Sub s t → Sub s (res a t)

-- 1: if X = C[α.Y] then std(Y)
waits_below : (a k : ℕ) (t : Term) → Waits (pre a k t) → Waits t
waits_below a zero t w = std_waits t w
waits_below a (suc k) t w = w

waits_all : {a : ℕ} {s t : Term} → Waits t → Sub (pre a 0 s) t → Std s
waits_all w here = w
waits_all w (under {a = a} {k = k} {t = t} i) = waits_all (waits_below a k t w) i
waits_all w (cho₁ i) = waits_all w.0 i
waits_all w (cho₂ i) = waits_all w.1 i
waits_all w (par₁ i) = waits_all w.0 i
waits_all w (par₂ i) = waits_all w.1 i
waits_all w (inner i) = waits_all w i

all_waits : (t : Term) → ((a : ℕ) (s : Term) → Sub (pre a 0 s) t → Std s) → Waits t
all_waits nil f = tt
all_waits (pre a zero t) f = f a t here
all_waits (pre a (suc k) t) f = all_waits t (λ b s i. f b s (under i))
all_waits (cho t u) f = (all_waits t (λ b s i. f b s (cho₁ i)), all_waits u (λ b s i. f b s (cho₂ i)))
all_waits (par t u) f = (all_waits t (λ b s i. f b s (par₁ i)), all_waits u (λ b s i. f b s (par₂ i)))
all_waits (res a t) f = all_waits t (λ b s i. f b s (inner i))

pub literal₁ : (t : Term) → Waits t ↔ ((a : ℕ) (s : Term) → Sub (pre a 0 s) t → Std s)
literal₁ t = (λ w a s i. waits_all w i, all_waits t)

-- 2: if X = C[Y + Y'] then std(Y) or std(Y')
chosen_all : {s r t : Term} → Chosen t → Sub (cho s r) t → Std s ⊎ Std r
chosen_all w here = w.0
chosen_all w (under i) = chosen_all w i
chosen_all w (cho₁ i) = chosen_all w.1 i
chosen_all w (cho₂ i) = chosen_all w.2 i
chosen_all w (par₁ i) = chosen_all w.0 i
chosen_all w (par₂ i) = chosen_all w.1 i
chosen_all w (inner i) = chosen_all w i

all_chosen : (t : Term) → ((s r : Term) → Sub (cho s r) t → Std s ⊎ Std r) → Chosen t
all_chosen nil f = tt
all_chosen (pre a k t) f = all_chosen t (λ s r i. f s r (under i))
all_chosen (cho t u) f = (f t u here, all_chosen t (λ s r i. f s r (cho₁ i)), all_chosen u (λ s r i. f s r (cho₂ i)))
all_chosen (par t u) f = (all_chosen t (λ s r i. f s r (par₁ i)), all_chosen u (λ s r i. f s r (par₂ i)))
all_chosen (res a t) f = all_chosen t (λ s r i. f s r (inner i))

pub literal₂ : (t : Term) → Chosen t ↔ ((s r : Term) → Sub (cho s r) t → Std s ⊎ Std r)
literal₂ t = (λ w s r i. chosen_all w i, all_chosen t)

-- 5: there are C, Y, Y' such that X = C[Y | Y'], and both contain exactly one occurrence of m
abbrev pub Between : ℕ → Term → Type 0
Between m t = (s : Term) × (r : Term) × Sub (par s r) t × (count m s ≡ 1) × (count m r ≡ 1)

apart_between : (m : ℕ) (t : Term) → Apart m t → Between m t
apart_between m nil i = absurd i
apart_between m (pre a k t) i = let b = apart_between m t i in (b.0, b.1, under b.2, b.3, b.4)
apart_between m (cho t u) (inl i) = let b = apart_between m t i in (b.0, b.1, cho₁ b.2, b.3, b.4)
apart_between m (cho t u) (inr i) = let b = apart_between m u i in (b.0, b.1, cho₂ b.2, b.3, b.4)
apart_between m (par t u) (inl i) = (t, u, here, i.0, i.1)
apart_between m (par t u) (inr (inl i)) = let b = apart_between m t i in (b.0, b.1, par₁ b.2, b.3, b.4)
apart_between m (par t u) (inr (inr i)) = let b = apart_between m u i in (b.0, b.1, par₂ b.2, b.3, b.4)
apart_between m (res a t) i = let b = apart_between m t i in (b.0, b.1, inner b.2, b.3, b.4)

between_apart : (m : ℕ) {s r t : Term} → Sub (par s r) t → (count m s ≡ 1) × (count m r ≡ 1) → Apart m t
between_apart m here c = inl c
between_apart m (under i) c = between_apart m i c
between_apart m (cho₁ i) c = inl (between_apart m i c)
between_apart m (cho₂ i) c = inr (between_apart m i c)
between_apart m (par₁ i) c = inr (inl (between_apart m i c))
between_apart m (par₂ i) c = inr (inr (between_apart m i c))
between_apart m (inner i) c = between_apart m i c

pub literal₅ : (m : ℕ) (t : Term) → Apart m t ↔ Between m t
literal₅ m t = (apart_between m t, λ b. between_apart m b.2 (b.3, b.4))

-- 6: if X = C[(νa)Y] and a key occurs in a prefix on channel a inside Y, then it occurs twice inside Y
abbrev pub Bound : ℕ → Term → Type 0
Bound a s = (m : ℕ) → 0 < m → (l : ℕ) → In l (labels m s) → On a l → count m s ≡ 2

hidden_all : {a : ℕ} {s t : Term} → Hidden t → Sub (res a s) t → Bound a s
hidden_all w here = w.0
hidden_all w (under i) = hidden_all w i
hidden_all w (cho₁ i) = hidden_all w.0 i
hidden_all w (cho₂ i) = hidden_all w.1 i
hidden_all w (par₁ i) = hidden_all w.0 i
hidden_all w (par₂ i) = hidden_all w.1 i
hidden_all w (inner i) = hidden_all w.1 i

all_hidden : (t : Term) → ((a : ℕ) (s : Term) → Sub (res a s) t → Bound a s) → Hidden t
all_hidden nil f = tt
all_hidden (pre a k t) f = all_hidden t (λ b s i. f b s (under i))
all_hidden (cho t u) f = (all_hidden t (λ b s i. f b s (cho₁ i)), all_hidden u (λ b s i. f b s (cho₂ i)))
all_hidden (par t u) f = (all_hidden t (λ b s i. f b s (par₁ i)), all_hidden u (λ b s i. f b s (par₂ i)))
all_hidden (res a t) f = (f a t here, all_hidden t (λ b s i. f b s (inner i)))

pub literal₆ : (t : Term) → Hidden t ↔ ((a : ℕ) (s : Term) → Sub (res a s) t → Bound a s)
literal₆ t = (λ w a s i. hidden_all w i, all_hidden t)

-- 7: m marks a prefix above one marked n
abbrev pub Over : ℕ → ℕ → Term → Type 0
Over m n t = (a : ℕ) × (s : Term) × Sub (pre a m s) t × Has n s

above_over : (m n : ℕ) (t : Term) → Above m n t → Over m n t
above_over m n nil i = absurd i
above_over m n (pre a k t) (inl i) = rw i.0 (a, t, here, i.1)
above_over m n (pre a k t) (inr i) = let b = above_over m n t i in (b.0, b.1, under b.2, b.3)
above_over m n (cho t u) (inl i) = let b = above_over m n t i in (b.0, b.1, cho₁ b.2, b.3)
above_over m n (cho t u) (inr i) = let b = above_over m n u i in (b.0, b.1, cho₂ b.2, b.3)
above_over m n (par t u) (inl i) = let b = above_over m n t i in (b.0, b.1, par₁ b.2, b.3)
above_over m n (par t u) (inr i) = let b = above_over m n u i in (b.0, b.1, par₂ b.2, b.3)
above_over m n (res a t) i = let b = above_over m n t i in (b.0, b.1, inner b.2, b.3)

over_above : (n : ℕ) {a m : ℕ} {s t : Term} → Sub (pre a m s) t → Has n s → Above m n t
over_above n here h = inl (refl, h)
over_above n (under i) h = inr (over_above n i h)
over_above n (cho₁ i) h = inl (over_above n i h)
over_above n (cho₂ i) h = inr (over_above n i h)
over_above n (par₁ i) h = inl (over_above n i h)
over_above n (par₂ i) h = inr (over_above n i h)
over_above n (inner i) h = over_above n i h

pub literal₇ : (m n : ℕ) (t : Term) → Above m n t ↔ Over m n t
literal₇ m n t = (above_over m n t, λ b. over_above n b.2 b.3)
