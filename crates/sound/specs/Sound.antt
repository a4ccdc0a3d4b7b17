-- Definition 3.3 of 004, in 01's words (Soundness): seven conditions, and the verdict.
use Rattle.std.specs.Prelude.{◌≡◌, ◌⊎◌, ◌≢◌, [], ◌∷◌, ℕ, zero, suc, ◌≤◌, ◌<◌, length}
use Rattle.ccsk.specs.Numbers.{In}
use Rattle.ccsk.specs.Term.{Term, Label, Key, nil, pre, cho, par, res, Std, Has, Co, On, labels}

-- how often the key m stands in the term
abbrev pub count : Key → Term → ℕ
count m t = length (labels m t)

-- 1: nothing below a prefix with key 0 holds a key.
abbrev pub Waits : Term → Type 0
Waits nil = Unit {0}
Waits (pre a zero t) = Std t
Waits (pre a (suc k) t) = Waits t
Waits (cho t u) = Waits t × Waits u
Waits (par t u) = Waits t × Waits u
Waits (res a t) = Waits t

-- 2: in a choice at most one side holds keys.
abbrev pub Chosen : Term → Type 0
Chosen nil = Unit {0}
Chosen (pre a k t) = Chosen t
Chosen (cho t u) = (Std t ⊎ Std u) × Chosen t × Chosen u
Chosen (par t u) = Chosen t × Chosen u
Chosen (res a t) = Chosen t

-- 3: each key stands at most twice.
abbrev pub Twice : Term → Type 0
Twice t = (m : Key) → 0 < m → count m t ≤ 2

-- 4: a key that stands twice marks complementary actions.
abbrev pub Paired : Term → Type 0
Paired t = (m : Key) → 0 < m → (a b : Label) → labels m t ≡ a ∷ (b ∷ []) → Co a b

-- the key m stands once on each side of some parallel
abbrev pub Apart : Key → Term → Type 0
Apart m nil = ⊥
Apart m (pre a k t) = Apart m t
Apart m (cho t u) = Apart m t ⊎ Apart m u
Apart m (par t u) = ((count m t ≡ 1) × (count m u ≡ 1)) ⊎ (Apart m t ⊎ Apart m u)
Apart m (res a t) = Apart m t

-- 5: a key that stands twice stands once on each side of some parallel.
abbrev pub Split : Term → Type 0
Split t = (m : Key) → 0 < m → count m t ≡ 2 → Apart m t

-- 6: under a restriction on a, a key that marks a or its co-name stands twice below that restriction.
abbrev pub Hidden : Term → Type 0
Hidden nil = Unit {0}
Hidden (pre a k t) = Hidden t
Hidden (cho t u) = Hidden t × Hidden u
Hidden (par t u) = Hidden t × Hidden u
Hidden (res a t) = ((m : Key) → 0 < m → (l : Label) → In l (labels m t) → On a l → count m t ≡ 2) × Hidden t

-- a prefix that holds m stands above one that holds n (004, Definition 3.1, ord)
abbrev pub Above : Key → Key → Term → Type 0
Above m n nil = ⊥
Above m n (pre a k t) = ((m ≡ k) × Has n t) ⊎ Above m n t
Above m n (cho t u) = Above m n t ⊎ Above m n u
Above m n (par t u) = Above m n t ⊎ Above m n u
Above m n (res a t) = Above m n t

-- m and n are different keys, and m marks a prefix above one marked n
abbrev pub Before : Term → Key → Key → Type 0
Before t m n = (0 < m) × (0 < n) × (m ≢ n) × Above m n t

-- one or more steps of a relation, from m to n
pub data Chain (R : Key → Key → Type 0) : Key → Key → Type 0 where
  one : {m n : Key} → R m n → Chain R m n
  more : {m k n : Key} → Chain R m k → R k n → Chain R m n

-- 7: the relation 'm marks a prefix above one marked n', m and n different, has no cycle.
abbrev pub Ordered : Term → Type 0
Ordered t = (m : Key) → ¬ Chain (Before t) m m

-- sound, 'well-formed' in 004: all seven hold
pub record Sound (t : Term) : Type 0 where
  pub waits : Waits t
  pub chosen : Chosen t
  pub twice : Twice t
  pub paired : Paired t
  pub split : Split t
  pub hidden : Hidden t
  pub ordered : Ordered t

-- The verdict: the lowest number that fails, 0 if none does.
pub data Verdict (t : Term) : ℕ → Type 0 where
  sound : Sound t → Verdict t 0
  fails₁ : ¬ Waits t → Verdict t 1
  fails₂ : Waits t → ¬ Chosen t → Verdict t 2
  fails₃ : Waits t → Chosen t → ¬ Twice t → Verdict t 3
  fails₄ : Waits t → Chosen t → Twice t → ¬ Paired t → Verdict t 4
  fails₅ : Waits t → Chosen t → Twice t → Paired t → ¬ Split t → Verdict t 5
  fails₆ : Waits t → Chosen t → Twice t → Paired t → Split t → ¬ Hidden t → Verdict t 6
  fails₇ : Waits t → Chosen t → Twice t → Paired t → Split t → Hidden t → ¬ Ordered t → Verdict t 7
