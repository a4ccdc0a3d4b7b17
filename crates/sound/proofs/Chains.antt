-- Chains of a relation on numbers: their ends, joined chains, and a test for them.
use mathlib.Core.Logic.{◌⊎◌, inl, inr}
use mathlib.Core.List.{List, [], ◌∷◌}
use Prim.Native.Nat.{ℕ}
use Rattle.ccsk.specs.Numbers.{In, either}
use Rattle.ccsk.specs.Decide.{both}
use Rattle.ccsk.proofs.Decide.{same}
use Rattle.sound.specs.Sound.{Chain, one, more}

-- the first link of a chain, and the last
pub first : {R : ℕ → ℕ → Type 0} {m n : ℕ} → Chain R m n → (k : ℕ) × R m k
first (one {n = k} b) = (k, b)
first (more c b) = first c

pub final : {R : ℕ → ℕ → Type 0} {m n : ℕ} → Chain R m n → (k : ℕ) × R k n
final (one {m = k} b) = (k, b)
final (more {k = k} c b) = (k, b)

-- each link is one of another relation
pub chain_map : {R S : ℕ → ℕ → Type 0} {m n : ℕ} → ((x y : ℕ) → R x y → S x y) → Chain R m n → Chain S m n
chain_map f (one {m = x} {n = y} b) = one (f x y b)
chain_map f (more {k = x} {n = y} c b) = more (chain_map f c) (f x y b)

-- a chain behind a chain is a chain
pub chain_join : {R : ℕ → ℕ → Type 0} {m k n : ℕ} → Chain R m k → Chain R k n → Chain R m n
chain_join c (one b) = more c b
chain_join c (more d b) = more (chain_join c d) b

-- each link is a chain of another relation
pub chain_bind : {R S : ℕ → ℕ → Type 0} {m n : ℕ} → ((x y : ℕ) → R x y → Chain S x y) → Chain R m n → Chain S m n
chain_bind f (one {m = x} {n = y} b) = f x y b
chain_bind f (more {k = x} {n = y} c b) = chain_join (chain_bind f c) (f x y b)

module _ (R : ℕ → ℕ → Type 0) (R? : (m n : ℕ) → Dec (R m n)) where
  -- a chain whose numbers in between are all of the list
  abbrev Through : List ℕ → ℕ → ℕ → Type 0
  Through [] m n = R m n
  Through (x ∷ K) m n = Through K m n ⊎ (Through K m x × Through K x n)

  -- it can be decided, number by number
  unfoldable pub through? : (K : List ℕ) (m n : ℕ) → Dec (Through K m n)
  through? [] m n = R? m n
  through? (x ∷ K) m n = either (through? K m n) (both (through? K m x) (through? K x n))

  -- it is a chain, and one link is such a chain
  pub through_chain : (K : List ℕ) (m n : ℕ) → Through K m n → Chain R m n
  through_chain [] m n b = one b
  through_chain (x ∷ K) m n (inl c) = through_chain K m n c
  through_chain (x ∷ K) m n (inr c) = chain_join (through_chain K m x c.0) (through_chain K x n c.1)

  through_link : (K : List ℕ) (m n : ℕ) → R m n → Through K m n
  through_link [] m n b = b
  through_link (x ∷ K) m n b = inl (through_link K m n b)

  -- what ends or begins at the number in front passes only the others
  to_front : (x : ℕ) (K : List ℕ) (m : ℕ) → Through (x ∷ K) m x → Through K m x
  to_front x K m (inl c) = c
  to_front x K m (inr c) = c.0

  from_front : (x : ℕ) (K : List ℕ) (n : ℕ) → Through (x ∷ K) x n → Through K x n
  from_front x K n (inl c) = c
  from_front x K n (inr c) = c.1

  -- two that meet at a number of the list are one
  through_join : (K : List ℕ) (m k n : ℕ) → In k K → Through K m k → Through K k n → Through K m n
  through_join [] m k n i c d = absurd i
  through_join (x ∷ K) m k n (inl e) c d = inr (to_front x K m (rw e at c), from_front x K n (rw e at d))
  through_join (x ∷ K) m k n (inr i) (inl c) (inl d) = inl (through_join K m k n i c d)
  through_join (x ∷ K) m k n (inr i) (inl c) (inr d) = inr (through_join K m k x i c d.0, d.1)
  through_join (x ∷ K) m k n (inr i) (inr c) (inl d) = inr (c.0, through_join K x k n i c.1 d)
  through_join (x ∷ K) m k n (inr i) (inr c) (inr d) = inr (c.0, d.1)

  -- where every link ends in a number of K
  module _ (K : List ℕ) (low : (m n : ℕ) → R m n → In n K) where
    -- every chain is one through K
    pub chain_through : {m n : ℕ} → Chain R m n → Through K m n
    chain_through (one {m = m} {n = n} b) = through_link K m n b
    chain_through (more {m = m} {k = k} {n = n} c b) = through_join K m k n (low (final c).0 k (final c).1) (chain_through c) (through_link K k n b)

    -- a chain can be decided
    unfoldable pub chain? : (m n : ℕ) → Dec (Chain R m n)
    chain? m n = same (through_chain K m n) chain_through (through? K m n)
