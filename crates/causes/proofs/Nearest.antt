-- The keys right above generate the whole order: a chain of them leads from a key to each key below it, and nowhere else.
use mathlib.Core.Path.{◌≡◌, refl, sym}
use mathlib.Core.Logic.{◌⊎◌, inl, inr, ⊎_elim, ◌↔◌, ◌≢◌}
use Prim.Native.Nat.{ℕ, zero, suc, ◌<◌}
use native.Mathlib.Decide.{ℕ_discrete}
use native.Mathlib.Omega.{arith}
use Rattle.ccsk.specs.Term.{Term, nil, pre, cho, par, res, Has}
use Rattle.ccsk.proofs.Basic.{never}
use Rattle.sound.specs.Sound.{Above, Before, Chain, one, more}
use Rattle.causes.specs.Nearest.{RightAbove}
use Rattle.sound.proofs.Chains.{chain_map, chain_join, chain_bind}

-- from the key above the term to one inside, or between two keys of the term
above_or_outside : (u : ℕ) (t : Term) (m k : ℕ) → RightAbove u t m k → ((m ≡ u) × Has k t) ⊎ Above m k t
above_or_outside u nil m k i = absurd i
above_or_outside u (pre a zero t) m k i = ⊎_elim (λ z. inl (z.0, inr z.1)) (λ z. inr (inr z)) (above_or_outside u t m k i)
above_or_outside u (pre a (suc j) t) m k (inl i) = inl (i.1, inl i.2)
above_or_outside u (pre a (suc j) t) m k (inr i) = ⊎_elim (λ z. inr (inl z)) (λ z. inr (inr z)) (above_or_outside (suc j) t m k i)
above_or_outside u (cho t r) m k (inl i) = ⊎_elim (λ z. inl (z.0, inl z.1)) (λ z. inr (inl z)) (above_or_outside u t m k i)
above_or_outside u (cho t r) m k (inr i) = ⊎_elim (λ z. inl (z.0, inr z.1)) (λ z. inr (inr z)) (above_or_outside u r m k i)
above_or_outside u (par t r) m k (inl i) = ⊎_elim (λ z. inl (z.0, inl z.1)) (λ z. inr (inl z)) (above_or_outside u t m k i)
above_or_outside u (par t r) m k (inr i) = ⊎_elim (λ z. inl (z.0, inr z.1)) (λ z. inr (inr z)) (above_or_outside u r m k i)
above_or_outside u (res a t) m k i = above_or_outside u t m k i

-- both are keys
pub right_keys : (u : ℕ) (t : Term) (m k : ℕ) → RightAbove u t m k → (0 < m) × (0 < k)
right_keys u nil m k i = absurd i
right_keys u (pre a zero t) m k i = right_keys u t m k i
right_keys u (pre a (suc j) t) m k (inl i) = (i.0, omega arith)
right_keys u (pre a (suc j) t) m k (inr i) = right_keys (suc j) t m k i
right_keys u (cho t r) m k (inl i) = right_keys u t m k i
right_keys u (cho t r) m k (inr i) = right_keys u r m k i
right_keys u (par t r) m k (inl i) = right_keys u t m k i
right_keys u (par t r) m k (inr i) = right_keys u r m k i
right_keys u (res a t) m k i = right_keys u t m k i

-- from the key above a term a chain leads to each key inside
down : (u : ℕ) (t : Term) (k : ℕ) → 0 < u → 0 < k → Has k t → Chain (RightAbove u t) u k
down u nil k p q i = absurd i
down u (pre a zero t) k p q (inl e) = never q e
down u (pre a zero t) k p q (inr i) = down u t k p q i
down u (pre a (suc j) t) k p q (inl e) = one (inl (p, refl, e))
down u (pre a (suc j) t) k p q (inr i) = chain_join (one {n = suc j} (inl (p, refl, refl))) (chain_map (λ x y z. inr z) (down (suc j) t k (omega arith) q i))
down u (cho t r) k p q (inl i) = chain_map (λ x y z. inl z) (down u t k p q i)
down u (cho t r) k p q (inr i) = chain_map (λ x y z. inr z) (down u r k p q i)
down u (par t r) k p q (inl i) = chain_map (λ x y z. inl z) (down u t k p q i)
down u (par t r) k p q (inr i) = chain_map (λ x y z. inr z) (down u r k p q i)
down u (res a t) k p q i = down u t k p q i

-- from a key a chain leads to each that stands below it
above_chain : (u : ℕ) (t : Term) (m k : ℕ) → 0 < m → 0 < k → Above m k t → Chain (RightAbove u t) m k
above_chain u nil m k p q i = absurd i
above_chain u (pre a zero t) m k p q (inl i) = never p i.0
above_chain u (pre a zero t) m k p q (inr i) = above_chain u t m k p q i
above_chain u (pre a (suc j) t) m k p q (inl i) = rw i.0 (chain_map (λ x y z. inr z) (down (suc j) t k (omega arith) q i.1))
above_chain u (pre a (suc j) t) m k p q (inr i) = chain_map (λ x y z. inr z) (above_chain (suc j) t m k p q i)
above_chain u (cho t r) m k p q (inl i) = chain_map (λ x y z. inl z) (above_chain u t m k p q i)
above_chain u (cho t r) m k p q (inr i) = chain_map (λ x y z. inr z) (above_chain u r m k p q i)
above_chain u (par t r) m k p q (inl i) = chain_map (λ x y z. inl z) (above_chain u t m k p q i)
above_chain u (par t r) m k p q (inr i) = chain_map (λ x y z. inr z) (above_chain u r m k p q i)
above_chain u (res a t) m k p q i = above_chain u t m k p q i

module _ (t : Term) where
  -- a chain of the order is a chain of keys right above
  pub before_chain : {m k : ℕ} → Chain (Before t) m k → Chain (RightAbove 0 t) m k
  before_chain = chain_bind (λ x y b. above_chain 0 t x y b.0 b.1 b.3)

  -- the key right above stands above
  pub right_above_keys : (m k : ℕ) → RightAbove 0 t m k → (0 < m) × Above m k t
  right_above_keys m k i = let p = right_keys 0 t m k i in (p.0, ⊎_elim (λ z. never p.0 z.0) (λ z. z) (above_or_outside 0 t m k i))

  -- and is linked to it by the order, if it is another key
  pub right_before : (m k : ℕ) → m ≢ k → RightAbove 0 t m k → Before t m k
  right_before m k n i = ((right_keys 0 t m k i).0, (right_keys 0 t m k i).1, n, (right_above_keys m k i).1)

  -- a chain of keys right above is one of the order, once a key that stands right above itself is passed by
  right_chain : {m k : ℕ} → Chain (RightAbove 0 t) m k → (m ≡ k) ⊎ Chain (Before t) m k
  right_chain (one {m = m} {n = k} b) = pick (ℕ_discrete m k)
    where
      pick : Dec (m ≡ k) → (m ≡ k) ⊎ Chain (Before t) m k
      pick (yes e) = inl e
      pick (no n) = inr (one (right_before m k n b))
  right_chain (more {m = m} {k = j} {n = k} c b) = pick (ℕ_discrete j k) (right_chain c)
    where
      pick : Dec (j ≡ k) → (m ≡ j) ⊎ Chain (Before t) m j → (m ≡ k) ⊎ Chain (Before t) m k
      pick (yes e) r = rw e at r
      pick (no n) (inl e) = inr (one (rw (← e) at (right_before j k n b)))
      pick (no n) (inr d) = inr (more d (right_before j k n b))

  -- between different keys the two kinds of chain say the same
  pub chains_agree : (m k : ℕ) → k ≢ m → Chain (Before t) m k ↔ Chain (RightAbove 0 t) m k
  chains_agree m k n = (before_chain, λ c. ⊎_elim (λ e. absurd (n (sym e))) (λ z. z) (right_chain c))
