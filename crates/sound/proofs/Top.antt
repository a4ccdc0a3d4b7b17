-- The order on keys and its chains can be decided; in a term without a cycle some key has no other key below it.
use Prim.Native.Nat.{ℕ, ◌<◌}
use native.Mathlib.Decide.{ℕ_discrete, dec_lt}
use Rattle.ccsk.specs.Numbers.{In, either}
use Rattle.ccsk.specs.Term.{Term, nil, pre, cho, par, res, Has, keys}
use Rattle.sound.specs.Sound.{Above, Before, Chain, Ordered}
use Rattle.ccsk.proofs.Basic.{has?}
use Rattle.ccsk.specs.Decide.{both}
use Rattle.ccsk.proofs.Keys.{has_in, in_has}
use Rattle.sound.proofs.Chains.{chain?}
use Rattle.sound.proofs.Peel.{peak, acyclic?}
use Rattle.sound.proofs.Order.{above_low, above_high}

unfoldable pub above? : (m n : ℕ) (t : Term) → Dec (Above m n t)
above? m n nil = no (λ b. b)
above? m n (pre a k t) = either (both (ℕ_discrete m k) (has? n t)) (above? m n t)
above? m n (cho t u) = either (above? m n t) (above? m n u)
above? m n (par t u) = either (above? m n t) (above? m n u)
above? m n (res a t) = above? m n t

abbrev pick : {A B C D : Type 0} → Dec A → Dec B → Dec C → Dec D → Dec (A × B × (¬ C) × D)
pick (no a) b c d = no (λ x. a x.0)
pick (yes a) (no b) c d = no (λ x. b x.1)
pick (yes a) (yes b) (yes c) d = no (λ x. x.2 c)
pick (yes a) (yes b) (no c) (no d) = no (λ x. d x.3)
pick (yes a) (yes b) (no c) (yes d) = yes (a, b, c, d)

unfoldable pub before? : (t : Term) (m n : ℕ) → Dec (Before t m n)
before? t m n = pick (dec_lt 0 m) (dec_lt 0 n) (ℕ_discrete m n) (above? m n t)

-- the lower key of a link is a key of the term
pub before_low : (t : Term) (m n : ℕ) → Before t m n → In n (keys t)
before_low t m n b = has_in n t b.1 (above_low m n t b.3)

-- a chain of links can be decided
unfoldable pub chained? : (t : Term) (m n : ℕ) → Dec (Chain (Before t) m n)
chained? t = chain? (Before t) (before? t) (keys t) (before_low t)

-- a key with none below it
pub top_key : (t : Term) (m : ℕ) → Ordered t → 0 < m → Has m t → (k : ℕ) × (0 < k) × Has k t × ((n : ℕ) → ¬ Before t k n)
top_key t m o p h =
    let r = peak (Before t) (before? t) (keys t) o m (has_in m t p h) in
    let i = in_has r.key t r.has in
    (r.key, i.0, i.1, λ n b. r.free n (before_low t r.key n b) b)

-- condition 7 can be decided
unfoldable pub ordered? : (t : Term) → Dec (Ordered t)
ordered? t = acyclic? (Before t) (before? t) (keys t) (before_low t) (λ m n b. has_in m t b.0 (above_high m n t b.3))
