-- Condition 7 through a step: an undo takes links away, a forward step adds links that only end in its key.
use mathlib.Core.Path.{refl}
use mathlib.Core.Logic.{inl, inr, ◌≢◌, ◌↔◌}
use Prim.Native.Nat.{ℕ, ◌<◌}
use Rattle.ccsk.specs.Term.{Term, nil, pre, cho, par, res, Has}
use Rattle.ccsk.specs.Step.{Undo, Undo.top, Undo.prefix, Undo.choice₁, Undo.choice₂, Undo.par₁, Undo.par₂, Undo.synch, Undo.restrict}
use Rattle.sound.specs.Sound.{Above, Before, Chain, one, more, Ordered}
use Rattle.ccsk.proofs.Basic.{never, std_has, has?}
use Rattle.ccsk.proofs.Undo.{absent, has_kept}
use Rattle.sound.proofs.Chains.{first, final, chain_map}

pub has_undo : {t u : Term} {m l : ℕ} (n : ℕ) → Undo t m l u → 0 < n → Has n u → Has n t
has_undo {t} n d p i = pick (has? n t)
  where
    pick : Dec (Has n t) → Has n t
    pick (yes j) = j
    pick (no f) = absurd ((has_kept n d p (λ e. absent d (rw e at i))).0 f i)

pub has_redo : {t u : Term} {m l : ℕ} (n : ℕ) → Undo t m l u → 0 < n → n ≢ m → Has n t → Has n u
has_redo {u = u} n d p e i = pick (has? n u)
  where
    pick : Dec (Has n u) → Has n u
    pick (yes j) = j
    pick (no f) = absurd ((has_kept n d p e).1 f i)

pub above_low : (x y : ℕ) (t : Term) → Above x y t → Has y t
above_low x y nil i = i
above_low x y (pre a k t) (inl i) = inr i.1
above_low x y (pre a k t) (inr i) = inr (above_low x y t i)
above_low x y (cho t u) (inl i) = inl (above_low x y t i)
above_low x y (cho t u) (inr i) = inr (above_low x y u i)
above_low x y (par t u) (inl i) = inl (above_low x y t i)
above_low x y (par t u) (inr i) = inr (above_low x y u i)
above_low x y (res a t) i = above_low x y t i

pub above_high : (x y : ℕ) (t : Term) → Above x y t → Has x t
above_high x y nil i = i
above_high x y (pre a k t) (inl i) = inl i.0
above_high x y (pre a k t) (inr i) = inr (above_high x y t i)
above_high x y (cho t u) (inl i) = inl (above_high x y t i)
above_high x y (cho t u) (inr i) = inr (above_high x y u i)
above_high x y (par t u) (inl i) = inl (above_high x y t i)
above_high x y (par t u) (inr i) = inr (above_high x y u i)
above_high x y (res a t) i = above_high x y t i

-- a chain leads from a key of the term to a key of the term
pub chain_ends : (t : Term) {m n : ℕ} → Chain (Before t) m n → ((0 < m) × Has m t) × ((0 < n) × Has n t)
chain_ends t {m} {n} c = let a = first c in let b = final c in ((a.1.0, above_high m a.0 t a.1.3), (b.1.1, above_low b.0 n t b.1.3))

pub above_undo : {t u : Term} {m l : ℕ} (x y : ℕ) → Undo t m l u → 0 < x → 0 < y → Above x y u → Above x y t
above_undo x y (top h s) p q (inl i) = never p i.0
above_undo x y (top h s) p q (inr i) = inr i
above_undo x y (prefix h f d) p q (inl i) = inl (i.0, has_undo y d q i.1)
above_undo x y (prefix h f d) p q (inr i) = inr (above_undo x y d p q i)
above_undo x y (choice₁ s d) p q (inl i) = inl (above_undo x y d p q i)
above_undo x y (choice₁ s d) p q (inr i) = inr i
above_undo x y (choice₂ s d) p q (inl i) = inl i
above_undo x y (choice₂ s d) p q (inr i) = inr (above_undo x y d p q i)
above_undo x y (par₁ f d) p q (inl i) = inl (above_undo x y d p q i)
above_undo x y (par₁ f d) p q (inr i) = inr i
above_undo x y (par₂ f d) p q (inl i) = inl i
above_undo x y (par₂ f d) p q (inr i) = inr (above_undo x y d p q i)
above_undo x y (synch c d e) p q (inl i) = inl (above_undo x y d p q i)
above_undo x y (synch c d e) p q (inr i) = inr (above_undo x y e p q i)
above_undo x y (restrict f d) p q i = above_undo x y d p q i

pub above_redo : {t u : Term} {m l : ℕ} (x y : ℕ) → Undo t m l u → 0 < y → y ≢ m → Above x y t → Above x y u
above_redo x y (top {t = t} h s) q n (inl i) = absurd (std_has t s q i.1)
above_redo x y (top h s) q n (inr i) = inr i
above_redo x y (prefix h f d) q n (inl i) = inl (i.0, has_redo y d q n i.1)
above_redo x y (prefix h f d) q n (inr i) = inr (above_redo x y d q n i)
above_redo x y (choice₁ s d) q n (inl i) = inl (above_redo x y d q n i)
above_redo x y (choice₁ s d) q n (inr i) = inr i
above_redo x y (choice₂ s d) q n (inl i) = inl i
above_redo x y (choice₂ s d) q n (inr i) = inr (above_redo x y d q n i)
above_redo x y (par₁ f d) q n (inl i) = inl (above_redo x y d q n i)
above_redo x y (par₁ f d) q n (inr i) = inr i
above_redo x y (par₂ f d) q n (inl i) = inl i
above_redo x y (par₂ f d) q n (inr i) = inr (above_redo x y d q n i)
above_redo x y (synch c d e) q n (inl i) = inl (above_redo x y d q n i)
above_redo x y (synch c d e) q n (inr i) = inr (above_redo x y e q n i)
above_redo x y (restrict f d) q n i = above_redo x y d q n i

-- nothing stands below the key that an undo takes
pub last : {t u : Term} {m l : ℕ} (y : ℕ) → Undo t m l u → 0 < y → ¬ Above m y t
last y (top {t = t} h s) q (inl i) = std_has t s q i.1
last y (top {m = m} {t = t} h s) q (inr i) = std_has t s q (above_low m y t i)
last y (prefix h f d) q (inl i) = f i.0
last y (prefix h f d) q (inr i) = last y d q i
last y (choice₁ s d) q (inl i) = last y d q i
last y (choice₁ {m = m} {u = u} s d) q (inr i) = std_has u s q (above_low m y u i)
last y (choice₂ {m = m} {t = t} s d) q (inl i) = std_has t s q (above_low m y t i)
last y (choice₂ s d) q (inr i) = last y d q i
last y (par₁ f d) q (inl i) = last y d q i
last y (par₁ {m = m} {u = u} f d) q (inr i) = f (above_high m y u i)
last y (par₂ {m = m} {t = t} f d) q (inl i) = f (above_high m y t i)
last y (par₂ f d) q (inr i) = last y d q i
last y (synch c d e) q (inl i) = last y d q i
last y (synch c d e) q (inr i) = last y e q i
last y (restrict f d) q i = last y d q i

pub chain_undo : {t u : Term} {m l x z : ℕ} → Undo t m l u → Chain (Before u) x z → Chain (Before t) x z
chain_undo d = chain_map (λ x y b. (b.0, b.1, b.2, above_undo x y d b.0 b.1 b.3))

-- the upper key of a link is not the key of the undo
source : {t u : Term} {m l x y : ℕ} → Undo t m l u → Before t x y → x ≢ m
source {t} {m = m} {x = x} {y = y} d b e = last y d b.1 (rw e at b.3)

-- no chain leads from the key that an undo takes
pub no_chain : {t u : Term} {m l n : ℕ} → Undo t m l u → ¬ Chain (Before t) m n
no_chain d c = source d (first c).1 refl

-- an undo keeps every chain that does not end in its key
pub chain_redo : {t u : Term} {m l x z : ℕ} → Undo t m l u → z ≢ m → Chain (Before t) x z → Chain (Before u) x z
chain_redo d e (one {m = x} {n = y} b) = one (b.0, b.1, b.2, above_redo x y d b.1 e b.3)
chain_redo d e (more {k = x} {n = y} c b) = more (chain_redo d (source d b) c) (b.0, b.1, b.2, above_redo x y d b.1 e b.3)

pub ordered_undo : {t u : Term} {m l : ℕ} → Undo t m l u → Ordered t ↔ Ordered u
ordered_undo d = (λ o x c. o x (chain_undo d c), λ o x c. o x (chain_redo d (source d (first c).1) c))
