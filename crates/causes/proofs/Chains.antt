-- The test for condition 7: an entry knows the key right above it, and the keys right above generate the order.
use mathlib.Core.Path.{◌≡◌, refl, ap}
use mathlib.Core.Logic.{◌⊎◌, inl, inr, ⊎_elim, ◌↔◌, ◌≢◌}
use mathlib.Core.List.{List, [], ◌∷◌, ◌++◌}
use Prim.Native.Nat.{ℕ, zero, suc, ◌+◌, ◌≤◌, ◌<◌}
use native.Mathlib.Decide.{ℕ_discrete}
use native.Mathlib.Omega.{arith}
use lib.ListN.{length, length-append}
use Rattle.ccsk.specs.Term.{Term, nil, pre, cho, par, res, Has, labels, size}
use Rattle.ccsk.proofs.Basic.{labels_same, labels_other, labels_fresh}
use Rattle.sound.proofs.Chains.{chain_map}
use Rattle.sound.proofs.Derive.{apart_two}
use Rattle.sound.specs.Sound.{count, Twice, Apart, Split, Above, Ordered}
use Rattle.causes.specs.Entry.{Entry, Scopes, under, open_scopes, marked, entries, all}
use Rattle.causes.specs.Tests.{Leads, Acyclic}
use Rattle.causes.specs.Nearest.{RightAbove}
use Rattle.causes.proofs.Nearest.{right_above_keys, right_before, before_chain}

-- the leads of two lists of entries, one after the other
leads_append : (x y : List Entry) (m n : ℕ) → Leads (x ++ y) m n ↔ (Leads x m n ⊎ Leads y m n)
leads_append [] y m n = (inr, λ i. ⊎_elim (λ z. absurd z) (λ z. z) i)
leads_append (e ∷ x) y m n = let w = leads_append x y m n in
    (λ i. ⊎_elim (λ z. inl (inl z)) (λ z. ⊎_elim (λ v. inl (inr v)) inr (w.0 z)) i, λ i. ⊎_elim (λ z. ⊎_elim inl (λ v. inr (w.1 (inl v))) z) (λ z. inr (w.1 (inr z))) i)

both_sides : {A B C D E : Type 0} → A ↔ (B ⊎ C) → B ↔ D → C ↔ E → A ↔ (D ⊎ E)
both_sides f g h = (λ i. ⊎_elim (λ z. inl (g.0 z)) (λ z. inr (h.0 z)) (f.0 i), λ i. f.1 (⊎_elim (λ z. inl (g.1 z)) (λ z. inr (h.1 z)) i))

-- an entry's lead is the key right above it
leads_nearest : (n row u : ℕ) (s : Scopes) (t : Term) (m k : ℕ) → Leads (entries n row u s t) m k ↔ RightAbove u t m k
unfolding entries
leads_nearest n row u s nil m k = (λ i. i, λ i. i)
leads_nearest n row u s (pre a zero t) m k = leads_nearest (suc n) row u s t m k
leads_nearest n row u s (pre a (suc j) t) m k = let w = leads_nearest (suc n) (suc row) (suc j) s t m k in (⊎_elim inl (λ z. inr (w.0 z)), ⊎_elim inl (λ z. inr (w.1 z)))
leads_nearest n row u s (cho t r) m k = both_sides (leads_append (entries (suc n) row u s t) (entries (suc n + size t) (row + marked t) u s r) m k)
    (leads_nearest (suc n) row u s t m k) (leads_nearest (suc n + size t) (row + marked t) u s r m k)
leads_nearest n row u s (par t r) m k = both_sides (leads_append (entries (suc n) row u s t) (entries (suc n + size t) (row + marked t) u s r) m k)
    (leads_nearest (suc n) row u s t m k) (leads_nearest (suc n + size t) (row + marked t) u s r m k)
leads_nearest n row u s (res a t) m k = leads_nearest (suc n) row u (under a n s) t m k

-- how often a key stands that stands somewhere, that stands on two sides, that stands below itself
has_count : (m : ℕ) (t : Term) → Has m t → 1 ≤ count m t
has_count m t i = some (labels m t) (λ e. labels_fresh m t e i)
  where
    some : (l : List ℕ) → ¬ (l ≡ []) → 1 ≤ length l
    some [] f = absurd (f refl)
    some (x ∷ l) f = omega arith

count-pre : (m a k : ℕ) (t : Term) → count m t ≤ count m (pre a k t)
count-pre m a k t = pick (ℕ_discrete m k)
  where
    pick : Dec (m ≡ k) → count m t ≤ count m (pre a k t)
    pick (yes e) = let z = ap length (labels_same m a k t e) in omega arith
    pick (no e) = let z = ap length (labels_other m a k t e) in omega arith

count-cho : (m : ℕ) (t r : Term) → count m (cho t r) ≡ count m t + count m r
unfolding labels
count-cho m t r = length-append (labels m t) (labels m r)

count-par : (m : ℕ) (t r : Term) → count m (par t r) ≡ count m t + count m r
unfolding labels
count-par m t r = length-append (labels m t) (labels m r)

count-res : (m a : ℕ) (t : Term) → count m (res a t) ≡ count m t
unfolding labels
count-res m a t = refl

self_count : (m : ℕ) (t : Term) → Above m m t → 2 ≤ count m t
self_count m nil i = absurd i
self_count m (pre a k t) (inl i) = let h = has_count m t i.1 in let z = ap length (labels_same m a k t i.0) in omega arith
self_count m (pre a k t) (inr i) = let h = self_count m t i in let z = count-pre m a k t in omega arith
self_count m (cho t r) (inl i) = let h = self_count m t i in let z = count-cho m t r in omega arith
self_count m (cho t r) (inr i) = let h = self_count m r i in let z = count-cho m t r in omega arith
self_count m (par t r) (inl i) = let h = self_count m t i in let z = count-par m t r in omega arith
self_count m (par t r) (inr i) = let h = self_count m r i in let z = count-par m t r in omega arith
self_count m (res a t) i = let h = self_count m t i in let z = count-res m a t in omega arith

-- a key that stands twice, once on each side of a parallel, does not stand below itself
self_apart : (m : ℕ) (t : Term) → count m t ≤ 2 → Above m m t → ¬ Apart m t
self_apart m nil c i p = i
self_apart m (pre a k t) c (inl i) p = let h = apart_two m t p in let z = ap length (labels_same m a k t i.0) in omega arith
self_apart m (pre a k t) c (inr i) p = self_apart m t (let z = count-pre m a k t in omega arith) i p
self_apart m (cho t r) c (inl i) (inl p) = self_apart m t (let z = count-cho m t r in omega arith) i p
self_apart m (cho t r) c (inl i) (inr p) = let h = self_count m t i in let k = apart_two m r p in let z = count-cho m t r in omega arith
self_apart m (cho t r) c (inr i) (inl p) = let h = self_count m r i in let k = apart_two m t p in let z = count-cho m t r in omega arith
self_apart m (cho t r) c (inr i) (inr p) = self_apart m r (let z = count-cho m t r in omega arith) i p
self_apart m (par t r) c (inl i) (inl p) = let h = self_count m t i in omega arith
self_apart m (par t r) c (inr i) (inl p) = let h = self_count m r i in omega arith
self_apart m (par t r) c (inl i) (inr (inl p)) = self_apart m t (let z = count-par m t r in omega arith) i p
self_apart m (par t r) c (inl i) (inr (inr p)) = let h = self_count m t i in let k = apart_two m r p in let z = count-par m t r in omega arith
self_apart m (par t r) c (inr i) (inr (inl p)) = let h = self_count m r i in let k = apart_two m t p in let z = count-par m t r in omega arith
self_apart m (par t r) c (inr i) (inr (inr p)) = self_apart m r (let z = count-par m t r in omega arith) i p
self_apart m (res a t) c i p = self_apart m t (let z = count-res m a t in omega arith) i p

-- no key stands below itself
irreflexive : (t : Term) → Twice t → Split t → (m : ℕ) → 0 < m → ¬ Above m m t
irreflexive t w s m h i = self_apart m t (w m h) i (s m h (let c = self_count m t i in let z = w m h in omega arith))

-- in such a term no key is right above itself
pub right_apart : (t : Term) → Twice t → Split t → (m k : ℕ) → RightAbove 0 t m k → m ≢ k
right_apart t w s m k i e = let b = right_above_keys t m k i in irreflexive t w s m b.0 (rw (← e) at b.1)

-- condition 7
pub ordered_by_entries : (t : Term) → Twice t → Split t → Ordered t ↔ Acyclic (all t)
ordered_by_entries t w s = (
  λ o m c. o m (chain_map (λ x y l. let i = (leads_nearest 0 0 0 open_scopes t x y).0 l in right_before t x y (right_apart t w s x y i) i) c),
  λ o m c. o m (chain_map (λ x y i. (leads_nearest 0 0 0 open_scopes t x y).1 i) (before_chain t c)),
)
