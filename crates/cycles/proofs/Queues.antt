-- Laws of the queue: how it grows while counters are looked at and while they fall.
use mathlib.Core.Path.{◌≡◌, refl, sym, ap, ◌∙◌}
use mathlib.Core.Logic.{◌⊎◌, inl, inr, ◌↔◌, ◌≢◌}
use mathlib.Core.List.{List, ◌∷◌}
use Prim.Native.Nat.{ℕ, zero, suc, ◌≤◌, ◌<◌}
use native.Mathlib.Decide.{ℕ_discrete}
use native.Mathlib.Omega.{arith}
use lib.ListN.{length, get_or, set}
use lib.Seq.{get_or-set_same, get_or-set_other}
use Rattle.ccsk.specs.Numbers.{In}
use Rattle.causes.specs.Links.{one_when}
use Rattle.causes.proofs.Taking.{when_yes, when_no}
use Rattle.cycles.specs.Queue.{taken, zeros, Distinct, Queued}

pub zeros_yes : (j : ℕ) (c : List ℕ) → get_or c j 0 ≡ 0 → zeros (suc j) c ≡ suc (zeros j c)
unfolding zeros
zeros_yes j c e = when_yes (ℕ_discrete (get_or c j 0) 0) (zeros j c) e

pub zeros_no : (j : ℕ) (c : List ℕ) → get_or c j 0 ≢ 0 → zeros (suc j) c ≡ zeros j c
unfolding zeros
zeros_no j c e = when_no (ℕ_discrete (get_or c j 0) 0) (zeros j c) e

-- at most as many as there are
pub zeros_le : (j : ℕ) (c : List ℕ) → zeros j c ≤ j
unfolding zeros
zeros_le zero c = omega arith
zeros_le (suc j) c = pick (ℕ_discrete (get_or c j 0) 0) (zeros_le j c)
  where
    pick : (d : Dec (get_or c j 0 ≡ 0)) → zeros j c ≤ j → one_when d (zeros j c) ≤ suc j
    pick (yes d) h = omega arith
    pick (no d) h = omega arith

-- fewer, if one of them is not 0
pub zeros_less : (j : ℕ) (c : List ℕ) (u : ℕ) → u < j → get_or c u 0 ≢ 0 → zeros j c < j
zeros_less zero c u h f = absurd (omega arith)
zeros_less (suc j) c u h f = pick (ℕ_discrete u j) (zeros_less j c u)
  where
    pick : Dec (u ≡ j) → (u < j → get_or c u 0 ≢ 0 → zeros j c < j) → zeros (suc j) c < suc j
    pick (yes e) g = let z = zeros_no j c (rw e at f) in let y = zeros_le j c in omega arith
    pick (no e) g = let z = g (omega arith) f in more (ℕ_discrete (get_or c j 0) 0)
      where
        more : Dec (get_or c j 0 ≡ 0) → zeros (suc j) c < suc j
        more (yes d) = let y = zeros_yes j c d in let z = g (omega arith) f in omega arith
        more (no d) = let y = zeros_no j c d in let z = g (omega arith) f in omega arith

-- and if there are fewer, one of them is not 0
pub zeros_find : (j : ℕ) (c : List ℕ) → zeros j c < j → (k : ℕ) × (k < j) × (get_or c k 0 ≢ 0)
zeros_find zero c h = absurd (omega arith)
zeros_find (suc j) c h = pick (ℕ_discrete (get_or c j 0) 0) (zeros_find j c)
  where
    pick : Dec (get_or c j 0 ≡ 0) → (zeros j c < j → (k : ℕ) × (k < j) × (get_or c k 0 ≢ 0)) → (k : ℕ) × (k < suc j) × (get_or c k 0 ≢ 0)
    pick (yes e) f = let r = f (let z = zeros_yes j c e in omega arith) in (r.0, omega arith, r.2)
    pick (no e) f = (j, omega arith, e)

-- a counter outside is not looked at
pub zeros_outside : (j : ℕ) (c : List ℕ) (u v : ℕ) → j ≤ u → zeros j (set c u v) ≡ zeros j c
unfolding zeros
zeros_outside zero c u v h = refl
zeros_outside (suc j) c u v h = rw (get_or-set_other c u j v 0 (λ e. omega arith), zeros_outside j c u v (omega arith))

-- a counter that falls to 0 is one more
pub zeros_fall : (j : ℕ) (c : List ℕ) (u : ℕ) → u < j → u < length c → get_or c u 0 ≢ 0 → zeros j (set c u 0) ≡ suc (zeros j c)
zeros_fall zero c u h l f = absurd (omega arith)
zeros_fall (suc j) c u h l f = pick (ℕ_discrete u j) (ℕ_discrete (get_or c j 0) 0) (zeros_fall j c u)
  where
    pick : Dec (u ≡ j) → Dec (get_or c j 0 ≡ 0) → (u < j → u < length c → get_or c u 0 ≢ 0 → zeros j (set c u 0) ≡ suc (zeros j c)) → zeros (suc j) (set c u 0) ≡ suc (zeros (suc j) c)
    pick (yes e) d g = let y = zeros_no j c (rw e at f) in let z = zeros_outside j c u 0 (omega arith) in
        let w = zeros_yes j (set c u 0) (ap (λ (x : ℕ). get_or (set c u 0) x 0) (sym e) ∙ get_or-set_same c u 0 0 l) in omega arith
    pick (no e) (yes d) g = let y = zeros_yes j c d in let w = zeros_yes j (set c u 0) (get_or-set_other c u j 0 0 (λ z. e (sym z)) ∙ d) in let z = g (omega arith) l f in omega arith
    pick (no e) (no d) g = let y = zeros_no j c d in let w = zeros_no j (set c u 0) (λ z. d (sym (get_or-set_other c u j 0 0 (λ z. e (sym z))) ∙ z)) in let z = g (omega arith) l f in omega arith

-- a counter that stays above 0 changes nothing
pub zeros_stay : (j : ℕ) (c : List ℕ) (u v : ℕ) → u < length c → get_or c u 0 ≢ 0 → 0 < v → zeros j (set c u v) ≡ zeros j c
unfolding zeros
zeros_stay zero c u v l f p = refl
zeros_stay (suc j) c u v l f p = pick (ℕ_discrete u j) (ℕ_discrete (get_or c j 0) 0) (zeros_stay j c u v l f p)
  where
    pick : Dec (u ≡ j) → Dec (get_or c j 0 ≡ 0) → zeros j (set c u v) ≡ zeros j c → zeros (suc j) (set c u v) ≡ zeros (suc j) c
    pick (yes e) d g = let y = zeros_no j c (rw e at f) in let w = zeros_no j (set c u v) (λ z. positive (sym (ap (λ (x : ℕ). get_or (set c u v) x 0) (sym e) ∙ get_or-set_same c u v 0 l) ∙ z)) in omega arith
      where
        positive : v ≡ 0 → ⊥
        positive q = omega arith
    pick (no e) (yes d) g = let y = zeros_yes j c d in let w = zeros_yes j (set c u v) (get_or-set_other c u j v 0 (λ z. e (sym z)) ∙ d) in omega arith
    pick (no e) (no d) g = let y = zeros_no j c d in let w = zeros_no j (set c u v) (λ z. d (sym (get_or-set_other c u j v 0 (λ z. e (sym z))) ∙ z)) in omega arith

-- what comes at the end of a queue does not change its front
pub taken-set : (q : List ℕ) (t v h : ℕ) → h ≤ t → taken (set q t v) h ≡ taken q h
unfolding taken
taken-set q t v zero h = refl
taken-set q t v (suc k) h = rw (get_or-set_other q t k v 0 (λ e. omega arith), taken-set q t v k (omega arith))

pub taken_push : (q : List ℕ) (t v : ℕ) → t < length q → taken (set q t v) (suc t) ≡ v ∷ taken q t
unfolding taken
taken_push q t v h = rw (get_or-set_same q t v 0 h, taken-set q t v t (omega arith))

pub in_taken : (q : List ℕ) (t i : ℕ) → i < t → In (get_or q i 0) (taken q t)
unfolding taken
in_taken q zero i h = absurd (omega arith)
in_taken q (suc t) i h = pick (ℕ_discrete i t) (in_taken q t i)
  where
    pick : Dec (i ≡ t) → (i < t → In (get_or q i 0) (taken q t)) → (get_or q i 0 ≡ get_or q t 0) ⊎ In (get_or q i 0) (taken q t)
    pick (yes e) f = inl (ap (λ (x : ℕ). get_or q x 0) e)
    pick (no e) f = inr (f (omega arith))

-- the next number is none of those before it
pub next_new : (q : List ℕ) (t h : ℕ) → h < t → Distinct (taken q t) → ¬ In (get_or q h 0) (taken q h)
unfolding taken
next_new q zero h p d = absurd (omega arith)
next_new q (suc t) h p d = pick (ℕ_discrete h t) (next_new q t h)
  where
    pick : Dec (h ≡ t) → (h < t → Distinct (taken q t) → ¬ In (get_or q h 0) (taken q h)) → ¬ In (get_or q h 0) (taken q h)
    pick (yes e) f = rw e d.0
    pick (no e) f = f (omega arith) d.1

-- Queued
pub queued_none : (c q : List ℕ) → Queued 0 c q 0
unfolding taken zeros
queued_none c q = record { counted = refl; distinct = tt; exact = λ k. (λ i. absurd i, λ i. absurd (omega arith)) }

-- the next counter is 0, and its number goes into the queue
pub queued_push : (j : ℕ) (c q : List ℕ) (t : ℕ) → Queued j c q t → get_or c j 0 ≡ 0 → t < length q → Queued (suc j) c (set q t j) (suc t)
queued_push j c q t w e h = record { counted = let z = zeros_yes j c e in let y = w.counted in omega arith; distinct = rw (taken_push q t j h) ((λ i. fresh i), w.distinct); exact = λ k. rw (taken_push q t j h) (to k, back k) }
  where
    fresh : In j (taken q t) → ⊥
    fresh i = let z = (w.exact j).0 i in omega arith

    to : (k : ℕ) → (k ≡ j) ⊎ In k (taken q t) → (k < suc j) × (get_or c k 0 ≡ 0)
    to k (inl p) = (omega arith, rw p e)
    to k (inr i) = let z = (w.exact k).0 i in (omega arith, z.1)

    back : (k : ℕ) → (k < suc j) × (get_or c k 0 ≡ 0) → (k ≡ j) ⊎ In k (taken q t)
    back k (l, z) = pick (ℕ_discrete k j)
      where
        pick : Dec (k ≡ j) → (k ≡ j) ⊎ In k (taken q t)
        pick (yes p) = inl p
        pick (no p) = inr ((w.exact k).1 (omega arith, z))

-- the next counter is not 0
pub queued_skip : (j : ℕ) (c q : List ℕ) (t : ℕ) → Queued j c q t → get_or c j 0 ≢ 0 → Queued (suc j) c q t
queued_skip j c q t w f = record { counted = let z = zeros_no j c f in let y = w.counted in omega arith; distinct = w.distinct; exact = λ k. (λ i. let z = (w.exact k).0 i in (omega arith, z.1), λ i. back k i) }
  where
    back : (k : ℕ) → (k < suc j) × (get_or c k 0 ≡ 0) → In k (taken q t)
    back k (l, z) = pick (ℕ_discrete k j)
      where
        pick : Dec (k ≡ j) → In k (taken q t)
        pick (yes p) = absurd (f (rw p at z))
        pick (no p) = (w.exact k).1 (omega arith, z)

-- a counter falls and stays above 0
pub queued_fall : (j : ℕ) (c q : List ℕ) (t u v : ℕ) → Queued j c q t → u < length c → get_or c u 0 ≢ 0 → 0 < v → Queued j (set c u v) q t
queued_fall j c q t u v w l f p = record { counted = w.counted ∙ sym (zeros_stay j c u v l f p); distinct = w.distinct; exact = λ k. (to k, back k) }
  where
    value : (k : ℕ) → Dec (k ≡ u) → (get_or c k 0 ≡ 0) ↔ (get_or (set c u v) k 0 ≡ 0)
    value k (yes e) = rw (e, get_or-set_same c u v 0 l) (λ z. absurd (f z), λ z. absurd (omega arith))
    value k (no e) = rw (get_or-set_other c u k v 0 e) (λ z. z, λ z. z)

    to : (k : ℕ) → In k (taken q t) → (k < j) × (get_or (set c u v) k 0 ≡ 0)
    to k i = let z = (w.exact k).0 i in (z.0, (value k (ℕ_discrete k u)).0 z.1)

    back : (k : ℕ) → (k < j) × (get_or (set c u v) k 0 ≡ 0) → In k (taken q t)
    back k (h, z) = (w.exact k).1 (h, (value k (ℕ_discrete k u)).1 z)

-- a counter falls to 0, and its number goes into the queue
pub queued_free : (j : ℕ) (c q : List ℕ) (t u : ℕ) → Queued j c q t → u < j → u < length c → get_or c u 0 ≢ 0 → t < length q → Queued j (set c u 0) (set q t u) (suc t)
queued_free j c q t u w h l f s = record { counted = let z = zeros_fall j c u h l f in let y = w.counted in omega arith; distinct = rw (taken_push q t u s) ((λ i. f ((w.exact u).0 i).1), w.distinct); exact = λ k. rw (taken_push q t u s) (to k (ℕ_discrete k u), back k (ℕ_discrete k u)) }
  where
    to : (k : ℕ) → Dec (k ≡ u) → (k ≡ u) ⊎ In k (taken q t) → (k < j) × (get_or (set c u 0) k 0 ≡ 0)
    to k (yes e) i = rw e (h, get_or-set_same c u 0 0 l)
    to k (no e) (inl i) = absurd (e i)
    to k (no e) (inr i) = let z = (w.exact k).0 i in (z.0, get_or-set_other c u k 0 0 e ∙ z.1)

    back : (k : ℕ) → Dec (k ≡ u) → (k < j) × (get_or (set c u 0) k 0 ≡ 0) → (k ≡ u) ⊎ In k (taken q t)
    back k (yes e) z = inl e
    back k (no e) (p, z) = inr ((w.exact k).1 (p, sym (get_or-set_other c u k 0 0 e) ∙ z))
