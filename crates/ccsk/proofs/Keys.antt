-- The list of keys: it is no longer than there are nodes, an undo takes exactly its key out of it, and one less is left.
use mathlib.Core.Path.{◌≡◌, refl}
use mathlib.Core.Logic.{inl, inr, ⊎_elim}
use mathlib.Core.List.{List, [], ◌∷◌}
use Prim.Native.Nat.{ℕ, zero, suc, ◌<◌, ◌≤◌}
use native.Mathlib.Omega.{arith}
use lib.ListN.{length, length-append}
use Rattle.ccsk.specs.Numbers.{In, distinct}
use Rattle.ccsk.specs.Without.{without}
use Rattle.ccsk.proofs.Lists.{in_left, in_right, in_either, without-append, without_same, without_other, without_none, distinct_without}
use Rattle.ccsk.specs.Term.{Term, Key, nil, pre, cho, par, res, Std, Has, done, keys, size}
use Rattle.ccsk.specs.Step.{Undo, Undo.top, Undo.prefix, Undo.choice₁, Undo.choice₂, Undo.par₁, Undo.par₂, Undo.synch, Undo.restrict}
use Rattle.ccsk.proofs.Basic.{never, std_has}
use Rattle.ccsk.proofs.Undo.{key_pos, present}

pub has_in : (m : ℕ) (t : Term) → 0 < m → Has m t → In m (keys t)
unfolding keys
has_in m nil h i = i
has_in m (pre a zero t) h (inl e) = never h e
has_in m (pre a zero t) h (inr i) = has_in m t h i
has_in m (pre a (suc k) t) h (inl e) = inl e
has_in m (pre a (suc k) t) h (inr i) = inr (has_in m t h i)
has_in m (cho t u) h (inl i) = in_left m (keys t) (keys u) (has_in m t h i)
has_in m (cho t u) h (inr i) = in_right m (keys t) (keys u) (has_in m u h i)
has_in m (par t u) h (inl i) = in_left m (keys t) (keys u) (has_in m t h i)
has_in m (par t u) h (inr i) = in_right m (keys t) (keys u) (has_in m u h i)
has_in m (res a t) h i = has_in m t h i

pub in_has : (m : ℕ) (t : Term) → In m (keys t) → (0 < m) × Has m t
unfolding keys
in_has m nil i = absurd i
in_has m (pre a zero t) i = let r = in_has m t i in (r.0, inr r.1)
in_has m (pre a (suc k) t) (inl e) = (omega arith, inl e)
in_has m (pre a (suc k) t) (inr i) = let r = in_has m t i in (r.0, inr r.1)
in_has m (cho t u) i = ⊎_elim (λ j. let r = in_has m t j in (r.0, inl r.1)) (λ j. let r = in_has m u j in (r.0, inr r.1)) (in_either m (keys t) (keys u) i)
in_has m (par t u) i = ⊎_elim (λ j. let r = in_has m t j in (r.0, inl r.1)) (λ j. let r = in_has m u j in (r.0, inr r.1)) (in_either m (keys t) (keys u) i)
in_has m (res a t) i = in_has m t i

-- no more keys than nodes
done-length : (k : Key) (l : List Key) → length (done k l) ≤ suc (length l)
done-length zero l = omega arith
done-length (suc k) l = omega arith

pub keys_few : (t : Term) → length (keys t) ≤ size t
unfolding keys size
keys_few nil = omega arith
keys_few (pre a k t) = omega (arith, done-length k (keys t), keys_few t)
keys_few (cho t u) = omega (arith, length-append (keys t) (keys u), keys_few t, keys_few u)
keys_few (par t u) = omega (arith, length-append (keys t) (keys u), keys_few t, keys_few u)
keys_few (res a t) = omega (arith, keys_few t)

pub std_keys : (t : Term) → Std t → keys t ≡ []
unfolding keys
std_keys nil s = refl
std_keys (pre a zero t) s = std_keys t s
std_keys (pre a (suc k) t) s = absurd s
std_keys (cho t u) s = rw (std_keys t s.0, std_keys u s.1)
std_keys (par t u) s = rw (std_keys t s.0, std_keys u s.1)
std_keys (res a t) s = std_keys t s

stays : (m : ℕ) (t : Term) → ¬ Has m t → without m (keys t) ≡ keys t
stays m t f = without_none m (keys t) (λ i. f (in_has m t i).1)

done_pos : (k : ℕ) (l : List ℕ) → 0 < k → done k l ≡ k ∷ l
done_pos zero l h = absurd (omega arith)
done_pos (suc k) l h = refl

pub keys_undo : {t u : Term} {m l : ℕ} → Undo t m l u → keys u ≡ without m (keys t)
unfolding keys
keys_undo (top {m = m} {t = t} h s) = rw (done_pos m (keys t) h, without_same m m (keys t) refl, stays m t (std_has t s h))
keys_undo (prefix {n = n} {m = m} {t = t} {t' = t'} h f d) = rw (done_pos n (keys t) h, done_pos n (keys t') h, without_other m n (keys t) f, keys_undo d)
keys_undo (choice₁ {m = m} {t = t} {u = u} s d) = rw (without-append m (keys t) (keys u), keys_undo d, stays m u (std_has u s (key_pos d)))
keys_undo (choice₂ {m = m} {t = t} {u = u} s d) = rw (without-append m (keys t) (keys u), keys_undo d, stays m t (std_has t s (key_pos d)))
keys_undo (par₁ {m = m} {t = t} {u = u} f d) = rw (without-append m (keys t) (keys u), keys_undo d, stays m u f)
keys_undo (par₂ {m = m} {t = t} {u = u} f d) = rw (without-append m (keys t) (keys u), keys_undo d, stays m t f)
keys_undo (synch {m = m} {t = t} {u = u} c d e) = rw (without-append m (keys t) (keys u), keys_undo d, keys_undo e)
keys_undo (restrict f d) = keys_undo d

pub distinct_undo : {t u : Term} {m l : ℕ} → Undo t m l u → distinct (keys t) ≡ suc (distinct (keys u))
distinct_undo {t} {m = m} d = rw (keys_undo d) (distinct_without m (keys t) (has_in m t (key_pos d) (present d)))
