-- What a run of undos takes back: its keys, each once, and nothing else. Forward steps lead back.
use mathlib.Core.Path.{◌≡◌, refl, ap}
use mathlib.Core.Logic.{inl, inr, ⊎_elim, ◌↔◌}
use mathlib.Core.List.{List, [], ◌∷◌, ◌++◌}
use Prim.Native.Nat.{ℕ, ◌+◌, ◌<◌, ◌≤◌}
use native.Mathlib.Omega.{arith}
use lib.ListN.{length}
use Rattle.ccsk.specs.Numbers.{In, distinct}
use Rattle.ccsk.specs.Without.{without}
use Rattle.ccsk.specs.Term.{Term, Has, keys}
use Rattle.ccsk.proofs.Lists.{in_right, in_without, distinct_without}
use Rattle.ccsk.proofs.Keys.{distinct_undo}
use Rattle.ccsk.proofs.Undo.{key_pos, present, absent}
use Rattle.ccsk.proofs.Loop.{forward_of_undo}
use Rattle.sound.specs.Sound.{Sound}
use Rattle.sound.specs.Run.{Run, Undos}
use Rattle.sound.proofs.Kept.{sound_undo}
use Rattle.sound.proofs.Order.{has_undo, has_redo}

-- no number stands twice in the list
abbrev pub Once : List ℕ → Type 0
Once [] = Unit {0}
Once (k ∷ l) = ¬ In k l × Once l

-- numbers of x, each once, are no more than x has different ones
pub once_few : (l x : List ℕ) → Once l → ((k : ℕ) → In k l → In k x) → length l ≤ distinct x
once_few [] x o f = omega arith
once_few (a ∷ l) x o f =
    let rest : (k : ℕ) → In k l → In k (without a x) = λ k i. (in_without k a x (λ e. o.0 (rw e at i))).1 (f k (inr i)) in
    omega (arith, distinct_without a x (f a (inl refl)), once_few l (without a x) o.1 rest)

-- where each stands once, what stands in the front part does not stand behind it
pub once_apart : (k : ℕ) (x y : List ℕ) → Once (x ++ y) → In k x → ¬ In k y
once_apart k [] y o i j = i
once_apart k (a ∷ x) y o (inl e) j = o.0 (in_right a x y (rw e at j))
once_apart k (a ∷ x) y o (inr i) j = once_apart k x y o.1 i j

-- and the part behind has each once too
pub once_behind : (x y : List ℕ) → Once (x ++ y) → Once y
once_behind [] y o = o
once_behind (a ∷ x) y o = once_behind x y o.1

-- a list is what stands before one of its numbers, the number, and what stands behind it
pub split_at : (m : ℕ) (l : List ℕ) → In m l → (x : List ℕ) × (y : List ℕ) × (l ≡ x ++ (m ∷ y))
split_at m [] i = absurd i
split_at m (a ∷ l) (inl e) = ([], l, rw e)
split_at m (a ∷ l) (inr i) = let r = split_at m l i in (a ∷ r.0, r.1, ap (λ z. a ∷ z) r.2)

-- each key of a run stands in the term before it
pub undos_present : {ks : List ℕ} {t u : Term} {k : ℕ} → Undos ks t u → In k ks → (0 < k) × Has k t
undos_present Undos.stay i = absurd i
undos_present (Undos.then d r) (inl e) = (rw e (key_pos d), rw e (present d))
undos_present {k = k} (Undos.then d r) (inr i) = let j = undos_present r i in (j.0, has_undo k d j.0 j.1)

-- no run takes back a key twice
pub undos_once : {ks : List ℕ} {t u : Term} → Undos ks t u → Once ks
undos_once Undos.stay = tt
undos_once (Undos.then d r) = ((λ i. absent d (undos_present r i).1), undos_once r)

-- the keys afterwards are those that the run did not take back
pub undos_left : {ks : List ℕ} {t u : Term} (k : ℕ) → Undos ks t u → 0 < k → Has k u ↔ (Has k t × ¬ In k ks)
undos_left k Undos.stay p = ((λ i. (i, λ j. j)), λ i. i.0)
undos_left k (Undos.then d r) p = let after = undos_left k r p in (
  λ i. let j = after.0 i in (has_undo k d p j.0, ⊎_elim (λ e. absent d (rw e at j.0)) j.1),
  λ i. after.1 (has_redo k d p (λ e. i.1 (inl e)) i.0, λ j. i.1 (inr j)),
)

-- as many keys less as the run takes back
pub undos_distinct : {ks : List ℕ} {t u : Term} → Undos ks t u → distinct (keys t) ≡ length ks + distinct (keys u)
undos_distinct Undos.stay = omega arith
undos_distinct (Undos.then d r) = omega (arith, distinct_undo d, undos_distinct r)

-- a run keeps sound
pub undos_sound : {ks : List ℕ} {t u : Term} → Undos ks t u → Sound t → Sound u
undos_sound Undos.stay s = s
undos_sound (Undos.then d r) s = undos_sound r (sound_undo d s)

-- forward steps make again what a run of undos took back
pub undos_again : {ks : List ℕ} {t u : Term} → Undos ks t u → Run u t
undos_again Undos.stay = Run.stay
undos_again (Undos.then d r) = Run.then (undos_again r) (forward_of_undo d)
