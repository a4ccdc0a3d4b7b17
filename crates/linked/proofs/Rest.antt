-- What is left of a term after undos: which of its keys can be undone next.
use mathlib.Core.Path.{◌≡◌, sym}
use mathlib.Core.Logic.{◌⊎◌, inl, inr, ⊎_elim, ◌≢◌}
use mathlib.Core.List.{List, [], ◌∷◌}
use Prim.Native.Nat.{ℕ, ◌<◌}
use native.Mathlib.Decide.{ℕ_discrete}
use Rattle.ccsk.specs.Numbers.{In, in?}
use Rattle.ccsk.specs.Term.{Term, Has}
use Rattle.ccsk.specs.Step.{Undo, Undoable}
use Rattle.ccsk.proofs.Undo.{absent}
use Rattle.sound.specs.Sound.{Above, Chain, one, more, Sound}
use Rattle.sound.proofs.Order.{has_undo, has_redo, above_undo, above_redo, above_low, last}
use Rattle.sound.proofs.Kept.{sound_undo}
use Rattle.sound.proofs.Derive.{Last}
use Rattle.sound.proofs.Reach.{undo_last}
use Rattle.causes.specs.Nearest.{RightAbove}
use Rattle.causes.proofs.Nearest.{before_chain, right_above_keys, right_keys}

-- v is t without the keys of `out`, and what stands below one of these is one of them.
pub record Rest (t : Term) (out : List ℕ) (v : Term) : Type 0 where
  pub sound : Sound v
  pub kept : (k : ℕ) → 0 < k → Has k t → ¬ In k out → Has k v
  pub gone : (k : ℕ) → 0 < k → Has k v → ¬ In k out
  pub back : (k n : ℕ) → 0 < k → 0 < n → Above k n v → Above k n t
  pub ahead : (k n : ℕ) → 0 < n → ¬ In n out → Above k n t → Above k n v
  pub closed : (k n : ℕ) → In k out → RightAbove 0 t k n → In n out

-- the term itself, with no key out
pub rest_start : (t : Term) → Sound t → Rest t [] t
rest_start t s = record {
  sound = s;
  kept = λ k p i o. i;
  gone = λ k p i o. o;
  back = λ k n p q i. i;
  ahead = λ k n q o i. i;
  closed = λ k n i b. absurd i;
}

module _ {t v : Term} {out : List ℕ} (r : Rest t out v) where
  -- one undo more, of a key that stands right above none but itself and those that are out
  pub rest_undo : {w : Term} {k l : ℕ} → Undo v k l w → ((n : ℕ) → n ≢ k → RightAbove 0 t k n → In n out) → Rest t (k ∷ out) w
  rest_undo {w} {k} d f = record {
    sound = sound_undo d r.sound;
    kept = λ j p i o. has_redo j d p (λ e. o (inl e)) (r.kept j p i (λ x. o (inr x)));
    gone = λ j p i. ⊎_elim (λ e. absent d (rw e at i)) (r.gone j p (has_undo j d p i));
    back = λ j n p q i. r.back j n p q (above_undo j n d p q i);
    ahead = λ j n q o i. above_redo j n d q (λ e. o (inl e)) (r.ahead j n q (λ x. o (inr x)) i);
    closed = stays;
  }
    where
      stays : (j n : ℕ) → In j (k ∷ out) → RightAbove 0 t j n → In n (k ∷ out)
      stays j n (inl e) b = pick (ℕ_discrete n k)
        where
          pick : Dec (n ≡ k) → In n (k ∷ out)
          pick (yes z) = inl z
          pick (no z) = inr (f n z (rw e at b))
      stays j n (inr i) b = inr (r.closed j n i b)

  -- a chain from such a key leads back to it or to a key that is out
  pub lead : {k n : ℕ} → ((x : ℕ) → x ≢ k → RightAbove 0 t k x → In x out) → Chain (RightAbove 0 t) k n → (n ≡ k) ⊎ In n out
  lead f (one {m = k} {n = n} b) = pick (ℕ_discrete n k)
    where
      pick : Dec (n ≡ k) → (n ≡ k) ⊎ In n out
      pick (yes e) = inl e
      pick (no e) = inr (f n e b)
  lead f (more {m = k} {k = j} {n = n} c b) = pick (ℕ_discrete n k) (lead f c)
    where
      pick : Dec (n ≡ k) → (j ≡ k) ⊎ In j out → (n ≡ k) ⊎ In n out
      pick (yes e) i = inl e
      pick (no e) (inl q) = inr (f n e (rw q at b))
      pick (no e) (inr i) = inr (r.closed j n i b)

  -- such a key can be undone
  pub can_undo : (k : ℕ) → 0 < k → Has k t → ¬ In k out → ((n : ℕ) → n ≢ k → RightAbove 0 t k n → In n out) → Undoable v k
  can_undo k p i o f = let d = undo_last v k r.sound p (r.kept k p i o) none in (d.0, d.1.0, d.1.1)
    where
      none : Last k v
      none n q e a = ⊎_elim e (r.gone n q (above_low k n v a)) (lead f (before_chain t (one (p, q, (λ z. e (sym z)), r.back k n p q a))))

  -- and a key that can be undone is such a key
  pub undo_ready : {w : Term} {k l : ℕ} → Undo v k l w → (n : ℕ) → RightAbove 0 t k n → In n out
  undo_ready {k = k} d n b = pick (in? n out)
    where
      pos : 0 < n
      pos = (right_keys 0 t k n b).1

      pick : Dec (In n out) → In n out
      pick (yes i) = i
      pick (no o) = absurd (last n d pos (r.ahead k n pos o (right_above_keys t k n b).1))
