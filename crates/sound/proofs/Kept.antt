-- Sound is kept by every undo and by every forward step, and every standard term is sound.
use mathlib.Core.Path.{◌≡◌, sym, ◌∙◌}
use mathlib.Core.Logic.{inl}
use mathlib.Core.List.{[], ◌∷◌}
use Prim.Native.Nat.{ℕ, zero, suc, ◌≤◌}
use native.Mathlib.Decide.{ℕ_discrete}
use native.Mathlib.Omega.{arith}
use lib.ListN.{length}
use Rattle.ccsk.specs.Term.{Term, nil, pre, cho, par, res, Std, Co, blank}
use Rattle.ccsk.specs.Step.{Undo}
use Rattle.sound.specs.Sound.{count, Chosen, Twice, Paired, Apart, Split, Hidden, Before, Chain, one, more, Ordered, Sound}
use Rattle.sound.specs.Run.{Run}
use Rattle.ccsk.proofs.Basic.{std_has, std_labels, blank_std}
use Rattle.ccsk.proofs.Undo.{labels_kept}
use Rattle.ccsk.proofs.Loop.{undo_of_forward}
use Rattle.sound.proofs.Conditions.{Marked, lone, pair, marked, labels_after, waits_undo, waits_redo, chosen_undo, apart_undo, hidden_undo, std_waits}
use Rattle.sound.proofs.Order.{ordered_undo, above_low}

module _ {t u : Term} {m l : ℕ} (d : Undo t m l u) where
  twice_undo : Twice t → Twice u
  twice_undo w n p = pick (ℕ_discrete n m)
    where
      pick : Dec (n ≡ m) → count n u ≤ 2
      pick (yes e) = rw (e, labels_after d) (omega arith)
      pick (no e) = rw (← labels_kept n d p e) (w n p)

  twice_redo : Twice u → Twice t
  twice_redo w n p = pick (ℕ_discrete n m) (marked d)
    where
      pick : Dec (n ≡ m) → Marked m l t → count n t ≤ 2
      pick (yes e) (lone q) = rw (e, q) (omega arith)
      pick (yes e) (pair a b z c q i) = rw (e, q) (omega arith)
      pick (no e) q = rw (labels_kept n d p e) (w n p)

  paired_undo : Paired t → Paired u
  paired_undo w n p a b q = pick (ℕ_discrete n m)
    where
      pick : Dec (n ≡ m) → Co a b
      pick (yes e) = let x : [] ≡ a ∷ (b ∷ []) = rw (e, labels_after d) at q in let z : ◌≡◌ {A = ℕ} 0 1 = cc in absurd (omega arith)
      pick (no e) = w n p a b (labels_kept n d p e ∙ q)

  paired_redo : Paired u → Paired t
  paired_redo w n p a b q = pick (ℕ_discrete n m) (marked d)
    where
      pick : Dec (n ≡ m) → Marked m l t → Co a b
      pick (yes e) (lone x) = let y : l ∷ [] ≡ a ∷ (b ∷ []) = rw (e, x) at q in let z : ◌≡◌ {A = ℕ} 0 1 = cc in absurd (omega arith)
      pick (yes e) (pair a' b' z c x i) = let y : a' ∷ (b' ∷ []) ≡ a ∷ (b ∷ []) = rw (e, x) at q in let ea : a' ≡ a = cc in let eb : b' ≡ b = cc in rw (ea, eb) at c
      pick (no e) x = w n p a b (sym (labels_kept n d p e) ∙ q)

  split_undo : Split t → Split u
  split_undo w n p q = pick (ℕ_discrete n m)
    where
      pick : Dec (n ≡ m) → Apart n u
      pick (yes e) = let x : length {A = ℕ} [] ≡ 2 = rw (e, labels_after d) at q in absurd (omega arith)
      pick (no e) = (apart_undo n d p e).0 (w n p (rw (labels_kept n d p e) q))

  split_redo : Split u → Split t
  split_redo w n p q = pick (ℕ_discrete n m) (marked d)
    where
      pick : Dec (n ≡ m) → Marked m l t → Apart n t
      pick (yes e) (lone x) = let y : length (l ∷ []) ≡ 2 = rw (e, x) at q in absurd (omega arith)
      pick (yes e) (pair a b z c x i) = rw e i
      pick (no e) x = (apart_undo n d p e).1 (w n p (rw (← labels_kept n d p e) q))

  pub sound_undo : Sound t → Sound u
  sound_undo s = record {
    waits = waits_undo d s.waits;
    chosen = (chosen_undo d).0 s.chosen;
    twice = twice_undo s.twice;
    paired = paired_undo s.paired;
    split = split_undo s.split;
    hidden = (hidden_undo d).0 s.hidden;
    ordered = (ordered_undo d).0 s.ordered;
  }

  pub sound_redo : Sound u → Sound t
  sound_redo s = record {
    waits = waits_redo d s.waits;
    chosen = (chosen_undo d).1 s.chosen;
    twice = twice_redo s.twice;
    paired = paired_redo s.paired;
    split = split_redo s.split;
    hidden = (hidden_undo d).1 s.hidden;
    ordered = (ordered_undo d).1 s.ordered;
  }

std_chosen : (t : Term) → Std t → Chosen t
std_chosen nil s = tt
std_chosen (pre a zero t) s = std_chosen t s
std_chosen (pre a (suc k) t) s = absurd s
std_chosen (cho t u) s = (inl s.0, std_chosen t s.0, std_chosen u s.1)
std_chosen (par t u) s = (std_chosen t s.0, std_chosen u s.1)
std_chosen (res a t) s = std_chosen t s

std_hidden : (t : Term) → Std t → Hidden t
std_hidden nil s = tt
std_hidden (pre a zero t) s = std_hidden t s
std_hidden (pre a (suc k) t) s = absurd s
std_hidden (cho t u) s = (std_hidden t s.0, std_hidden u s.1)
std_hidden (par t u) s = (std_hidden t s.0, std_hidden u s.1)
std_hidden (res a t) s = (λ m p l i o. absurd (rw (std_labels m t s p) at i), std_hidden t s)

pub std_sound : (t : Term) → Std t → Sound t
std_sound t s = record {
  waits = std_waits t s;
  chosen = std_chosen t s;
  twice = λ m p. rw (std_labels m t s p) (omega arith);
  paired = paired;
  split = split;
  hidden = std_hidden t s;
  ordered = ordered;
}
  where
    paired : Paired t
    paired m p a b q = let x : [] ≡ a ∷ (b ∷ []) = rw (std_labels m t s p) at q in let z : ◌≡◌ {A = ℕ} 0 1 = cc in absurd (omega arith)

    split : Split t
    split m p q = let x : length {A = ℕ} [] ≡ 2 = rw (std_labels m t s p) at q in absurd (omega arith)

    end : {m n : ℕ} → Chain (Before t) m n → ⊥
    end (one {m = m} {n = n} b) = std_has t s b.1 (above_low m n t b.3)
    end (more c b) = end c

    ordered : Ordered t
    ordered m c = end c

-- direction (a)
pub run_sound : {t u : Term} → Run t u → Sound t → Sound u
run_sound Run.stay s = s
run_sound (Run.then r d) s = sound_redo (undo_of_forward d) (run_sound r s)

pub reach_sound : {t : Term} → Run (blank t) t → Sound t
reach_sound {t} r = run_sound r (std_sound (blank t) (blank_std t))
