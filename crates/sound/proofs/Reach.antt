-- Proposition 3.5 of 004: a term is sound exactly if forward steps lead to it from its blank form; how long undo runs are, and what they take back first.
use mathlib.Core.Path.{◌≡◌, refl, sym, ap, ◌∙◌}
use mathlib.Core.Logic.{◌⊎◌, inl, inr, ◌≢◌, ◌↔◌}
use mathlib.Core.List.{List, [], ◌∷◌, ◌++◌}
use Prim.Native.Nat.{ℕ, zero, suc, ◌<◌}
use native.Mathlib.Decide.{ℕ_discrete}
use native.Mathlib.Omega.{arith}
use lib.ListN.{length}
use Rattle.ccsk.specs.Numbers.{In, distinct}
use Rattle.ccsk.specs.Term.{Term, Std, Has, labels, blank, keys}
use Rattle.ccsk.specs.Step.{Forward, Undo}
use Rattle.sound.specs.Sound.{Before, Chain, Sound}
use Rattle.sound.specs.Run.{Run, Undos}
use Rattle.ccsk.proofs.Basic.{labels_fresh, std_or_key, std_blank}
use Rattle.ccsk.proofs.Undo.{blank_kept}
use Rattle.ccsk.proofs.Loop.{undo_of_forward, forward_of_undo}
use Rattle.ccsk.proofs.Keys.{std_keys, distinct_undo}
use Rattle.sound.proofs.Kept.{sound_undo, sound_redo, std_sound, reach_sound}
use Rattle.sound.proofs.Derive.{UndoWith, Last, undo_one, undo_two}
use Rattle.sound.proofs.Top.{top_key}
use Rattle.sound.proofs.Order.{no_chain, chain_redo}

-- in a sound term a key with no other below it can be undone
pub undo_last : (t : Term) (m : ℕ) → Sound t → 0 < m → Has m t → Last m t → (l : ℕ) × UndoWith t m l
undo_last t m s h i o = pick (labels m t) refl
  where
    pick : (x : List ℕ) → labels m t ≡ x → (l : ℕ) × UndoWith t m l
    pick [] e = absurd (labels_fresh m t e i)
    pick (a ∷ []) e = (a, undo_one m a t h s.waits s.chosen s.hidden o e)
    pick (a ∷ (b ∷ [])) e = (0, undo_two m a b t h (s.paired m h a b e) s.waits s.chosen s.hidden o e (s.split m h (ap length e)))
    pick (a ∷ (b ∷ (c ∷ x))) e = absurd (omega (arith, s.twice m h, ap length e))

-- some undo exists unless the term is standard
pub undo_some : (t : Term) → Sound t → Std t ⊎ ((m : ℕ) × (l : ℕ) × UndoWith t m l)
undo_some t s = pick (std_or_key t)
  where
    pick : Std t ⊎ ((m : ℕ) × (0 < m) × Has m t) → Std t ⊎ ((m : ℕ) × (l : ℕ) × UndoWith t m l)
    pick (inl x) = inl x
    pick (inr i) = let p = top_key t i.0 s.ordered i.1 i.2 in
        let d = undo_last t p.0 s p.1 p.2 (λ n q e a. p.3 n (p.1, q, (λ z. e (sym z)), a)) in inr (p.0, d.0, d.1)

stand : (t : Term) → Std t → Run (blank t) t
stand t s = rw (std_blank t s) Run.stay

sound_run : (n : ℕ) (t : Term) → distinct (keys t) ≡ n → Sound t → Run (blank t) t
sound_run zero t e s = pick (undo_some t s)
  where
    pick : Std t ⊎ ((m : ℕ) × (l : ℕ) × UndoWith t m l) → Run (blank t) t
    pick (inl x) = stand t x
    pick (inr d) = absurd (omega (arith, distinct_undo d.2.1))
sound_run (suc n) t e s = pick (undo_some t s) (sound_run n)
  where
    pick : Std t ⊎ ((m : ℕ) × (l : ℕ) × UndoWith t m l) → ((u : Term) → distinct (keys u) ≡ n → Sound u → Run (blank u) u) → Run (blank t) t
    pick (inl x) f = stand t x
    pick (inr d) f = let b = d.2.1 in let r = f d.2.0 (omega (arith, distinct_undo b)) (sound_undo b s) in
        rw (blank_kept b) (Run.then r (forward_of_undo b))

-- sound is reachable
pub sound_iff_reachable : (t : Term) → Sound t ↔ Run (blank t) t
sound_iff_reachable t = (sound_run (distinct (keys t)) t refl, reach_sound)

-- any undos from a sound term that end where none is possible: as many as there are keys, and the end is the blank form
pub undos_end : {ks : List ℕ} {t u : Term} → Undos ks t u → Sound t → ((m l : ℕ) (v : Term) → ¬ Undo u m l v) → (length ks ≡ distinct (keys t)) × (u ≡ blank t)
unfolding distinct
undos_end (Undos.stay {t = t}) s f = pick (undo_some t s)
  where
    pick : Std t ⊎ ((m : ℕ) × (l : ℕ) × UndoWith t m l) → (0 ≡ distinct (keys t)) × (t ≡ blank t)
    pick (inl x) = (rw (std_keys t x), sym (std_blank t x))
    pick (inr d) = absurd (f d.0 d.1 d.2.0 d.2.1)
undos_end (Undos.then d r) s f = let i = undos_end r (sound_undo d s) f in (rw (distinct_undo d) (ap suc i.0), i.1 ∙ sym (blank_kept d))

-- What the waiting list is for: a run of undos takes back every key that a chain leads to from m, before it takes back m.
-- It asks for no soundness.
pub waits_go_first : {t u : Term} {m n : ℕ} (ks js : List ℕ) → Undos (ks ++ (m ∷ js)) t u → Chain (Before t) m n → In n ks
waits_go_first [] js (Undos.then d r) c = absurd (no_chain d c)
waits_go_first {n = n} (k ∷ ks) js (Undos.then d r) c = pick (ℕ_discrete n k) (λ e. waits_go_first ks js r (chain_redo d e c))
  where
    pick : Dec (n ≡ k) → (n ≢ k → In n ks) → In n (k ∷ ks)
    pick (yes e) f = inl e
    pick (no e) f = inr (f e)

-- Definition 2.2: steps forward and back, in any order, from a standard term
pub data Steps : Term → Term → Type 0 where
  stay : {t : Term} → Steps t t
  forth : {t u v : Term} {m l : ℕ} → Steps t u → Forward u m l v → Steps t v
  back : {t u v : Term} {m l : ℕ} → Steps t u → Undo u m l v → Steps t v

steps_sound : {t u : Term} → Steps t u → Sound t → Sound u
steps_sound stay s = s
steps_sound (forth r d) s = sound_redo (undo_of_forward d) (steps_sound r s)
steps_sound (back r d) s = sound_undo d (steps_sound r s)

-- the parabolic lemma, Corollary 3.6: what is reachable at all is reachable by forward steps
pub parabolic : {t u : Term} → Std t → Steps t u → Run (blank u) u
parabolic {t} {u} s r = (sound_iff_reachable u).0 (steps_sound r (std_sound t s))
