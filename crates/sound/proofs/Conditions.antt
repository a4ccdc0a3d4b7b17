-- An undo keeps a term sound, and so does a forward step.
use mathlib.Core.Path.{◌≡◌, refl, sym, ap, ◌∙◌}
use mathlib.Core.Logic.{◌⊎◌, inl, inr, ◌≢◌, ◌↔◌}
use mathlib.Core.List.{List, [], ◌∷◌, append-nil}
use Prim.Native.Nat.{ℕ, zero, suc, ◌<◌}
use native.Mathlib.Decide.{ℕ_discrete}
use native.Mathlib.Omega.{arith}
use lib.ListN.{length}
use Rattle.ccsk.specs.Term.{Term, nil, pre, cho, par, res, Std, Co, On, labels}
use Rattle.ccsk.specs.Step.{Undo, Undo.top, Undo.prefix, Undo.choice₁, Undo.choice₂, Undo.par₁, Undo.par₂, Undo.synch, Undo.restrict}
use Rattle.ccsk.specs.Numbers.{In}
use Rattle.sound.specs.Sound.{count, Waits, Chosen, Apart, Hidden}
use Rattle.ccsk.proofs.Basic.{never, fresh_labels, std_labels, labels_same, labels_other}
use Rattle.ccsk.proofs.Place.{co_pos}
use Rattle.ccsk.proofs.Undo.{key_pos, absent, labels_kept}

-- an undone prefix is a key in front
waits-pre : (a k : ℕ) (t : Term) → 0 < k → Waits (pre a k t) → Waits t
waits-pre a zero t h w = absurd (omega arith)
waits-pre a (suc k) t h w = w

pre_waits : (a k : ℕ) (t : Term) → 0 < k → Waits t → Waits (pre a k t)
pre_waits a zero t h w = absurd (omega arith)
pre_waits a (suc k) t h w = w

pub std_waits : (t : Term) → Std t → Waits t
std_waits nil s = tt
std_waits (pre a zero t) s = s
std_waits (pre a (suc k) t) s = absurd s
std_waits (cho t u) s = (std_waits t s.0, std_waits u s.1)
std_waits (par t u) s = (std_waits t s.0, std_waits u s.1)
std_waits (res a t) s = std_waits t s

-- condition 1, both ways
pub waits_undo : {t u : Term} {m l : ℕ} → Undo t m l u → Waits t → Waits u
waits_undo (top h s) w = s
waits_undo (prefix {a = a} {n = n} {t = t} {t' = t'} h f d) w = pre_waits a n t' h (waits_undo d (waits-pre a n t h w))
waits_undo (choice₁ s d) w = (waits_undo d w.0, w.1)
waits_undo (choice₂ s d) w = (w.0, waits_undo d w.1)
waits_undo (par₁ f d) w = (waits_undo d w.0, w.1)
waits_undo (par₂ f d) w = (w.0, waits_undo d w.1)
waits_undo (synch c d e) w = (waits_undo d w.0, waits_undo e w.1)
waits_undo (restrict f d) w = waits_undo d w

pub waits_redo : {t u : Term} {m l : ℕ} → Undo t m l u → Waits u → Waits t
waits_redo (top {a = a} {m = m} {t = t} h s) w = pre_waits a m t h (std_waits t s)
waits_redo (prefix {a = a} {n = n} {t = t} {t' = t'} h f d) w = pre_waits a n t h (waits_redo d (waits-pre a n t' h w))
waits_redo (choice₁ s d) w = (waits_redo d w.0, w.1)
waits_redo (choice₂ s d) w = (w.0, waits_redo d w.1)
waits_redo (par₁ f d) w = (waits_redo d w.0, w.1)
waits_redo (par₂ f d) w = (w.0, waits_redo d w.1)
waits_redo (synch c d e) w = (waits_redo d w.0, waits_redo e w.1)
waits_redo (restrict f d) w = waits_redo d w

-- condition 2, both ways
pub chosen_undo : {t u : Term} {m l : ℕ} → Undo t m l u → Chosen t ↔ Chosen u
chosen_undo (top h s) = (λ w. w, λ w. w)
chosen_undo (prefix h f d) = chosen_undo d
chosen_undo (choice₁ s d) = let i = chosen_undo d in (λ w. (inr s, i.0 w.1, w.2), λ w. (inr s, i.1 w.1, w.2))
chosen_undo (choice₂ s d) = let i = chosen_undo d in (λ w. (inl s, w.1, i.0 w.2), λ w. (inl s, w.1, i.1 w.2))
chosen_undo (par₁ f d) = let i = chosen_undo d in (λ w. (i.0 w.0, w.1), λ w. (i.1 w.0, w.1))
chosen_undo (par₂ f d) = let i = chosen_undo d in (λ w. (w.0, i.0 w.1), λ w. (w.0, i.1 w.1))
chosen_undo (synch c d e) = let i = chosen_undo d in let j = chosen_undo e in (λ w. (i.0 w.0, j.0 w.1), λ w. (i.1 w.0, j.1 w.1))
chosen_undo (restrict f d) = chosen_undo d

-- what the key of a step marks: one prefix, or two that belong together, and then the label is tau
pub data Marked (m l : ℕ) (t : Term) : Type 0 where
  lone : labels m t ≡ l ∷ [] → Marked m l t
  pair : (a b : ℕ) → l ≡ 0 → Co a b → labels m t ≡ a ∷ (b ∷ []) → Apart m t → Marked m l t

one_mark : {m l : ℕ} {t : Term} → 0 < l → Marked m l t → labels m t ≡ l ∷ []
one_mark h (lone e) = e
one_mark h (pair a b z c e i) = never h z

lift : {m l : ℕ} {t : Term} (u : Term) → labels m u ≡ labels m t → (Apart m t → Apart m u) → Marked m l t → Marked m l u
lift u e f (lone q) = lone (e ∙ q)
lift u e f (pair a b z c q i) = pair a b z c (e ∙ q) (f i)

pub marked : {t u : Term} {m l : ℕ} → Undo t m l u → Marked m l t
unfolding labels
marked (top {a = a} {m = m} {t = t} h s) = lone (labels_same m a m t refl ∙ ap (λ (x : List ℕ). a ∷ x) (std_labels m t s h))
marked (prefix {a = a} {n = n} {m = m} {t = t} h f d) = lift _ (labels_other m a n t f) (λ i. i) (marked d)
marked (choice₁ {m = m} {t = t} {u = u} s d) = lift _ (rw (std_labels m u s (key_pos d), append-nil (labels m t))) inl (marked d)
marked (choice₂ {m = m} {t = t} s d) = lift _ (rw (std_labels m t s (key_pos d))) inr (marked d)
marked (par₁ {m = m} {t = t} {u = u} f d) = lift _ (rw (fresh_labels m u f, append-nil (labels m t))) (λ i. inr (inl i)) (marked d)
marked (par₂ {m = m} {t = t} f d) = lift _ (rw (fresh_labels m t f)) (λ i. inr (inr i)) (marked d)
marked (synch {m = m} {l = l} {k = k} {t = t} {u = u} c d e) = both (one_mark (co_pos c).0 (marked d)) (one_mark (co_pos c).1 (marked e))
  where
    both : labels m t ≡ l ∷ [] → labels m u ≡ k ∷ [] → Marked m 0 (par t u)
    both x y = pair l k refl c (rw (x, y)) (inl (ap length x, ap length y))
marked (restrict f d) = lift _ refl (λ i. i) (marked d)

-- where the other keys stand
apart_par : (n : ℕ) (t u t' u' : Term) → labels n t ≡ labels n t' → labels n u ≡ labels n u' → (Apart n t → Apart n t') → (Apart n u → Apart n u') → Apart n (par t u) → Apart n (par t' u')
apart_par n t u t' u' e q f g (inl c) = inl (rw (← e) c.0, rw (← q) c.1)
apart_par n t u t' u' e q f g (inr (inl i)) = inr (inl (f i))
apart_par n t u t' u' e q f g (inr (inr i)) = inr (inr (g i))

sum : {A B C D : Type 0} → (A → C) → (B → D) → A ⊎ B → C ⊎ D
sum f g (inl a) = inl (f a)
sum f g (inr b) = inr (g b)

same : {A : Type 0} → A → A
same a = a

pub apart_undo : {t u : Term} {m l : ℕ} (n : ℕ) → Undo t m l u → 0 < n → n ≢ m → Apart n t ↔ Apart n u
apart_undo n (top h s) p e = (same, same)
apart_undo n (prefix h f d) p e = apart_undo n d p e
apart_undo n (choice₁ s d) p e = let i = apart_undo n d p e in (sum i.0 same, sum i.1 same)
apart_undo n (choice₂ s d) p e = let i = apart_undo n d p e in (sum same i.0, sum same i.1)
apart_undo n (par₁ {t = t} {t' = t'} {u = u} f d) p e = let i = apart_undo n d p e in let q = labels_kept n d p e in
    (apart_par n t u t' u q refl i.0 same, apart_par n t' u t u (sym q) refl i.1 same)
apart_undo n (par₂ {t = t} {u = u} {u' = u'} f d) p e = let i = apart_undo n d p e in let q = labels_kept n d p e in
    (apart_par n t u t u' refl q same i.0, apart_par n t u' t u refl (sym q) same i.1)
apart_undo n (synch {t = t} {t' = t'} {u = u} {u' = u'} c d d') p e =
    let i = apart_undo n d p e in let j = apart_undo n d' p e in let q = labels_kept n d p e in let r = labels_kept n d' p e in
    (apart_par n t u t' u' q r i.0 j.0, apart_par n t' u' t u (sym q) (sym r) i.1 j.1)
apart_undo n (restrict f d) p e = apart_undo n d p e

pub labels_after : {t u : Term} {m l : ℕ} → Undo t m l u → labels m u ≡ []
labels_after {u = u} {m = m} d = fresh_labels m u (absent d)

-- condition 6, both ways
abbrev Twin : ℕ → Term → Type 0
Twin a t = (m : ℕ) → 0 < m → (l : ℕ) → In l (labels m t) → On a l → count m t ≡ 2

twin_undo : {t u : Term} {m l : ℕ} (a : ℕ) → Undo t m l u → Twin a t → Twin a u
twin_undo {t} {u} {m} a d w n p l i o = pick (ℕ_discrete n m)
  where
    pick : Dec (n ≡ m) → count n u ≡ 2
    pick (yes e) = absurd (rw (e, labels_after d) at i)
    pick (no e) = rw (← labels_kept n d p e) (w n p l (rw (← labels_kept n d p e) at i) o)

twin_redo : {t u : Term} {m l : ℕ} (a : ℕ) → ¬ On a l → Undo t m l u → Twin a u → Twin a t
twin_redo {t} {u} {m} {l} a f d w n p x i o = pick (ℕ_discrete n m) (marked d)
  where
    pick : Dec (n ≡ m) → Marked m l t → count n t ≡ 2
    pick (yes e) (lone q) = absurd (out (rw (e, q) at i))
      where
        out : In x (l ∷ []) → ⊥
        out (inl z) = f (rw z at o)
        out (inr z) = z
    pick (yes e) (pair b c z k q s) = rw (e, q)
    pick (no e) q = rw (labels_kept n d p e) (w n p x (rw (labels_kept n d p e) at i) o)

pub hidden_undo : {t u : Term} {m l : ℕ} → Undo t m l u → Hidden t ↔ Hidden u
hidden_undo (top h s) = (same, same)
hidden_undo (prefix h f d) = hidden_undo d
hidden_undo (choice₁ s d) = let i = hidden_undo d in (λ w. (i.0 w.0, w.1), λ w. (i.1 w.0, w.1))
hidden_undo (choice₂ s d) = let i = hidden_undo d in (λ w. (w.0, i.0 w.1), λ w. (w.0, i.1 w.1))
hidden_undo (par₁ f d) = let i = hidden_undo d in (λ w. (i.0 w.0, w.1), λ w. (i.1 w.0, w.1))
hidden_undo (par₂ f d) = let i = hidden_undo d in (λ w. (w.0, i.0 w.1), λ w. (w.0, i.1 w.1))
hidden_undo (synch c d e) = let i = hidden_undo d in let j = hidden_undo e in (λ w. (i.0 w.0, j.0 w.1), λ w. (i.1 w.0, j.1 w.1))
hidden_undo (restrict {a = a} f d) = let i = hidden_undo d in (λ w. (twin_undo a d w.0, i.0 w.1), λ w. (twin_redo a f d w.0, i.1 w.1))
