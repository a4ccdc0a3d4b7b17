-- What an undo does to the term: its key goes, all else stays; one undo a key; two undos commute.
use mathlib.Core.Path.{◌≡◌, refl, sym, ap}
use mathlib.Core.Logic.{inl, inr, ◌≢◌, ◌↔◌}
use Prim.Native.Nat.{ℕ, ◌<◌}
use borrow.Author.Tests.{ne_eqb}
use lib.Dec.{eqb}
use Rattle.ccsk.specs.Term.{Term, pre, cho, par, res, Std, Has, labels, tick, blank}
use Rattle.ccsk.specs.Step.{Undo, Undo.top, Undo.prefix, Undo.choice₁, Undo.choice₂, Undo.par₁, Undo.par₂, Undo.synch, Undo.restrict}
use Rattle.ccsk.proofs.Basic.{never, std_has, fresh_labels, labels_fresh}

pub key_pos : {t u : Term} {m l : ℕ} → Undo t m l u → 0 < m
key_pos (top h s) = h
key_pos (prefix h n d) = key_pos d
key_pos (choice₁ s d) = key_pos d
key_pos (choice₂ s d) = key_pos d
key_pos (par₁ f d) = key_pos d
key_pos (par₂ f d) = key_pos d
key_pos (synch c d e) = key_pos d
key_pos (restrict f d) = key_pos d

-- the key stands in the term before
pub present : {t u : Term} {m l : ℕ} → Undo t m l u → Has m t
present (top h s) = inl refl
present (prefix h n d) = inr (present d)
present (choice₁ s d) = inl (present d)
present (choice₂ s d) = inr (present d)
present (par₁ f d) = inl (present d)
present (par₂ f d) = inr (present d)
present (synch c d e) = inl (present d)
present (restrict f d) = present d

-- a standard term has no undo
pub std_stuck : {t u : Term} {m l : ℕ} → Std t → Undo t m l u → ⊥
std_stuck {t} s d = std_has t s (key_pos d) (present d)

-- and nowhere after
pub absent : {t u : Term} {m l : ℕ} → Undo t m l u → ¬ Has m u
absent (top h s) (inl e) = never h e
absent (top {t = t} h s) (inr i) = std_has t s h i
absent (prefix h n d) (inl e) = n e
absent (prefix h n d) (inr i) = absent d i
absent (choice₁ s d) (inl i) = absent d i
absent (choice₁ {u = u} s d) (inr i) = std_has u s (key_pos d) i
absent (choice₂ {t = t} s d) (inl i) = std_has t s (key_pos d) i
absent (choice₂ s d) (inr i) = absent d i
absent (par₁ f d) (inl i) = absent d i
absent (par₁ f d) (inr i) = f i
absent (par₂ f d) (inl i) = f i
absent (par₂ f d) (inr i) = absent d i
absent (synch c d e) (inl i) = absent d i
absent (synch c d e) (inr i) = absent e i
absent (restrict f d) i = absent d i

-- every other key marks what it marked
pub labels_kept : {t u : Term} {m l : ℕ} (n : ℕ) → Undo t m l u → 0 < n → n ≢ m → labels n t ≡ labels n u
unfolding labels
labels_kept n (top {m = m} h s) p e = rw (ne_eqb n m e, ne_eqb n 0 (never p))
labels_kept n (prefix {a = a} {n = k} h f d) p e = ap (tick (eqb n k) a) (labels_kept n d p e)
labels_kept n (choice₁ {u = u} s d) p e = rw (labels_kept n d p e)
labels_kept n (choice₂ {t = t} s d) p e = rw (labels_kept n d p e)
labels_kept n (par₁ {u = u} f d) p e = rw (labels_kept n d p e)
labels_kept n (par₂ {t = t} f d) p e = rw (labels_kept n d p e)
labels_kept n (synch c d d') p e = rw (labels_kept n d p e, labels_kept n d' p e)
labels_kept n (restrict f d) p e = labels_kept n d p e

pub has_kept : {t u : Term} {m l : ℕ} (n : ℕ) → Undo t m l u → 0 < n → n ≢ m → ¬ Has n t ↔ ¬ Has n u
has_kept {t} {u} n d p e = (λ f. labels_fresh n u (rw (labels_kept n d p e) at (fresh_labels n t f)), λ f. labels_fresh n t (rw (labels_kept n d p e) (fresh_labels n u f)))

-- two undos of one term by keys that are equal
undo_alike : {t u v : Term} {m n l k : ℕ} → Undo t m l u → Undo t n k v → m ≡ n → (l ≡ k) × (u ≡ v)
undo_alike (top h s) (top h' s') q = (refl, refl)
undo_alike (top h s) (prefix h' f e) q = absurd (f (sym q))
undo_alike (prefix h f d) (top h' s) q = absurd (f q)
undo_alike (prefix {a = a} {n = n} h f d) (prefix h' f' e) q = let i = undo_alike d e q in (i.0, ap (pre a n) i.1)
undo_alike (choice₁ s d) (choice₁ s' e) q = let i = undo_alike d e q in (i.0, cc)
undo_alike (choice₁ s d) (choice₂ s' e) q = absurd (std_stuck s' d)
undo_alike (choice₂ s d) (choice₁ s' e) q = absurd (std_stuck s' d)
undo_alike (choice₂ s d) (choice₂ s' e) q = let i = undo_alike d e q in (i.0, cc)
undo_alike (par₁ f d) (par₁ f' e) q = let i = undo_alike d e q in (i.0, cc)
undo_alike (par₁ f d) (par₂ f' e) q = absurd (f' (rw q at (present d)))
undo_alike (par₁ f d) (synch c e e') q = absurd (f (rw (← q) at (present e')))
undo_alike (par₂ f d) (par₁ f' e) q = absurd (f' (rw q at (present d)))
undo_alike (par₂ f d) (par₂ f' e) q = let i = undo_alike d e q in (i.0, cc)
undo_alike (par₂ f d) (synch c e e') q = absurd (f (rw (← q) at (present e)))
undo_alike (synch c d d') (par₁ f e) q = absurd (f (rw q at (present d')))
undo_alike (synch c d d') (par₂ f e) q = absurd (f (rw q at (present d)))
undo_alike (synch c d d') (synch c' e e') q = let i = undo_alike d e q in let j = undo_alike d' e' q in (refl, cc)
undo_alike (restrict {a = a} f d) (restrict f' e) q = let i = undo_alike d e q in (i.0, ap (res a) i.1)

-- at most one undo for a key
pub undo_once : {t u v : Term} {m l k : ℕ} → Undo t m l u → Undo t m k v → (l ≡ k) × (u ≡ v)
undo_once d e = undo_alike d e refl

pub blank_kept : {t u : Term} {m l : ℕ} → Undo t m l u → blank t ≡ blank u
unfolding blank
blank_kept (top h s) = refl
blank_kept (prefix {a = a} h n d) = ap (pre a 0) (blank_kept d)
blank_kept (choice₁ s d) = rw (blank_kept d)
blank_kept (choice₂ s d) = rw (blank_kept d)
blank_kept (par₁ f d) = rw (blank_kept d)
blank_kept (par₂ f d) = rw (blank_kept d)
blank_kept (synch c d e) = rw (blank_kept d, blank_kept e)
blank_kept (restrict f d) = rw (blank_kept d)

-- two undos by different keys commute, on any term
abbrev pub Meet : Term → ℕ → ℕ → Term → ℕ → ℕ → Type 0
Meet u n k v m l = (w : Term) × Undo u n k w × Undo v m l w

fresh_after : {t u : Term} {m l : ℕ} (n : ℕ) → Undo t m l u → 0 < n → n ≢ m → ¬ Has n t → ¬ Has n u
fresh_after n d p e = (has_kept n d p e).0

pub diamond : {t u v : Term} {m l n k : ℕ} → m ≢ n → Undo t m l u → Undo t n k v → Meet u n k v m l
diamond e (top h s) (top h' s') = absurd (e refl)
diamond e (top h s) (prefix h' n d) = absurd (std_stuck s d)
diamond e (prefix h n d) (top h' s) = absurd (std_stuck s d)
diamond e (prefix {a = a} {n = n} h f d) (prefix h' f' d') = let i = diamond e d d' in (pre a n i.0, prefix h f' i.1, prefix h f i.2)
diamond e (choice₁ {u = u} s d) (choice₁ s' d') = let i = diamond e d d' in (cho i.0 u, choice₁ s i.1, choice₁ s i.2)
diamond e (choice₁ s d) (choice₂ s' d') = absurd (std_stuck s d')
diamond e (choice₂ s d) (choice₁ s' d') = absurd (std_stuck s d')
diamond e (choice₂ {t = t} s d) (choice₂ s' d') = let i = diamond e d d' in (cho t i.0, choice₂ s i.1, choice₂ s i.2)
diamond e (par₁ {u = u} f d) (par₁ f' d') = let i = diamond e d d' in (par i.0 u, par₁ f' i.1, par₁ f i.2)
diamond {m = m} {n = n} e (par₁ {t' = t'} f d) (par₂ {u' = u'} f' d') = (par t' u', par₂ (fresh_after n d (key_pos d') (λ q. e (sym q)) f') d', par₁ (fresh_after m d' (key_pos d) e f) d)
diamond {m = m} e (par₁ {u = u} f d) (synch {u' = u'} c d' e') = let i = diamond e d d' in (par i.0 u', synch c i.1 e', par₁ (fresh_after m e' (key_pos d) e f) i.2)
diamond {m = m} {n = n} e (par₂ {u' = u'} f d) (par₁ {t' = t'} f' d') = (par t' u', par₁ (fresh_after n d (key_pos d') (λ q. e (sym q)) f') d', par₂ (fresh_after m d' (key_pos d) e f) d)
diamond e (par₂ {t = t} f d) (par₂ f' d') = let i = diamond e d d' in (par t i.0, par₂ f' i.1, par₂ f i.2)
diamond {m = m} e (par₂ f d) (synch {t' = t'} c d' e') = let i = diamond e d e' in (par t' i.0, synch c d' i.1, par₂ (fresh_after m d' (key_pos d) e f) i.2)
diamond {n = n} e (synch {u' = u'} c d d'') (par₁ f d') = let i = diamond e d d' in (par i.0 u', par₁ (fresh_after n d'' (key_pos d') (λ q. e (sym q)) f) i.1, synch c i.2 d'')
diamond {n = n} e (synch {t' = t'} c d d'') (par₂ f d') = let i = diamond e d'' d' in (par t' i.0, par₂ (fresh_after n d (key_pos d') (λ q. e (sym q)) f) i.1, synch c d i.2)
diamond e (synch c d d'') (synch c' d' e') = let i = diamond e d d' in let j = diamond e d'' e' in (par i.0 j.0, synch c' i.1 j.1, synch c i.2 j.2)
diamond e (restrict {a = a} f d) (restrict f' d') = let i = diamond e d d' in (res a i.0, restrict f' i.1, restrict f i.2)
