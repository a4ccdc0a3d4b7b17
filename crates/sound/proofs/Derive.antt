-- In a sound term the undo of a key with no other key below it is derivable.
use mathlib.Core.Path.{◌≡◌, refl, sym, ap, ◌∙◌}
use mathlib.Core.Logic.{◌⊎◌, inl, inr, ⊎_elim, ◌≢◌}
use mathlib.Core.List.{List, [], ◌∷◌, ◌++◌}
use mathlib.Core.Bool.{Bool, true, false}
use Prim.Native.Nat.{ℕ, zero, suc, ◌≤◌, ◌<◌}
use native.Mathlib.Decide.{ℕ_discrete}
use native.Mathlib.Omega.{arith}
use lib.ListN.{length, length-append}
use lib.Dec.{eqb}
use Rattle.ccsk.specs.Term.{Term, nil, pre, cho, par, res, Std, Has, Co, On, labels, tick}
use Rattle.ccsk.specs.Step.{Undo, Undo.top, Undo.prefix, Undo.choice₁, Undo.choice₂, Undo.par₁, Undo.par₂, Undo.synch, Undo.restrict}
use Rattle.ccsk.specs.Numbers.{In}
use Rattle.sound.specs.Sound.{count, Waits, Chosen, Apart, Hidden, Above}
use Rattle.ccsk.proofs.Basic.{never, tau_open, labels_fresh, std_labels, labels_same, labels_other, nil_left, nil_right, std_or_key}

-- an undo of m with label l
abbrev pub UndoWith : Term → ℕ → ℕ → Type 0
UndoWith t m l = (u : Term) × Undo t m l u

-- no other key stands below m
abbrev pub Last : ℕ → Term → Type 0
Last m t = (n : ℕ) → 0 < n → n ≢ m → ¬ Above m n t

no_cons : {A : Type 0} {a : ℕ} {l : List ℕ} → [] ≡ a ∷ l → A
no_cons e = let z : ◌≡◌ {A = ℕ} 0 1 = cc in absurd (omega arith)

one_split : (x y : List ℕ) (a : ℕ) → x ++ y ≡ a ∷ [] → ((x ≡ a ∷ []) × (y ≡ [])) ⊎ ((x ≡ []) × (y ≡ a ∷ []))
one_split [] y a e = inr (refl, e)
one_split (b ∷ x) y a e = let q : x ++ y ≡ [] = cc in inl (cc (nil_left x y q), nil_right x y q)

two_left : (x y : List ℕ) (a b : ℕ) → x ++ y ≡ a ∷ (b ∷ []) → 2 ≤ length x → (x ≡ a ∷ (b ∷ [])) × (y ≡ [])
two_left [] y a b e h = absurd (omega arith)
two_left (c ∷ []) y a b e h = absurd (omega arith)
two_left (c ∷ (d ∷ x)) y a b e h = let q : x ++ y ≡ [] = cc in (cc (nil_left x y q), nil_right x y q)

two_right : (x y : List ℕ) (a b : ℕ) → x ++ y ≡ a ∷ (b ∷ []) → 2 ≤ length y → (x ≡ []) × (y ≡ a ∷ (b ∷ []))
two_right [] y a b e h = (refl, e)
two_right (c ∷ x) y a b e h = absurd (pick (one_split x y b (cc)))
  where
    pick : ((x ≡ b ∷ []) × (y ≡ [])) ⊎ ((x ≡ []) × (y ≡ b ∷ [])) → ⊥
    pick (inl q) = omega (arith, ap length q.1)
    pick (inr q) = omega (arith, ap length q.1)

two_each : (x y : List ℕ) (a b : ℕ) → x ++ y ≡ a ∷ (b ∷ []) → length x ≡ 1 → (x ≡ a ∷ []) × (y ≡ b ∷ [])
two_each [] y a b e h = absurd (omega arith)
two_each (c ∷ []) y a b e h = (cc, cc)
two_each (c ∷ (d ∷ x)) y a b e h = absurd (omega arith)

-- what one marked prefix needs
lone_top : (m a b k : ℕ) (t : Term) → 0 < m → m ≡ k → Last m (pre b k t) → labels m (pre b k t) ≡ a ∷ [] → UndoWith (pre b k t) m a
lone_top m a b k t h e o q = rw (← e, ← ab) (pre b 0 t, top h std)
  where
    cons : b ∷ labels m t ≡ a ∷ []
    cons = rw (labels_same m b k t e) at q

    ab : b ≡ a
    ab = cc (cons)

    none : labels m t ≡ []
    none = cc (cons)

    std : Std t
    std = pick (std_or_key t)
      where
        pick : Std t ⊎ ((n : ℕ) × (0 < n) × Has n t) → Std t
        pick (inl s) = s
        pick (inr i) = absurd (o i.0 i.1 (λ z. labels_fresh m t none (rw z at i.2)) (inl (e, i.2)))

side : (m : ℕ) {a : ℕ} {l : List ℕ} (t u : Term) → 0 < m → (Std t ⊎ Std u) → labels m t ≡ a ∷ l → Std u
side m t u h (inl s) e = no_cons (sym (std_labels m t s h) ∙ e)
side m t u h (inr s) e = s

pub undo_one : (m a : ℕ) (t : Term) → 0 < m → Waits t → Chosen t → Hidden t → Last m t → labels m t ≡ a ∷ [] → UndoWith t m a
unfolding labels
undo_one m a nil h w c x o e = no_cons e
undo_one m a (pre b zero t) h w c x o e = no_cons (sym (std_labels m t w h) ∙ sym (labels_other m b 0 t (never h)) ∙ e)
undo_one m a (pre b (suc k) t) h w c x o e = pick (ℕ_discrete m (suc k)) (undo_one m a t h w c x (λ n p q i. o n p q (inr i)))
  where
    pick : Dec (m ≡ suc k) → (labels m t ≡ a ∷ [] → UndoWith t m a) → UndoWith (pre b (suc k) t) m a
    pick (yes q) i = lone_top m a b (suc k) t h q o e
    pick (no q) i = let d = i (sym (labels_other m b (suc k) t q) ∙ e) in (pre b (suc k) d.0, prefix {n = suc k} (omega arith) q d.1)
undo_one m a (cho t u) h w c x o e =
    pick (one_split (labels m t) (labels m u) a e) (undo_one m a t h w.0 c.1 x.0 (λ n p q i. o n p q (inl i))) (undo_one m a u h w.1 c.2 x.1 (λ n p q i. o n p q (inr i)))
  where
    pick : ((labels m t ≡ a ∷ []) × (labels m u ≡ [])) ⊎ ((labels m t ≡ []) × (labels m u ≡ a ∷ [])) → (labels m t ≡ a ∷ [] → UndoWith t m a) → (labels m u ≡ a ∷ [] → UndoWith u m a) → UndoWith (cho t u) m a
    pick (inl q) i j = let d = i q.0 in (cho d.0 u, choice₁ (side m t u h c.0 q.0) d.1)
    pick (inr q) i j = let d = j q.1 in (cho t d.0, choice₂ (side m u t h (⊎_elim inr inl c.0) q.1) d.1)
undo_one m a (par t u) h w c x o e =
    pick (one_split (labels m t) (labels m u) a e) (undo_one m a t h w.0 c.0 x.0 (λ n p q i. o n p q (inl i))) (undo_one m a u h w.1 c.1 x.1 (λ n p q i. o n p q (inr i)))
  where
    pick : ((labels m t ≡ a ∷ []) × (labels m u ≡ [])) ⊎ ((labels m t ≡ []) × (labels m u ≡ a ∷ [])) → (labels m t ≡ a ∷ [] → UndoWith t m a) → (labels m u ≡ a ∷ [] → UndoWith u m a) → UndoWith (par t u) m a
    pick (inl q) i j = let d = i q.0 in (par d.0 u, par₁ (labels_fresh m u q.1) d.1)
    pick (inr q) i j = let d = j q.1 in (par t d.0, par₂ (labels_fresh m t q.0) d.1)
undo_one m a (res b t) h w c x o e = let d = undo_one m a t h w c x.1 o e in (res b d.0, restrict free d.1)
  where
    in_one : In a (labels m t)
    in_one = rw e (inl refl)

    free : ¬ On b a
    free q = let z : length (a ∷ []) ≡ 2 = rw e at (x.0 m h a in_one q) in omega arith

tick_grows : (b : Bool) (a : ℕ) (l : List ℕ) → length l ≤ length (tick b a l)
tick_grows true a l = omega arith
tick_grows false a l = omega arith

pub apart_two : (m : ℕ) (t : Term) → Apart m t → 2 ≤ count m t
unfolding labels
apart_two m nil i = absurd i
apart_two m (pre a k t) i = omega (arith, apart_two m t i, tick_grows (eqb m k) a (labels m t))
apart_two m (cho t u) (inl i) = rw length-append (omega (arith, apart_two m t i))
apart_two m (cho t u) (inr i) = rw length-append (omega (arith, apart_two m u i))
apart_two m (par t u) (inl i) = rw length-append (omega arith)
apart_two m (par t u) (inr (inl i)) = rw length-append (omega (arith, apart_two m t i))
apart_two m (par t u) (inr (inr i)) = rw length-append (omega (arith, apart_two m u i))
apart_two m (res a t) i = apart_two m t i

pub undo_two : (m a b : ℕ) (t : Term) → 0 < m → Co a b → Waits t → Chosen t → Hidden t → Last m t → labels m t ≡ a ∷ (b ∷ []) → Apart m t → UndoWith t m 0
unfolding labels
undo_two m a b nil h k w c x o e s = absurd s
undo_two m a b (pre d zero t) h k w c x o e s = absurd (omega (arith, apart_two m t s, ap length (std_labels m t w h)))
undo_two m a b (pre d (suc n) t) h k w c x o e s = pick (ℕ_discrete m (suc n)) (undo_two m a b t h k w c x (λ n p q i. o n p q (inr i)))
  where
    pick : Dec (m ≡ suc n) → (labels m t ≡ a ∷ (b ∷ []) → Apart m t → UndoWith t m 0) → UndoWith (pre d (suc n) t) m 0
    pick (yes q) i = absurd (omega (arith, apart_two m t s, ap length (sym (labels_same m d (suc n) t q) ∙ e)))
    pick (no q) i = let f = i (sym (labels_other m d (suc n) t q) ∙ e) s in (pre d (suc n) f.0, prefix {n = suc n} (omega arith) q f.1)
undo_two m a b (cho t u) h k w c x o e (inl s) =
    let q = two_left (labels m t) (labels m u) a b e (apart_two m t s) in
    let d = undo_two m a b t h k w.0 c.1 x.0 (λ n p q i. o n p q (inl i)) q.0 s in
    (cho d.0 u, choice₁ (side m t u h c.0 q.0) d.1)
undo_two m a b (cho t u) h k w c x o e (inr s) =
    let q = two_right (labels m t) (labels m u) a b e (apart_two m u s) in
    let d = undo_two m a b u h k w.1 c.2 x.1 (λ n p q i. o n p q (inr i)) q.1 s in
    (cho t d.0, choice₂ (side m u t h (⊎_elim inr inl c.0) q.1) d.1)
undo_two m a b (par t u) h k w c x o e (inl s) =
    let q = two_each (labels m t) (labels m u) a b e s.0 in
    let d = undo_one m a t h w.0 c.0 x.0 (λ n p q i. o n p q (inl i)) q.0 in
    let f = undo_one m b u h w.1 c.1 x.1 (λ n p q i. o n p q (inr i)) q.1 in
    (par d.0 f.0, synch k d.1 f.1)
undo_two m a b (par t u) h k w c x o e (inr (inl s)) =
    let q = two_left (labels m t) (labels m u) a b e (apart_two m t s) in
    let d = undo_two m a b t h k w.0 c.0 x.0 (λ n p q i. o n p q (inl i)) q.0 s in
    (par d.0 u, par₁ (labels_fresh m u q.1) d.1)
undo_two m a b (par t u) h k w c x o e (inr (inr s)) =
    let q = two_right (labels m t) (labels m u) a b e (apart_two m u s) in
    let d = undo_two m a b u h k w.1 c.1 x.1 (λ n p q i. o n p q (inr i)) q.1 s in
    (par t d.0, par₂ (labels_fresh m t q.0) d.1)
undo_two m a b (res r t) h k w c x o e s = let d = undo_two m a b t h k w c x.1 o e s in (res r d.0, restrict tau_open d.1)
