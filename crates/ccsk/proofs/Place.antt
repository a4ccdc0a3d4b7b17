-- A forward step writes its key at its places and nowhere else; places and key determine it.
use mathlib.Core.Path.{◌≡◌, refl, ap, ◌∙◌}
use mathlib.Core.Logic.{inl, inr}
use mathlib.Core.List.{List, [], ◌∷◌, ◌++◌}
use mathlib.Core.Bool.{Bool, true, false, cond}
use Prim.Native.Nat.{ℕ, zero, suc, ◌+◌, ◌-◌, ◌<◌, ◌≤◌}
use native.Mathlib.Omega.{arith}
use borrow.Author.Tests.{lt-ltb, le-ltb}
use lib.Dec.{ltb}
use Rattle.ccsk.specs.Term.{Term, Label, Node, nil, pre, cho, par, res, Co, size}
use Rattle.ccsk.specs.Step.{Forward, Forward.top, Forward.prefix, Forward.choice₁, Forward.choice₂, Forward.par₁, Forward.par₂, Forward.synch, Forward.restrict}
use Rattle.ccsk.specs.Place.{shift, places, mark, marks}

-- the action of node p; 0 where it is no prefix
unfoldable pub action_at : Node → Term → Label
action_at p nil = 0
action_at zero (pre a k t) = a
action_at (suc p) (pre a k t) = action_at p t
action_at zero (cho t u) = 0
action_at (suc p) (cho t u) = cond (ltb p (size t)) (action_at p t) (action_at (p - size t) u)
action_at zero (par t u) = 0
action_at (suc p) (par t u) = cond (ltb p (size t)) (action_at p t) (action_at (p - size t) u)
action_at zero (res a t) = 0
action_at (suc p) (res a t) = action_at p t

-- all numbers of the list are below n
abbrev pub Under : ℕ → List ℕ → Type 0
Under n [] = Unit {0}
Under n (p ∷ l) = (p < n) × Under n l

pub under_shift : (k n b : ℕ) (l : List ℕ) → k + n ≤ b → Under n l → Under b (shift k l)
unfolding shift
under_shift k n b [] h u = tt
under_shift k n b (p ∷ l) h u = (omega arith, under_shift k n b l h u.1)

pub under_append : (n : ℕ) (x y : List ℕ) → Under n x → Under n y → Under n (x ++ y)
under_append n [] y u v = v
under_append n (p ∷ x) y u v = (u.0, under_append n x y u.1 v)

pub places_under : {t u : Term} {m l : ℕ} (d : Forward t m l u) → Under (size t) (places d)
unfolding places size
places_under (top h s) = (omega arith, tt)
places_under (prefix {t = t} h n d) = under_shift 1 (size t) (suc (size t)) (places d) (omega arith) (places_under d)
places_under (choice₁ {t = t} {u = u} s d) = under_shift 1 (size t) (suc (size t + size u)) (places d) (omega arith) (places_under d)
places_under (choice₂ {t = t} {u = u} s d) = under_shift (1 + size t) (size u) (suc (size t + size u)) (places d) (omega arith) (places_under d)
places_under (par₁ {t = t} {u = u} f d) = under_shift 1 (size t) (suc (size t + size u)) (places d) (omega arith) (places_under d)
places_under (par₂ {t = t} {u = u} f d) = under_shift (1 + size t) (size u) (suc (size t + size u)) (places d) (omega arith) (places_under d)
places_under (synch {t = t} {u = u} c d e) = under_append (suc (size t + size u)) (shift 1 (places d)) (shift (1 + size t) (places e))
    (under_shift 1 (size t) (suc (size t + size u)) (places d) (omega arith) (places_under d))
    (under_shift (1 + size t) (size u) (suc (size t + size u)) (places e) (omega arith) (places_under e))
places_under (restrict {t = t} f d) = under_shift 1 (size t) (suc (size t)) (places d) (omega arith) (places_under d)

one_up : (p : ℕ) → 1 + p ≡ suc p
one_up p = omega arith

up : (n p : ℕ) → (1 + n) + p ≡ suc (n + p)
up n p = omega arith

back : (n p : ℕ) → (n + p) - n ≡ p
back n p = omega arith

size-mark : (m p : ℕ) (t : Term) → size (mark m p t) ≡ size t
unfolding mark size
size-mark m p nil = refl
size-mark m zero (pre a k t) = refl
size-mark m (suc p) (pre a k t) = ap suc (size-mark m p t)
size-mark m zero (cho t u) = refl
size-mark m (suc p) (cho t u) = pick (ltb p (size t)) (size-mark m p t) (size-mark m (p - size t) u)
  where
    pick : (b : Bool) → size (mark m p t) ≡ size t → size (mark m (p - size t) u) ≡ size u → size (cond b (cho (mark m p t) u) (cho t (mark m (p - size t) u))) ≡ suc (size t + size u)
    pick true x y = rw x
    pick false x y = rw y
size-mark m zero (par t u) = refl
size-mark m (suc p) (par t u) = pick (ltb p (size t)) (size-mark m p t) (size-mark m (p - size t) u)
  where
    pick : (b : Bool) → size (mark m p t) ≡ size t → size (mark m (p - size t) u) ≡ size u → size (cond b (par (mark m p t) u) (par t (mark m (p - size t) u))) ≡ suc (size t + size u)
    pick true x y = rw x
    pick false x y = rw y
size-mark m zero (res a t) = refl
size-mark m (suc p) (res a t) = ap suc (size-mark m p t)

marks-append : (m : ℕ) (x y : List ℕ) (t : Term) → marks m (x ++ y) t ≡ marks m y (marks m x t)
unfolding marks
marks-append m [] y t = refl
marks-append m (p ∷ x) y t = marks-append m x y (mark m p t)

size-marks : (m : ℕ) (l : List ℕ) (t : Term) → size (marks m l t) ≡ size t
unfolding marks
size-marks m [] t = refl
size-marks m (p ∷ l) t = size-marks m l (mark m p t) ∙ size-mark m p t

marks-pre : (m : ℕ) (l : List ℕ) (a k : ℕ) (t : Term) → marks m (shift 1 l) (pre a k t) ≡ pre a k (marks m l t)
unfolding marks shift mark
marks-pre m [] a k t = refl
marks-pre m (p ∷ l) a k t = rw (one_up p) (marks-pre m l a k (mark m p t))

marks-res : (m : ℕ) (l : List ℕ) (a : ℕ) (t : Term) → marks m (shift 1 l) (res a t) ≡ res a (marks m l t)
unfolding marks shift mark
marks-res m [] a t = refl
marks-res m (p ∷ l) a t = rw (one_up p) (marks-res m l a (mark m p t))

marks_cho₁ : (m : ℕ) (l : List ℕ) (t u : Term) → Under (size t) l → marks m (shift 1 l) (cho t u) ≡ cho (marks m l t) u
unfolding marks shift mark
marks_cho₁ m [] t u h = refl
marks_cho₁ m (p ∷ l) t u h = rw (one_up p, lt-ltb p (size t) h.0) (marks_cho₁ m l (mark m p t) u (rw (size-mark m p t) h.1))

marks_par₁ : (m : ℕ) (l : List ℕ) (t u : Term) → Under (size t) l → marks m (shift 1 l) (par t u) ≡ par (marks m l t) u
unfolding marks shift mark
marks_par₁ m [] t u h = refl
marks_par₁ m (p ∷ l) t u h = rw (one_up p, lt-ltb p (size t) h.0) (marks_par₁ m l (mark m p t) u (rw (size-mark m p t) h.1))

marks_cho₂ : (m : ℕ) (l : List ℕ) (t u : Term) → marks m (shift (1 + size t) l) (cho t u) ≡ cho t (marks m l u)
unfolding marks shift mark
marks_cho₂ m [] t u = refl
marks_cho₂ m (p ∷ l) t u = rw (up (size t) p, le-ltb (size t + p) (size t) (omega arith), back (size t) p) (marks_cho₂ m l t (mark m p u))

marks_par₂ : (m : ℕ) (l : List ℕ) (t u : Term) → marks m (shift (1 + size t) l) (par t u) ≡ par t (marks m l u)
unfolding marks shift mark
marks_par₂ m [] t u = refl
marks_par₂ m (p ∷ l) t u = rw (up (size t) p, le-ltb (size t + p) (size t) (omega arith), back (size t) p) (marks_par₂ m l t (mark m p u))

two : (m : ℕ) (t t' u u' : Term) (x y : List ℕ) → Under (size t) x → marks m x t ≡ t' → marks m y u ≡ u' → marks m (shift 1 x ++ shift (1 + size t) y) (par t u) ≡ par t' u'
two m t t' u u' x y h e f = rw (marks-append m (shift 1 x) (shift (1 + size t) y) (par t u), marks_par₁ m x t u h, ← size-marks m x t, marks_par₂ m y (marks m x t) u, e, f)

-- the step's result is the term with the key at the places
pub step_marks : {t u : Term} {m l : ℕ} (d : Forward t m l u) → marks m (places d) t ≡ u
unfolding places
step_marks (top h s) = unfold marks mark in refl
step_marks (prefix {a = a} {n = n} {m = m} {t = t} h f d) = rw (marks-pre m (places d) a n t, step_marks d)
step_marks (choice₁ {m = m} {t = t} {u = u} s d) = rw (marks_cho₁ m (places d) t u (places_under d), step_marks d)
step_marks (choice₂ {m = m} {t = t} {u = u} s d) = rw (marks_cho₂ m (places d) t u, step_marks d)
step_marks (par₁ {m = m} {t = t} {u = u} f d) = rw (marks_par₁ m (places d) t u (places_under d), step_marks d)
step_marks (par₂ {m = m} {t = t} {u = u} f d) = rw (marks_par₂ m (places d) t u, step_marks d)
step_marks (synch {m = m} {t = t} {t' = t'} {u = u} {u' = u'} c d e) = two m t t' u u' (places d) (places e) (places_under d) (step_marks d) (step_marks e)
step_marks (restrict {a = a} {m = m} {t = t} f d) = rw (marks-res m (places d) a t, step_marks d)

-- the label: of one place its action, of two complementary places tau
pub data Placed (t : Term) (l : ℕ) : List ℕ → Type 0 where
  alone : (p : ℕ) → action_at p t ≡ l → Placed t l (p ∷ [])
  joined : (p q : ℕ) → p < q → l ≡ 0 → Co (action_at p t) (action_at q t) → Placed t l (p ∷ (q ∷ []))

lift : {t : Term} {l : ℕ} {x : List ℕ} (k : ℕ) (u : Term) → ((p : ℕ) → p < size t → action_at (k + p) u ≡ action_at p t) → Placed t l x → Under (size t) x → Placed u l (shift k x)
unfolding shift
lift k u f (alone p e) h = alone (k + p) (f p h.0 ∙ e)
lift k u f (joined p q o z c) h = joined (k + p) (k + q) (omega arith) z (rw (f p h.0, f q h.1.0) c)

act_pre : (a k p : ℕ) (t : Term) → action_at (1 + p) (pre a k t) ≡ action_at p t
unfolding action_at
act_pre a k p t = rw (one_up p)

act_res : (a p : ℕ) (t : Term) → action_at (1 + p) (res a t) ≡ action_at p t
unfolding action_at
act_res a p t = rw (one_up p)

act_cho₁ : (p : ℕ) (t u : Term) → p < size t → action_at (1 + p) (cho t u) ≡ action_at p t
unfolding action_at
act_cho₁ p t u h = rw (one_up p, lt-ltb p (size t) h)

act_par₁ : (p : ℕ) (t u : Term) → p < size t → action_at (1 + p) (par t u) ≡ action_at p t
unfolding action_at
act_par₁ p t u h = rw (one_up p, lt-ltb p (size t) h)

act_cho₂ : (p : ℕ) (t u : Term) → action_at ((1 + size t) + p) (cho t u) ≡ action_at p u
unfolding action_at
act_cho₂ p t u = rw (up (size t) p, le-ltb (size t + p) (size t) (omega arith), back (size t) p)

act_par₂ : (p : ℕ) (t u : Term) → action_at ((1 + size t) + p) (par t u) ≡ action_at p u
unfolding action_at
act_par₂ p t u = rw (up (size t) p, le-ltb (size t + p) (size t) (omega arith), back (size t) p)

pub co_pos : {a b : ℕ} → Co a b → (0 < a) × (0 < b)
co_pos (inl c) = omega arith
co_pos (inr c) = omega arith

join : {t u : Term} {l k : ℕ} {x y : List ℕ} → Co l k → Placed t l x → Placed u k y → Under (size t) x → Placed (par t u) 0 (shift 1 x ++ shift (1 + size t) y)
unfolding shift
join {t} {u} c (alone p e) (alone q f) h = joined (1 + p) ((1 + size t) + q) (omega arith) refl (rw (act_par₁ p t u h.0, act_par₂ q t u, e, f) c)
join c (joined p q o z s) f h = absurd (omega (arith, co_pos c))
join c (alone p e) (joined p' q o z s) h = absurd (omega (arith, co_pos c))

pub step_placed : {t u : Term} {m l : ℕ} (d : Forward t m l u) → Placed t l (places d)
unfolding places
step_placed (top h s) = alone 0 (unfold action_at in refl)
step_placed (prefix {a = a} {n = n} {t = t} h f d) = lift 1 (pre a n t) (λ p i. act_pre a n p t) (step_placed d) (places_under d)
step_placed (choice₁ {t = t} {u = u} s d) = lift 1 (cho t u) (λ p i. act_cho₁ p t u i) (step_placed d) (places_under d)
step_placed (choice₂ {t = t} {u = u} s d) = lift (1 + size t) (cho t u) (λ p i. act_cho₂ p t u) (step_placed d) (places_under d)
step_placed (par₁ {t = t} {u = u} f d) = lift 1 (par t u) (λ p i. act_par₁ p t u i) (step_placed d) (places_under d)
step_placed (par₂ {t = t} {u = u} f d) = lift (1 + size t) (par t u) (λ p i. act_par₂ p t u) (step_placed d) (places_under d)
step_placed (synch c d e) = join c (step_placed d) (step_placed e) (places_under d)
step_placed (restrict {a = a} {t = t} f d) = lift 1 (res a t) (λ p i. act_res a p t) (step_placed d) (places_under d)

label_once : {t : Term} {l k : ℕ} {x : List ℕ} → Placed t l x → Placed t k x → l ≡ k
label_once (alone p e) (alone q f) = cc
label_once (joined p q o z c) (joined p' q' o' z' c') = cc

-- the places and the key determine label and result
pub step_once : {t u v : Term} {m l k : ℕ} (d : Forward t m l u) (e : Forward t m k v) → places d ≡ places e → (l ≡ k) × (u ≡ v)
step_once {m = m} d e q = (label_once (rw q at (step_placed d)) (step_placed e), cc (step_marks d, step_marks e))
