-- How the entries of a term belong to its labels, and in which range their numbers lie.
use mathlib.Core.Path.{◌≡◌, refl, ap, ◌∙◌}
use mathlib.Core.Logic.{◌≢◌}
use mathlib.Core.List.{List, [], ◌∷◌, ◌++◌}
use mathlib.Core.Bool.{Bool, true, false}
use Prim.Native.Nat.{ℕ, zero, suc, ◌+◌, ◌≤◌, ◌<◌}
use native.Mathlib.Omega.{arith}
use borrow.Author.Tests.{eq-eqb, ne_eqb}
use lib.Dec.{eqb}
use lib.ListN.{length}
use Rattle.ccsk.specs.Term.{Term, nil, pre, cho, par, res, tick, labels, size}
use Rattle.sound.specs.Sound.{count}
use Rattle.causes.specs.Entry.{Entry, Scopes, under, marked, entries, keep, only}

-- only
pub only-append : (m : ℕ) (x y : List Entry) → only m (x ++ y) ≡ only m x ++ only m y
unfolding only
only-append m [] y = refl
only-append m (e ∷ x) y = rw (only-append m x y) (pull (eqb m e.key))
  where
    pull : (b : Bool) → keep b e (only m x ++ only m y) ≡ keep b e (only m x) ++ only m y
    pull true = refl
    pull false = refl

pub only_same : (m : ℕ) (e : Entry) (l : List Entry) → m ≡ e.key → only m (e ∷ l) ≡ e ∷ only m l
unfolding only
only_same m e l q = rw (eq-eqb m e.key q)

pub only_other : (m : ℕ) (e : Entry) (l : List Entry) → m ≢ e.key → only m (e ∷ l) ≡ only m l
unfolding only
only_other m e l q = rw (ne_eqb m e.key q)

-- the actions of entries, from the left
unfoldable pub actions : List Entry → List ℕ
actions [] = []
actions (e ∷ l) = e.action ∷ actions l

pub actions_length : (l : List Entry) → length (actions l) ≡ length l
unfolding actions
actions_length [] = refl
actions_length (e ∷ l) = ap suc (actions_length l)

actions_append : (x y : List Entry) → actions (x ++ y) ≡ actions x ++ actions y
unfolding actions
actions_append [] y = refl
actions_append (e ∷ x) y = ap (λ (z : List ℕ). e.action ∷ z) (actions_append x y)

actions_keep : (b : Bool) (e : Entry) (l : List Entry) → actions (keep b e l) ≡ tick b e.action (actions l)
unfolding actions
actions_keep true e l = refl
actions_keep false e l = refl

-- the labels that a key marks are the actions of its entries
pub labels_entries : (m n row u : ℕ) (s : Scopes) (t : Term) → 0 < m → labels m t ≡ actions (only m (entries n row u s t))
unfolding labels entries only actions
labels_entries m n row u s nil h = refl
labels_entries m n row u s (pre a zero t) h = rw (ne_eqb m 0 (λ e. omega arith)) (labels_entries m (suc n) row u s t h)
labels_entries m n row u s (pre a (suc k) t) h = rw (labels_entries m (suc n) (suc row) (suc k) s t h, actions_keep (eqb m (suc k)))
labels_entries m n row u s (cho t r) h = rw (only-append m (entries (suc n) row u s t) (entries (suc n + size t) (row + marked t) u s r), actions_append, labels_entries m (suc n) row u s t h, labels_entries m (suc n + size t) (row + marked t) u s r h)
labels_entries m n row u s (par t r) h = rw (only-append m (entries (suc n) row u s t) (entries (suc n + size t) (row + marked t) u s r), actions_append, labels_entries m (suc n) row u s t h, labels_entries m (suc n + size t) (row + marked t) u s r h)
labels_entries m n row u s (res a t) h = labels_entries m (suc n) row u (under a n s) t h

pub count_entries : (m n row u : ℕ) (s : Scopes) (t : Term) → 0 < m → count m t ≡ length (only m (entries n row u s t))
count_entries m n row u s t h = ap length (labels_entries m n row u s t h) ∙ actions_length (only m (entries n row u s t))

-- something that holds of every entry of a list
abbrev pub Every : (Entry → Type 0) → List Entry → Type 0
Every P [] = Unit {0}
Every P (e ∷ l) = P e × Every P l

pub every_append : (P : Entry → Type 0) (x y : List Entry) → Every P x → Every P y → Every P (x ++ y)
every_append P [] y p q = q
every_append P (e ∷ x) y p q = (p.0, every_append P x y p.1 q)

pub every_map : (P Q : Entry → Type 0) (l : List Entry) → ((e : Entry) → P e → Q e) → Every P l → Every Q l
every_map P Q [] f p = tt
every_map P Q (e ∷ l) f p = (f e p.0, every_map P Q l f p.1)

pub every_only : (P : Entry → Type 0) (m : ℕ) (l : List Entry) → Every P l → Every P (only m l)
unfolding only
every_only P m [] p = tt
every_only P m (e ∷ l) p = pick (eqb m e.key) (every_only P m l p.1)
  where
    pick : (b : Bool) → Every P (only m l) → Every P (keep b e (only m l))
    pick true q = (p.0, q)
    pick false q = q

-- in which rows an entry of a term stands that has the rows from i up to b
abbrev pub Within : ℕ → ℕ → Entry → Type 0
Within i b e = (i ≤ e.row) × (e.row < e.end) × (e.end ≤ b)

pub widen_rows : (i j b d : ℕ) (l : List Entry) → j ≤ i → b ≤ d → Every (Within i b) l → Every (Within j d) l
widen_rows i j b d l h k p = every_map (Within i b) (Within j d) l (λ e z. omega arith) p

sides : (n row u b : ℕ) (s : Scopes) (t r : Term) → row + (marked t + marked r) ≤ b → Every (Within row (row + marked t)) (entries (suc n) row u s t)
    → Every (Within (row + marked t) b) (entries (suc n + size t) (row + marked t) u s r) → Every (Within row b) (entries (suc n) row u s t ++ entries (suc n + size t) (row + marked t) u s r)
sides n row u b s t r h p q = every_append (Within row b) (entries (suc n) row u s t) (entries (suc n + size t) (row + marked t) u s r)
    (widen_rows row row (row + marked t) b (entries (suc n) row u s t) (omega arith) (omega arith) p)
    (widen_rows (row + marked t) row b b (entries (suc n + size t) (row + marked t) u s r) (omega arith) (omega arith) q)

pub within : (n row u b : ℕ) (s : Scopes) (t : Term) → row + marked t ≤ b → Every (Within row b) (entries n row u s t)
unfolding entries marked
within n row u b s nil h = tt
within n row u b s (pre a zero t) h = within (suc n) row u b s t h
within n row u b s (pre a (suc k) t) h = (omega arith, widen_rows (suc row) row b b (entries (suc n) (suc row) (suc k) s t) (omega arith) (omega arith) (within (suc n) (suc row) (suc k) b s t (omega arith)))
within n row u b s (cho t r) h = sides n row u b s t r h (within (suc n) row u (row + marked t) s t (omega arith)) (within (suc n + size t) (row + marked t) u b s r (omega arith))
within n row u b s (par t r) h = sides n row u b s t r h (within (suc n) row u (row + marked t) s t (omega arith)) (within (suc n + size t) (row + marked t) u b s r (omega arith))
within n row u b s (res a t) h = within (suc n) row u b (under a n s) t h
