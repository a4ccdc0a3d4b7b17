-- At each node, what the places of one key tell of the move, from what they tell in its children; and so in every term.
use mathlib.Core.Path.{◌≡◌, refl, ◌∙◌}
use mathlib.Core.Logic.{inl, inr, ⊎_elim}
use mathlib.Core.List.{List, [], ◌∷◌, ◌++◌, append-nil}
use mathlib.Core.Bool.{Bool, true, false, not}
use Prim.Native.Nat.{ℕ, ◌+◌, ◌<◌, ◌≤◌}
use native.Mathlib.Decide.{ℕ_discrete}
use native.Mathlib.Omega.{arith}
use lib.Dec.{eqb}
use lib.ListN.{length, length-append, length-set}
use lib.Seq.{get_or-set_same, get_or-set_other}
use Rattle.ccsk.specs.Term.{Term, Key, Node, Label, Name, nil, pre, cho, par, res, Channel, Std, On, size, labels, tick}
use Rattle.ccsk.proofs.Basic.{tau_open, std_labels}
use Rattle.ccsk.specs.Decide.{on?}
use Rattle.format.specs.Encode.{InRange}
use Rattle.moves.specs.Choose.{undo_choice}
use Rattle.moves.specs.Move.{Move, still, step, stuck, holds, pass, hidden_if, move_over_prefix, move_over_choice, move_over_restriction, move}
use Rattle.moves.proofs.Holds.{Says, equal_says, Holding, holding}
use Rattle.lasts.specs.declared.Last.{Last}
use Rattle.lasts.specs.Last.{Scopes, slot, scope_of, enclosed, last_over_prefix, last_over_choice, lasts, keep, only}
use Rattle.lasts.proofs.Told.{Action, Dead, Dead.lost, Dead.many, Dead.hidden, Dead.clash, Told, Told.none, Told.lone, Told.pair, Told.dead, Above, wider, wider_dead, nowhere, told_parallel}

pub only-append : (m : Key) (x y : List Last) → only m (x ++ y) ≡ only m x ++ only m y
unfolding only
only-append m [] y = refl
only-append m (e ∷ x) y = rw (only-append m x y) (pull (eqb m e.key))
  where
    pull : (b : Bool) → keep b e (only m x ++ only m y) ≡ keep b e (only m x) ++ only m y
    pull true = refl
    pull false = refl

-- below other scopes and other nodes
pub later : {n k : ℕ} {s : Scopes} → n ≤ k → Above n s → Above k s
later h v = record { whole = v.whole; past = λ l. omega (arith, v.past l) }

low_slot : (l : Label) → slot l < 128
low_slot l = omega arith

pub within : (n : ℕ) (s : Scopes) (a : Name) → Above n s → Above (n + 1) (enclosed a n s)
within n s a v = record { whole = simp length-set v.whole; past = λ l. pick l (ℕ_discrete (slot l) (slot a)) }
  where
    pick : (l : Label) → Dec (slot l ≡ slot a) → scope_of (enclosed a n s) l ≤ n + 1
    pick l (yes e) = rw (e, get_or-set_same s (slot a) (n + 1) 0 (omega (arith, v.whole, low_slot a))) (omega arith)
    pick l (no e) = rw (get_or-set_other s (slot a) (slot l) (n + 1) 0 e) (omega (arith, v.past l))

-- a restriction is the scope of the actions that it stops, and of no other
stopped : (n : ℕ) (s : Scopes) (a : Name) (l : Label) → Above n s → On a l → scope_of (enclosed a n s) l ≡ n + 1
stopped n s a l v o = let e : slot l ≡ slot a = ⊎_elim (λ h. omega arith) (λ h. omega arith) o.1 in
    rw (e, get_or-set_same s (slot a) (n + 1) 0 (omega (arith, v.whole, low_slot a)))

passed : (n : ℕ) (s : Scopes) (a : Name) (l : Label) → Channel a → Action l → ¬ On a l → scope_of (enclosed a n s) l ≡ scope_of s l
passed n s a l c i o = get_or-set_other s (slot a) (slot l) (n + 1) 0 (λ e. differ e (ℕ_discrete l a) (ℕ_discrete l (a + 128)))
  where
    differ : slot l ≡ slot a → Dec (l ≡ a) → Dec (l ≡ a + 128) → ⊥
    differ e (yes h) d = o (c, inl h)
    differ e (no h) (yes g) = o (c, inr g)
    differ e (no h) (no g) = i.1 (omega arith)

-- a key that cannot step stands somewhere
dead_some : {n b : ℕ} {x : List Last} {c : List Label} → Dead n b x c → 0 < length c
dead_some (lost h) = omega arith
dead_some (many h) = omega arith
dead_some (hidden h i) = omega arith
dead_some (clash f) = omega arith

-- none of the places is last
gone : {s : Scopes} {n b : ℕ} (c : List Label) → 0 < length c → Told s n b [] c stuck
gone c h = dead (lost h)

module _ (s : Scopes) (n b : ℕ) where
  -- a prefix that is not done
  told_undone : (x : List Last) (c : List Label) (m : Move) → Told s n b x c m → Told s n b [] c (pass false m)
  told_undone _ _ _ none = none
  told_undone _ c _ (lone a e q) = gone c (omega arith)
  told_undone _ c _ (pair o q) = gone c (omega arith)
  told_undone _ c _ (dead d) = gone c (dead_some d)

  -- a prefix that is done with another key
  told_done : (x : List Last) (c : List Label) (m : Move) → Told s n b x c m → Told s n b x c (pass true m)
  told_done _ _ _ none = none
  told_done _ _ _ (lone a e q) = lone a e q
  told_done _ _ _ (pair o q) = pair o q
  told_done _ _ _ (dead d) = dead d

  told_prefix : (m a k : ℕ) (t : Term) (x : List Last) (c : List Label) (w : Move) (z h q : Bool) → 0 < m → Action a → eqb m k ≡ q → Says q (m ≡ k) → Says z (k ≡ 0) → Holding h t
      → (Std t → c ≡ []) → length (only m x) ≤ length c → Told s n b (only m x) c w
      → Told s n b (only m (last_over_prefix z h (record { key = k; action = a; scope = scope_of s a }) x)) (tick q a c) (move_over_prefix q true (not z) h a w)
  unfolding only
  told_prefix m a k t x c w true h true p i e r f g j l y = absurd (omega arith)
  told_prefix m a k t x c w true h false p i e r f g j l y = told_undone (only m x) c w y
  told_prefix m a k t x c w false true true p i e r f g j l y = let o : length (only m x) < length (a ∷ c) = omega arith in dead (lost o)
  told_prefix m a k t x c w false true false p i e r f g j l y = told_done (only m x) c w y
  told_prefix m a k t x c w false false true p i e r f g j l y = rw (e, j g) (own (nowhere (rw (j g) at y)).1)
    where
      own : w ≡ still → Told s n b (record { key = k; action = a; scope = scope_of s a } ∷ []) (a ∷ []) (move_over_prefix true true true false a w)
      own u = rw u (lone i refl refl)
  told_prefix m a k t x c w false false false p i e r f g j l y = rw (e, j g) (other (nowhere (rw (j g) at y)).1)
    where
      other : w ≡ still → Told s n b [] [] (pass true w)
      other u = rw u none

  -- a choice with keys on both sides
  step_stuck : (l : Label) (w : Move) → move_over_choice true true (step l) w ≡ stuck
  step_stuck l still = refl
  step_stuck l (step k) = refl
  step_stuck l stuck = refl

  told_blocked : (x y : List Last) (c d : List Label) (m w : Move) → Told s n b x c m → Told s n b y d w → Told s n b [] (c ++ d) (move_over_choice true true m w)
  told_blocked _ _ _ _ _ _ none none = none
  told_blocked _ _ _ d _ _ none (lone a e q) = gone d (omega arith)
  told_blocked _ _ _ d _ _ none (pair o q) = gone d (omega arith)
  told_blocked _ _ _ d _ _ none (dead v) = gone d (dead_some v)
  told_blocked _ _ _ d _ w (lone {k = k} {l = l} a e q) t = rw (step_stuck l w) (gone (k ∷ d) (omega arith))
  told_blocked _ _ _ d _ w (pair {k = k} {l = l} o q) t = rw (step_stuck 0 w) (gone (k ∷ (l ∷ d)) (omega arith))
  told_blocked _ _ c d _ _ (dead v) t = let h : 0 < length (c ++ d) = rw (length-append c d) (omega (arith, dead_some v)) in gone (c ++ d) h

  -- a choice with no key on one side
  choice_left : (f : Bool) (m : Move) → move_over_choice f false m still ≡ m
  choice_left f still = refl
  choice_left f (step l) = refl
  choice_left f stuck = refl

  choice_right : (f : Bool) (w : Move) → move_over_choice false f still w ≡ w
  choice_right f still = refl
  choice_right f (step l) = refl
  choice_right f stuck = refl

  told_choice : (m : ℕ) (t u : Term) (x y : List Last) (c d : List Label) (v w : Move) (f g : Bool) → Holding f t → Holding g u → (Std t → c ≡ []) → (Std u → d ≡ [])
      → Told s n b (only m x) c v → Told s n b (only m y) d w → Told s n b (only m (last_over_choice f g x y)) (c ++ d) (move_over_choice f g v w)
  unfolding only
  told_choice m t u x y c d v w true true p q i j k l = told_blocked (only m x) (only m y) c d v w k l
  told_choice m t u x y c d v w true false p q i j k l = let e = nowhere (rw (j q) at l) in
      rw (only-append m x y, e.0, e.1, j q, append-nil (only m x), append-nil c, choice_left true v) k
  told_choice m t u x y c d v w false g p q i j k l = let e = nowhere (rw (i p) at k) in
      rw (only-append m x y, e.0, e.1, i p, choice_right g w) l

-- a restriction
told_hidden : (s : Scopes) (n b : ℕ) (a : Name) (e : Last) (k l : Label) (o : Dec (On a l)) → Above n s → Channel a → n + 1 ≤ b → Action l → e.action ≡ l → e.scope ≡ scope_of (enclosed a n s) l
    → Told s n b (e ∷ []) (k ∷ []) (hidden_if o l)
told_hidden s n b a e k l (yes o) v c h i p q = let z = q ∙ stopped n s a l v o in dead (hidden {e = e} (omega arith) (omega arith))
told_hidden s n b a e k l (no o) v c h i p q = lone i p (q ∙ passed n s a l c i o)

told_free : (s : Scopes) (n b : ℕ) (a : Name) (e f : Last) (k l : Label) (o : Dec (On a 0)) → Told s n b (e ∷ (f ∷ [])) (k ∷ (l ∷ [])) (step 0) → Told s n b (e ∷ (f ∷ [])) (k ∷ (l ∷ [])) (hidden_if o 0)
told_free s n b a e f k l (yes o) t = absurd (tau_open o)
told_free s n b a e f k l (no o) t = t

told_restriction : (s : Scopes) (n b : ℕ) (a : Name) (x : List Last) (c : List Label) (m : Move) → Above n s → Channel a → n + 1 ≤ b → Told (enclosed a n s) (n + 1) b x c m → Told s n b x c (move_over_restriction a m)
told_restriction s n b a _ _ _ v r h none = none
told_restriction s n b a _ _ _ v r h (lone {e = e} {k = k} {l = l} i p q) = told_hidden s n b a e k l (on? a l) v r h i p q
told_restriction s n b a _ _ _ v r h (pair {e = e} {f = f} {k = k} {l = l} o q) = told_free s n b a e f k l (on? a 0) (pair o q)
told_restriction s n b a _ _ _ v r h (dead d) = dead (wider_dead (omega arith) (omega arith) d)

-- no more places are last than hold the key
few_prefix : (m a k : ℕ) (e : Last) (x : List Last) (c : List Label) (z h q : Bool) → eqb m k ≡ q → e.key ≡ k → length (only m x) ≤ length c → length (only m (last_over_prefix z h e x)) ≤ length (tick q a c)
unfolding only
few_prefix m a k e x c true h q p i l = omega arith
few_prefix m a k e x c false true true p i l = omega arith
few_prefix m a k e x c false true false p i l = l
few_prefix m a k e x c false false true p i l = rw (i, p) (omega arith)
few_prefix m a k e x c false false false p i l = rw (i, p) (omega arith)

few_choice : (m : ℕ) (x y : List Last) (c d : List Label) (f g : Bool) → length (only m x) ≤ length c → length (only m y) ≤ length d → length (only m (last_over_choice f g x y)) ≤ length (c ++ d)
unfolding only
few_choice m x y c d true true h i = omega arith
few_choice m x y c d true false h i = rw (only-append m x y, length-append (only m x) (only m y), length-append c d) (omega arith)
few_choice m x y c d false g h i = rw (only-append m x y, length-append (only m x) (only m y), length-append c d) (omega arith)

pub few : (m : Key) (n : Node) (s : Scopes) (t : Term) → length (only m (lasts n s t)) ≤ length (labels m t)
unfolding lasts labels only
few m n s nil = omega arith
few m n s (pre a k t) = few_prefix m a k (record { key = k; action = a; scope = scope_of s a }) (lasts (n + 1) s t) (labels m t) (eqb k 0) (holds t) (eqb m k) refl refl (few m (n + 1) s t)
few m n s (cho t u) = few_choice m (lasts (n + 1) s t) (lasts (n + 1 + size t) s u) (labels m t) (labels m u) (holds t) (holds u) (few m (n + 1) s t) (few m (n + 1 + size t) s u)
few m n s (par t u) = few_choice m (lasts (n + 1) s t) (lasts (n + 1 + size t) s u) (labels m t) (labels m u) false false (few m (n + 1) s t) (few m (n + 1 + size t) s u)
few m n s (res a t) = few m (n + 1) (enclosed a n s) t

-- the places of a key tell the move of every term
pub told : (m : Key) → 0 < m → (n b : ℕ) (s : Scopes) (t : Term) → Above n s → n + size t ≤ b → InRange t → Told s n b (only m (lasts n s t)) (labels m t) (move (undo_choice m) (λ k. true) n t)
unfolding lasts labels move only size
told m h n b s nil v l r = none
told m h n b s (pre a k t) v l r = told_prefix s n b m a k t (lasts (n + 1) s t) (labels m t) (move (undo_choice m) (λ k. true) (n + 1) t) (eqb k 0) (holds t) (eqb m k) h (r.0, r.1) refl (equal_says m k) (equal_says k 0) (holding t)
    (λ z. std_labels m t z h) (few m (n + 1) s t) (wider (omega arith) (omega arith) (told m h (n + 1) b s t (later (omega arith) v) (omega arith) r.3))
told m h n b s (cho t u) v l r = told_choice s n b m t u (lasts (n + 1) s t) (lasts (n + 1 + size t) s u) (labels m t) (labels m u) (move (undo_choice m) (λ k. true) (n + 1) t) (move (undo_choice m) (λ k. true) (n + 1 + size t) u)
    (holds t) (holds u) (holding t) (holding u) (λ z. std_labels m t z h) (λ z. std_labels m u z h)
    (wider (omega arith) (omega arith) (told m h (n + 1) b s t (later (omega arith) v) (omega arith) r.0))
    (wider (omega arith) (omega arith) (told m h (n + 1 + size t) b s u (later (omega arith) v) (omega arith) r.1))
told m h n b s (par t u) v l r = rw (only-append m (lasts (n + 1) s t) (lasts (n + 1 + size t) s u)) (told_parallel s n (n + 1 + size t) b v (omega arith) (omega arith)
    (only m (lasts (n + 1) s t)) (only m (lasts (n + 1 + size t) s u)) (labels m t) (labels m u) (move (undo_choice m) (λ k. true) (n + 1) t) (move (undo_choice m) (λ k. true) (n + 1 + size t) u)
    (few m (n + 1) s t) (few m (n + 1 + size t) s u)
    (wider (omega arith) (omega arith) (told m h (n + 1) (n + 1 + size t) s t (later (omega arith) v) (omega arith) r.0))
    (told m h (n + 1 + size t) b s u (later (omega arith) v) (omega arith) r.1))
told m h n b s (res a t) v l r = told_restriction s n b a (only m (lasts (n + 1) (enclosed a n s) t)) (labels m t) (move (undo_choice m) (λ k. true) (n + 1) t) v r.0 (omega arith)
    (told m h (n + 1) b (enclosed a n s) t (within n s a v) (omega arith) r.1)
