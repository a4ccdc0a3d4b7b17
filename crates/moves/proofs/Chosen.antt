-- Which prefixes are chosen: for a forward step exactly its places, for an undo exactly those that hold the key.
use mathlib.Core.Path.{◌≡◌, refl, ap, sym, ◌∙◌}
use mathlib.Core.Logic.{◌⊎◌, inl, inr, ⊎_elim, ◌↔◌}
use mathlib.Core.List.{List, [], ◌∷◌, ◌++◌, append-nil, append_assoc}
use mathlib.Core.Bool.{Bool, true, false, ◌||◌}
use Prim.Native.Nat.{ℕ, zero, suc, ◌+◌, ◌-◌, ◌<◌, ◌≤◌}
use native.Mathlib.Decide.{ℕ_discrete, dec_lt}
use native.Mathlib.Omega.{arith}
use borrow.Author.Tests.{eq-eqb, ne_eqb, lt-ltb, le-ltb}
use lib.Dec.{eqb}
use lib.ListN.{length, length-append}
use Rattle.ccsk.specs.Term.{Term, Label, Key, Node, nil, pre, cho, par, res, Fsh, size, tick, labels}
use Rattle.ccsk.specs.Step.{Undo}
use Rattle.ccsk.specs.Place.{shift, IsPrefix}
use Rattle.ccsk.proofs.Basic.{fresh_labels, labels_fresh}
use Rattle.ccsk.proofs.Clear.{clear, zeroed}
use Rattle.sound.proofs.Conditions.{Marked, lone, pair as joint, marked}
use Rattle.operations.specs.Order.{pair, ArePlaces}
use Rattle.moves.specs.Choose.{forward_choice, undo_choice, chosen}
use Rattle.moves.proofs.Written.{keyed, written, shift-length}

-- nothing is chosen of a term whose nodes fail the test
none : (c : Node → Key → Bool) (n : Node) (t : Term) → ((j : Node) (k : Key) → n ≤ j → j < n + size t → c j k ≡ false) → chosen c n t ≡ []
unfolding chosen size shift
none c n nil f = refl
none c n (pre a k t) f = rw (f n k (omega arith) (omega arith), none c (n + 1) t (λ j k h g. f j k (omega arith) (omega arith)))
none c n (cho t u) f = rw (none c (n + 1) t (λ j k h g. f j k (omega arith) (omega arith)), none c (n + 1 + size t) u (λ j k h g. f j k (omega arith) (omega arith)))
none c n (par t u) f = rw (none c (n + 1) t (λ j k h g. f j k (omega arith) (omega arith)), none c (n + 1 + size t) u (λ j k h g. f j k (omega arith) (omega arith)))
none c n (res a t) f = rw (none c (n + 1) t (λ j k h g. f j k (omega arith) (omega arith)))

-- one node asked for: before the term, or after it
pub none_before : (j n : Node) (t : Term) → j < n → chosen (forward_choice j 0) n t ≡ []
none_before j n t h = none (forward_choice j 0) n t (λ i k g g'. ne_eqb i j (λ e. omega arith))

pub none_after : (j n : Node) (t : Term) → n + size t ≤ j → chosen (forward_choice j 0) n t ≡ []
none_after j n t h = none (forward_choice j 0) n t (λ i k g g'. ne_eqb i j (λ e. omega arith))

-- node p of the term is a prefix and is all that is chosen; or it is none, and nothing is
abbrev pub Found : Term → Node → List Node → Type 0
Found t p x = (IsPrefix p t × (x ≡ p ∷ [])) ⊎ (¬ IsPrefix p t × (x ≡ []))

found_up : (t u : Term) (k p q : Node) (x : List Node) → k + p ≡ q → (IsPrefix q u ↔ IsPrefix p t) → Found t p x → Found u q (shift k x)
unfolding shift
found_up t u k p q x e f (inl r) = inl (f.1 r.0, rw (r.1, e))
found_up t u k p q x e f (inr r) = inr (λ i. r.0 (f.0 i), rw r.1)

found_two : (t u w : Term) (p : Node) (x y : List Node) → (p < size t → (IsPrefix (suc p) w ↔ IsPrefix p t) × Found t p x × (y ≡ []))
    → (size t ≤ p → (IsPrefix (suc p) w ↔ IsPrefix (p - size t) u) × Found u (p - size t) y × (x ≡ [])) → Found w (suc p) (shift 1 x ++ shift (1 + size t) y)
unfolding shift
found_two t u w p x y f g = pick (dec_lt p (size t))
  where
    pick : Dec (p < size t) → Found w (suc p) (shift 1 x ++ shift (1 + size t) y)
    pick (yes h) = let r = f h in rw (r.2, append-nil (shift 1 x)) (found_up t w 1 p (suc p) x (omega arith) r.0 r.1)
    pick (no h) = let i : size t ≤ p = omega arith in let r = g i in rw r.2 (found_up u w (1 + size t) (p - size t) (suc p) y (omega arith) r.0 r.1)

pub found : (p n j : Node) (t : Term) → j ≡ n + p → Found t p (chosen (forward_choice j 0) n t)
unfolding chosen size
found p n j nil e = inr (λ i. i, refl)
found zero n j (pre a k t) e = inl (tt, rw (eq-eqb n j (omega arith), none_before j (n + 1) t (omega arith)) (unfold shift in refl))
found (suc p) n j (pre a k t) e = rw (ne_eqb n j (λ z. omega arith)) (found_up t (pre a k t) 1 p (suc p) (chosen (forward_choice j 0) (n + 1) t) (omega arith) (λ i. i, λ i. i) (found p (n + 1) j t (omega arith)))
found zero n j (cho t u) e = inr (λ i. i, rw (none_before j (n + 1) t (omega arith), none_before j (n + 1 + size t) u (omega arith)) (unfold shift in refl))
found (suc p) n j (cho t u) e = found_two t u (cho t u) p (chosen (forward_choice j 0) (n + 1) t) (chosen (forward_choice j 0) (n + 1 + size t) u)
    (λ h. (rw (lt-ltb p (size t) h) (λ i. i, λ i. i), found p (n + 1) j t (omega arith), none_before j (n + 1 + size t) u (omega arith)))
    (λ h. (rw (le-ltb p (size t) h) (λ i. i, λ i. i), found (p - size t) (n + 1 + size t) j u (omega arith), none_after j (n + 1) t (omega arith)))
found zero n j (par t u) e = inr (λ i. i, rw (none_before j (n + 1) t (omega arith), none_before j (n + 1 + size t) u (omega arith)) (unfold shift in refl))
found (suc p) n j (par t u) e = found_two t u (par t u) p (chosen (forward_choice j 0) (n + 1) t) (chosen (forward_choice j 0) (n + 1 + size t) u)
    (λ h. (rw (lt-ltb p (size t) h) (λ i. i, λ i. i), found p (n + 1) j t (omega arith), none_before j (n + 1 + size t) u (omega arith)))
    (λ h. (rw (le-ltb p (size t) h) (λ i. i, λ i. i), found (p - size t) (n + 1 + size t) j u (omega arith), none_after j (n + 1) t (omega arith)))
found zero n j (res a t) e = inr (λ i. i, rw (none_before j (n + 1) t (omega arith)) (unfold shift in refl))
found (suc p) n j (res a t) e = found_up t (res a t) 1 p (suc p) (chosen (forward_choice j 0) (n + 1) t) (omega arith) (λ i. i, λ i. i) (found p (n + 1) j t (omega arith))

shift-append : (k : ℕ) (x y : List ℕ) → shift k (x ++ y) ≡ shift k x ++ shift k y
unfolding shift
shift-append k [] y = refl
shift-append k (p ∷ x) y = ap (λ (l : List ℕ). (k + p) ∷ l) (shift-append k x y)

-- of two lists for each of two sides, the first's second or the second's first is empty
in_turn : (k : ℕ) (x y x' y' : List ℕ) → ((x' ≡ []) ⊎ (y ≡ [])) → shift 1 (x ++ y) ++ shift k (x' ++ y') ≡ (shift 1 x ++ shift k x') ++ (shift 1 y ++ shift k y')
unfolding shift
in_turn k x y x' y' (inl e) = rw (e, shift-append 1 x y, append-nil (shift 1 x), append_assoc (shift 1 x) (shift 1 y) (shift k y'))
in_turn k x y x' y' (inr e) = rw (e, append-nil x, shift-append k x' y', append_assoc (shift 1 x) (shift k x') (shift k y'))

apart : (p q n : Node) (t u : Term) → p < suc q → (chosen (forward_choice p 0) (n + 1 + size t) u ≡ []) ⊎ (chosen (forward_choice (suc q) 0) (n + 1) t ≡ [])
apart p q n t u h = pick (dec_lt p (n + 1 + size t))
  where
    pick : Dec (p < n + 1 + size t) → (chosen (forward_choice p 0) (n + 1 + size t) u ≡ []) ⊎ (chosen (forward_choice (suc q) 0) (n + 1) t ≡ [])
    pick (yes g) = inl (none_before p (n + 1 + size t) u g)
    pick (no g) = inr (none_after (suc q) (n + 1) t (omega arith))

-- two nodes asked for: first the one, then the other
in_order : (p q n : Node) (t : Term) → p < suc q → chosen (forward_choice p (suc q)) n t ≡ chosen (forward_choice p 0) n t ++ chosen (forward_choice (suc q) 0) n t
unfolding chosen
in_order p q n nil h = refl
in_order p q n (pre a k t) h = rw (in_order p q (n + 1) t h) (pick (ℕ_discrete n p) (ℕ_discrete n (suc q)))
  where
    pick : Dec (n ≡ p) → Dec (n ≡ suc q) → tick ((eqb n p) || (eqb n (suc q))) 0 (shift 1 (chosen (forward_choice p 0) (n + 1) t ++ chosen (forward_choice (suc q) 0) (n + 1) t))
        ≡ tick (eqb n p) 0 (shift 1 (chosen (forward_choice p 0) (n + 1) t)) ++ tick (eqb n (suc q)) 0 (shift 1 (chosen (forward_choice (suc q) 0) (n + 1) t))
    pick (yes e) d = rw (eq-eqb n p e, ne_eqb n (suc q) (λ z. omega arith), shift-append 1 (chosen (forward_choice p 0) (n + 1) t) (chosen (forward_choice (suc q) 0) (n + 1) t))
    pick (no e) (yes d) = rw (ne_eqb n p e, eq-eqb n (suc q) d, none_before p (n + 1) t (omega arith)) (unfold shift in refl)
    pick (no e) (no d) = rw (ne_eqb n p e, ne_eqb n (suc q) d, shift-append 1 (chosen (forward_choice p 0) (n + 1) t) (chosen (forward_choice (suc q) 0) (n + 1) t))
in_order p q n (cho t u) h = rw (in_order p q (n + 1) t h, in_order p q (n + 1 + size t) u h)
    (in_turn (1 + size t) (chosen (forward_choice p 0) (n + 1) t) (chosen (forward_choice (suc q) 0) (n + 1) t) (chosen (forward_choice p 0) (n + 1 + size t) u) (chosen (forward_choice (suc q) 0) (n + 1 + size t) u) (apart p q n t u h))
in_order p q n (par t u) h = rw (in_order p q (n + 1) t h, in_order p q (n + 1 + size t) u h)
    (in_turn (1 + size t) (chosen (forward_choice p 0) (n + 1) t) (chosen (forward_choice (suc q) 0) (n + 1) t) (chosen (forward_choice p 0) (n + 1 + size t) u) (chosen (forward_choice (suc q) 0) (n + 1 + size t) u) (apart p q n t u h))
in_order p q n (res a t) h = rw (in_order p q (n + 1) t h) (shift-append 1 (chosen (forward_choice p 0) (n + 1) t) (chosen (forward_choice (suc q) 0) (n + 1) t))

only : (t : Term) (p : Node) → IsPrefix p t → chosen (forward_choice p 0) 0 t ≡ p ∷ []
only t p h = ⊎_elim (λ r. r.1) (λ r. absurd (r.0 h)) (found p 0 p t (omega arith))

-- the chosen nodes are the places that were asked for
pub chosen_places : (t : Term) (p q : Node) → ArePlaces t p q → chosen (forward_choice p q) 0 t ≡ pair p q
chosen_places t p zero h = only t p h
chosen_places t p (suc q) h = rw (in_order p q 0 t h.2, only t p h.0, only t (suc q) h.1)

-- as many chosen as were asked for: then they are places
pub places_chosen : (t : Term) (p q : Node) → ((q ≡ 0) ⊎ (p < q)) → length (chosen (forward_choice p q) 0 t) ≡ length (pair p q) → ArePlaces t p q
places_chosen t p zero o e = one (found p 0 p t (omega arith))
  where
    one : Found t p (chosen (forward_choice p 0) 0 t) → IsPrefix p t
    one (inl r) = r.0
    one (inr r) = absurd (omega (arith, ap length r.1))
places_chosen t p (suc q) o e = two (⊎_elim (λ z. absurd (omega arith)) (λ h. h) o) (found p 0 p t (omega arith)) (found (suc q) 0 (suc q) t (omega arith))
  where
    two : p < suc q → Found t p (chosen (forward_choice p 0) 0 t) → Found t (suc q) (chosen (forward_choice (suc q) 0) 0 t) → ArePlaces t p (suc q)
    two h (inl r) (inl r') = (r.0, r'.0, h)
    two h (inl r) (inr r') = absurd (omega (arith, rw (in_order p q 0 t h, r.1, r'.1) at e))
    two h (inr r) (inl r') = absurd (omega (arith, rw (in_order p q 0 t h, r.1, r'.1) at e))
    two h (inr r) (inr r') = absurd (omega (arith, rw (in_order p q 0 t h, r.1, r'.1) at e))

-- an undo chooses as many prefixes as hold the key
pub undo_count : (m : Key) (n : Node) (t : Term) → length (chosen (undo_choice m) n t) ≡ length (labels m t)
unfolding chosen labels
undo_count m n nil = refl
undo_count m n (pre a k t) = first (eqb m k) (undo_count m (n + 1) t)
  where
    first : (b : Bool) → length (chosen (undo_choice m) (n + 1) t) ≡ length (labels m t) → length (tick b 0 (shift 1 (chosen (undo_choice m) (n + 1) t))) ≡ length (tick b a (labels m t))
    first true e = rw shift-length (ap suc e)
    first false e = rw shift-length e
undo_count m n (cho t u) = simp (length-append, shift-length) (omega (arith, undo_count m (n + 1) t, undo_count m (n + 1 + size t) u))
undo_count m n (par t u) = simp (length-append, shift-length) (omega (arith, undo_count m (n + 1) t, undo_count m (n + 1 + size t) u))
undo_count m n (res a t) = rw shift-length (undo_count m (n + 1) t)

-- none exactly where the key stands nowhere
pub undo_none : (m : Key) (n : Node) (t : Term) → length (chosen (undo_choice m) n t) ≡ 0 ↔ Fsh m t
undo_none m n t = (λ e. labels_fresh m t (empty (labels m t) (sym (undo_count m n t) ∙ e)), λ f. undo_count m n t ∙ ap length (fresh_labels m t f))
  where
    empty : (x : List ℕ) → length x ≡ 0 → x ≡ []
    empty [] e = refl
    empty (a ∷ x) e = absurd (omega arith)

-- one or two where the rules derive the undo
pub undo_one_or_two : {t u : Term} {m : Key} {l : Label} (n : Node) → Undo t m l u → (length (chosen (undo_choice m) n t) ≡ 1) ⊎ (length (chosen (undo_choice m) n t) ≡ 2)
undo_one_or_two {t} {m = m} {l = l} n d = count (marked d)
  where
    count : Marked m l t → (length (chosen (undo_choice m) n t) ≡ 1) ⊎ (length (chosen (undo_choice m) n t) ≡ 2)
    count (lone e) = inl (undo_count m n t ∙ ap length e)
    count (joint a b z c e i) = inr (undo_count m n t ∙ ap length e)

-- writing 0 at them takes the key out
pub undo_clear : (m : Key) (n : Node) (t : Term) → written (undo_choice m) 0 n t ≡ clear m t
unfolding written clear
undo_clear m n nil = refl
undo_clear m n (pre a k t) = rw (undo_clear m (n + 1) t) (ap (λ (x : Key). pre a x (clear m t)) (same (eqb m k)))
  where
    same : (b : Bool) → keyed b 0 k ≡ zeroed b k
    same true = refl
    same false = refl
undo_clear m n (cho t u) = rw (undo_clear m (n + 1) t, undo_clear m (n + 1 + size t) u)
undo_clear m n (par t u) = rw (undo_clear m (n + 1) t, undo_clear m (n + 1 + size t) u)
undo_clear m n (res a t) = rw (undo_clear m (n + 1) t)
