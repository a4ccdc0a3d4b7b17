-- What the pass finds, turned into the answers of the forward step and the undo: one law for each way out.
-- A program knows of the spots how many there are, the first and the second.
use mathlib.Core.Path.{◌≡◌, refl, ap, sym, ◌∙◌}
use mathlib.Core.Logic.{◌⊎◌, inl, inr, ◌≢◌}
use mathlib.Core.List.{List, [], ◌∷◌}
use mathlib.Core.Bool.{Bool, true, false}
use Prim.Native.Nat.{ℕ, zero, suc, ◌+◌, ◌<◌, ◌≤◌, ◌/◌, ◌%◌}
use native.Mathlib.Omega.{arith}
use lib.Dec.{eqb}
use lib.ListN.{length, get_or, set}
use Rattle.ccsk.specs.Term.{Term, Label, Key, Node, Fsh}
use Rattle.ccsk.proofs.Clear.{undo_clears}
use Rattle.format.specs.Read.{Reads}
use Rattle.format.specs.Encode.{encode}
use Rattle.operations.specs.Order.{pair, ArePlaces}
use Rattle.operations.specs.Change.{ForwardStep, UndoStep, no_places, key_stands, key_absent, ForwardStep.not_derived, UndoStep.not_derived, ForwardStep.done, UndoStep.done}
use Rattle.moves.specs.Choose.{forward_choice, undo_choice, spots}
use Rattle.moves.specs.Move.{still, step, stuck, stands, move}
use Rattle.moves.proofs.Holds.{stands_has, stands_fresh}
use Rattle.moves.proofs.Undone.{UndoTells, undo_tells}
use Rattle.moves.proofs.Written.{written, put, puts, puts_written, Inside, spots_inside, spots-length}
use Rattle.moves.proofs.Stepped.{Tells, step_tells}
use Rattle.moves.proofs.Chosen.{chosen_places, places_chosen, undo_none, undo_one_or_two, undo_clear}

list_one : (x : List ℕ) (i : ℕ) → length x ≡ 1 → get_or x 0 0 ≡ i → x ≡ i ∷ []
list_one [] i n e = absurd (omega arith)
list_one (a ∷ []) i n e = rw e
list_one (a ∷ (b ∷ x)) i n e = absurd (omega arith)

list_two : (x : List ℕ) (i j : ℕ) → length x ≡ 2 → get_or x 0 0 ≡ i → get_or x 1 0 ≡ j → x ≡ i ∷ (j ∷ [])
list_two [] i j n e f = absurd (omega arith)
list_two (a ∷ []) i j n e f = absurd (omega arith)
list_two (a ∷ (b ∷ [])) i j n e f = rw (e, f)
list_two (a ∷ (b ∷ (c ∷ x))) i j n e f = absurd (omega arith)

inside_at : (b k : ℕ) (x : List ℕ) → Inside b x → k < length x → get_or x k 0 + 3 < b
inside_at b k [] g h = absurd (omega arith)
inside_at b zero (i ∷ x) g h = g.0
inside_at b (suc k) (i ∷ x) g h = inside_at b k x g.1 (omega arith)

-- the key bytes at the spot number k lie within the record
pub spot_inside : (c : Node → Key → Bool) (s : List ℕ) (t : Term) (k i : ℕ) → encode t ≡ s → k < length (spots c 0 0 t) → get_or (spots c 0 0 t) k 0 ≡ i → i + 3 < length s
spot_inside c s t k i e h f = rw (← f, ← e) (inside_at (length (encode t)) k (spots c 0 0 t) (spots_inside c (length (encode t)) 0 0 t (omega arith)) h)

-- the key m written at one spot or two
write_one : (c : Node → Key → Bool) (s : List ℕ) (t : Term) (m : Key) (i : ℕ) → encode t ≡ s → length (spots c 0 0 t) ≡ 1 → get_or (spots c 0 0 t) 0 0 ≡ i → encode (written c m 0 t) ≡ put m s i
unfolding puts
write_one c s t m i e n f = sym (puts_written c m 0 t) ∙ rw (e, list_one (spots c 0 0 t) i n f)

write_two : (c : Node → Key → Bool) (s : List ℕ) (t : Term) (m : Key) (i j : ℕ) → encode t ≡ s → length (spots c 0 0 t) ≡ 2 → get_or (spots c 0 0 t) 0 0 ≡ i → get_or (spots c 0 0 t) 1 0 ≡ j
    → encode (written c m 0 t) ≡ put m (put m s i) j
unfolding puts
write_two c s t m i j e n f g = sym (puts_written c m 0 t) ∙ rw (e, list_two (spots c 0 0 t) i j n f g)

pub are_places_one : (t : Term) (p q : Node) → q ≡ 0 → length (spots (forward_choice p q) 0 0 t) ≡ 1 → ArePlaces t p q
are_places_one t p zero z n = places_chosen t p 0 (inl refl) (sym (spots-length (forward_choice p 0) 0 0 t) ∙ n)
are_places_one t p (suc q) z n = absurd (omega arith)

pub are_places_two : (t : Term) (p q : Node) → p < q → length (spots (forward_choice p q) 0 0 t) ≡ 2 → ArePlaces t p q
are_places_two t p zero h n = absurd (omega arith)
are_places_two t p (suc q) h n = places_chosen t p (suc q) (inr h) (sym (spots-length (forward_choice p (suc q)) 0 0 t) ∙ n)

spots_places : (t : Term) (p q : Node) → ArePlaces t p q → length (spots (forward_choice p q) 0 0 t) ≡ length (pair p q)
spots_places t p q a = spots-length (forward_choice p q) 0 0 t ∙ ap length (chosen_places t p q a)

module _ (s : List ℕ) (t : Term) (p q : Node) (m : Key) (r : Reads s t) (h : 0 < m) where
  -- refusal 4: no prefix at the one place, or not two prefixes, or not in order
  pub forward_4_one : q ≡ 0 → length (spots (forward_choice p q) 0 0 t) ≢ 1 → ForwardStep s p q m 4 0 s
  forward_4_one z f = no_places r h (λ a. f (spots_places t p q a ∙ rw z))

  pub forward_4_two : q ≢ 0 → length (spots (forward_choice p q) 0 0 t) ≢ 2 → ForwardStep s p q m 4 0 s
  forward_4_two z f = no_places r h (λ a. f (spots_places t p q a ∙ two q z))
    where
      two : (q : Node) → q ≢ 0 → length (pair p q) ≡ 2
      two zero z = absurd (z refl)
      two (suc q) z = refl

  pub forward_4_order : q ≢ 0 → q ≤ p → ForwardStep s p q m 4 0 s
  forward_4_order z o = no_places r h (λ a. out q z o a)
    where
      out : (q : Node) → q ≢ 0 → q ≤ p → ArePlaces t p q → ⊥
      out zero z o a = z refl
      out (suc q) z o a = omega arith

  -- refusal 5: the key stands in the record
  pub forward_5 : ArePlaces t p q → stands m t ≡ true → ForwardStep s p q m 5 0 s
  forward_5 a e = key_stands r h a ((stands_has m t).0 e)

  module _ (a : ArePlaces t p q) (f : stands m t ≡ false) where
    tells : Tells m t (pair p q) (written (forward_choice p q) m 0 t) (move (forward_choice p q) (λ k. eqb k 0) 0 t)
    tells = rw (chosen_places t p q a) at (step_tells (forward_choice p q) m h 0 t ((stands_fresh m t).0 f))

    -- there are places, so some prefix is chosen
    pub forward_moves : move (forward_choice p q) (λ k. eqb k 0) 0 t ≡ still → ⊥
    forward_moves e = let g : Tells m t (pair p q) (written (forward_choice p q) m 0 t) still = rw e at tells in full q g.0
      where
        full : (q : Node) → pair p q ≢ []
        full zero e = let z : ◌≡◌ {A = ℕ} 0 1 = cc in omega arith
        full (suc q) e = let z : ◌≡◌ {A = ℕ} 0 1 = cc in omega arith

    -- refusal 6: the rules derive no such step
    pub forward_6 : move (forward_choice p q) (λ k. eqb k 0) 0 t ≡ stuck → ForwardStep s p q m 6 0 s
    forward_6 e = let g : Tells m t (pair p q) (written (forward_choice p q) m 0 t) stuck = rw e at tells in not_derived r h a ((stands_fresh m t).0 f) g.1

    done_written : (l : Label) → move (forward_choice p q) (λ k. eqb k 0) 0 t ≡ step l → ForwardStep s p q m 0 l (encode (written (forward_choice p q) m 0 t))
    done_written l e = let g : Tells m t (pair p q) (written (forward_choice p q) m 0 t) (step l) = rw e at tells in done r (l, written (forward_choice p q) m 0 t, g.0, g.1)

-- done at one place: the key's two bytes stand at its spot
pub forward_done_one : (s : List ℕ) (t : Term) (p q : Node) (m : Key) (l : Label) (i : ℕ) → encode t ≡ s → Reads s t → 0 < m → q ≡ 0 → stands m t ≡ false
    → move (forward_choice p q) (λ k. eqb k 0) 0 t ≡ step l → length (spots (forward_choice p q) 0 0 t) ≡ 1 → get_or (spots (forward_choice p q) 0 0 t) 0 0 ≡ i
    → ForwardStep s p q m 0 l (set (set s (i + 2) (m / 256)) (i + 3) (m % 256))
forward_done_one s t p q m l i e r h z f g n o = rw (write_one (forward_choice p q) s t m i e n o) at (done_written s t p q m r h (are_places_one t p q z n) f l g)

-- done at two places
pub forward_done_two : (s : List ℕ) (t : Term) (p q : Node) (m : Key) (l : Label) (i j : ℕ) → encode t ≡ s → Reads s t → 0 < m → p < q → stands m t ≡ false
    → move (forward_choice p q) (λ k. eqb k 0) 0 t ≡ step l → length (spots (forward_choice p q) 0 0 t) ≡ 2 → get_or (spots (forward_choice p q) 0 0 t) 0 0 ≡ i → get_or (spots (forward_choice p q) 0 0 t) 1 0 ≡ j
    → ForwardStep s p q m 0 l (set (set (set (set s (i + 2) (m / 256)) (i + 3) (m % 256)) (j + 2) (m / 256)) (j + 3) (m % 256))
forward_done_two s t p q m l i j e r h o f g n u v = rw (write_two (forward_choice p q) s t m i j e n u v) at (done_written s t p q m r h (are_places_two t p q o n) f l g)

module _ (s : List ℕ) (t : Term) (m : Key) (r : Reads s t) (h : 0 < m) where
  spots_fresh : length (spots (undo_choice m) 0 0 t) ≡ 0 → Fsh m t
  spots_fresh e = (undo_none m 0 t).0 (sym (spots-length (undo_choice m) 0 0 t) ∙ e)

  -- refusal 7: no prefix holds the key
  pub undo_7 : length (spots (undo_choice m) 0 0 t) ≡ 0 → UndoStep s m 7 0 s
  undo_7 e = key_absent r h (spots_fresh e)

  -- some prefix holds the key, so the move is none of nothing
  pub undo_moves : length (spots (undo_choice m) 0 0 t) ≢ 0 → move (undo_choice m) (λ k. true) 0 t ≡ still → ⊥
  undo_moves f e = let g : UndoTells m t still = rw e at (undo_tells m h 0 t) in f (spots-length (undo_choice m) 0 0 t ∙ (undo_none m 0 t).1 g)

  -- refusal 8: the rules derive no undo of the key
  pub undo_8 : move (undo_choice m) (λ k. true) 0 t ≡ stuck → UndoStep s m 8 0 s
  undo_8 e = let g : UndoTells m t stuck = rw e at (undo_tells m h 0 t) in not_derived r h g.0 g.1

  -- a step is of one prefix or two
  pub undo_spots : (l : Label) → move (undo_choice m) (λ k. true) 0 t ≡ step l → (length (spots (undo_choice m) 0 0 t) ≡ 1) ⊎ (length (spots (undo_choice m) 0 0 t) ≡ 2)
  undo_spots l e = let g : UndoTells m t (step l) = rw e at (undo_tells m h 0 t) in rw (spots-length (undo_choice m) 0 0 t) (undo_one_or_two 0 g.1)

  undone_written : (l : Label) → move (undo_choice m) (λ k. true) 0 t ≡ step l → UndoStep s m 0 l (encode (written (undo_choice m) 0 0 t))
  undone_written l e = let g : UndoTells m t (step l) = rw e at (undo_tells m h 0 t) in rw (undo_clear m 0 t, undo_clears g.1) (done r g.1)

-- undone: 0 stands at the one spot, or at both
pub undo_done_one : (s : List ℕ) (t : Term) (m : Key) (l : Label) (i : ℕ) → encode t ≡ s → Reads s t → 0 < m → move (undo_choice m) (λ k. true) 0 t ≡ step l
    → length (spots (undo_choice m) 0 0 t) ≡ 1 → get_or (spots (undo_choice m) 0 0 t) 0 0 ≡ i → UndoStep s m 0 l (set (set s (i + 2) 0) (i + 3) 0)
undo_done_one s t m l i e r h g n o = rw (write_one (undo_choice m) s t 0 i e n o) at (undone_written s t m r h l g)

pub undo_done_two : (s : List ℕ) (t : Term) (m : Key) (l : Label) (i j : ℕ) → encode t ≡ s → Reads s t → 0 < m → move (undo_choice m) (λ k. true) 0 t ≡ step l
    → length (spots (undo_choice m) 0 0 t) ≡ 2 → get_or (spots (undo_choice m) 0 0 t) 0 0 ≡ i → get_or (spots (undo_choice m) 0 0 t) 1 0 ≡ j
    → UndoStep s m 0 l (set (set (set (set s (i + 2) 0) (i + 3) 0) (j + 2) 0) (j + 3) 0)
undo_done_two s t m l i j e r h g n u v = rw (write_two (undo_choice m) s t 0 i j e n u v) at (undone_written s t m r h l g)
