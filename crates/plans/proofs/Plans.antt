-- The plans of forward step and undo are what the promises ask for: a law for each way out.
use mathlib.Core.Path.{◌≡◌, refl, sym, ap, ◌∙◌}
use mathlib.Core.Logic.{⊎_elim, ◌≢◌}
use mathlib.Core.List.{List, [], ◌∷◌}
use mathlib.Core.Bool.{true, false}
use Prim.Native.Nat.{ℕ, zero, suc, ◌<◌}
use native.Mathlib.Omega.{arith}
use lib.Dec.{eqb}
use lib.ListN.{length, get_or}
use Rattle.std.specs.Prelude.{Option, Some, None, Ok, Err}
use Rattle.std.specs.Option.{ok_or}
use Rattle.std.proofs.lemmas.Bool.{cases_lt}
use Rattle.ccsk.specs.Term.{Term, Label}
use Rattle.format.specs.Read.{Reads}
use Rattle.format.specs.Encode.{encode, Bytes}
use Rattle.format.proofs.Unique.{encode-decode}
use Rattle.operations.specs.Order.{ArePlaces}
use Rattle.operations.specs.Change.{ForwardStep.key_zero, UndoStep.key_zero}
use Rattle.moves.specs.Choose.{forward_choice, undo_choice, spots}
use Rattle.moves.specs.Move.{step, stands, move}
use Rattle.moves.specs.Move as pass
use Rattle.moves.proofs.Answers.{spot_inside, are_places_one, are_places_two, forward_4_one, forward_4_two, forward_4_order, forward_5, forward_moves, forward_6, forward_done_one, forward_done_two, undo_7, undo_moves, undo_8, undo_spots, undo_done_one, undo_done_two}
use Rattle.shared.specs.declared.Refusal.{Refusal}
use Rattle.shared.specs.declared.Refusal.TheVariants.{KeyZero, NoPlaces, KeyStands, NoStep, KeyAbsent, NoUndo}
use Rattle.findings.specs.declared.Move.{Move}
use Rattle.findings.specs.declared.Move.TheVariants.{Still, Step, Stuck}
use Rattle.findings.specs.declared.Ask.TheVariants.{Undo, Forward}
use Rattle.findings.specs.declared.Places.TheVariants.{Zero, One, Two, More}
use Rattle.findings.specs.declared.Seen.{Seen}
use Rattle.findings.specs.declared.Places.{Places}
use Rattle.findings.specs.declared.Ask.{Ask}
use Rattle.findings.specs.Seen.{Found, move_of, label_of, places_of}
use Rattle.survey.specs.Survey.{Looked}
use Rattle.plans.specs.Plan.{Asked, ForwardPlan, UndoPlan}

-- a list, from its places
none_in : (l : List ℕ) → places_of l ≡ Zero → length l ≡ 0
none_in [] e = refl
none_in (i ∷ []) e = absurd cc
none_in (i ∷ (j ∷ [])) e = absurd cc
none_in (i ∷ (j ∷ (k ∷ l))) e = absurd cc

one_in : (l : List ℕ) (i : ℕ) → places_of l ≡ One i → (length l ≡ 1) × (get_or l 0 0 ≡ i)
one_in [] i e = absurd cc
one_in (h ∷ []) i e = (refl, cc)
one_in (h ∷ (j ∷ [])) i e = absurd cc
one_in (h ∷ (j ∷ (k ∷ l))) i e = absurd cc

two_in : (l : List ℕ) (i j : ℕ) → places_of l ≡ Two i j → (length l ≡ 2) × (get_or l 0 0 ≡ i) × (get_or l 1 0 ≡ j)
two_in [] i j e = absurd cc
two_in (h ∷ []) i j e = absurd cc
two_in (h ∷ (g ∷ [])) i j e = (refl, cc, cc)
two_in (h ∷ (g ∷ (k ∷ l))) i j e = absurd cc

more_in : (l : List ℕ) (n i j : ℕ) → places_of l ≡ More n i j → 2 < length l
more_in [] n i j e = absurd cc
more_in (h ∷ []) n i j e = absurd cc
more_in (h ∷ (g ∷ [])) n i j e = absurd cc
more_in (h ∷ (g ∷ (k ∷ l))) n i j e = omega arith

-- and its places, from how many they are
zero_long : (l : List ℕ) → length l ≡ 0 → places_of l ≡ Zero
zero_long [] e = refl
zero_long (i ∷ l) e = absurd (omega arith)

one_long : (l : List ℕ) → length l ≡ 1 → places_of l ≡ One (get_or l 0 0)
one_long [] e = absurd (omega arith)
one_long (i ∷ []) e = refl
one_long (i ∷ (j ∷ l)) e = absurd (omega arith)

two_long : (l : List ℕ) → length l ≡ 2 → places_of l ≡ Two (get_or l 0 0) (get_or l 1 0)
two_long [] e = absurd (omega arith)
two_long (i ∷ []) e = absurd (omega arith)
two_long (i ∷ (j ∷ [])) e = refl
two_long (i ∷ (j ∷ (k ∷ l))) e = absurd (omega arith)

-- a label that an answer is made of, or is missing from
label_from : (o : Option ℕ) (e : Refusal) (l : ℕ) → Ok l ≡ ok_or o e → o ≡ Some l
label_from None e l q = absurd cc
label_from (Some k) e l q = cc

none_from : (o : Option ℕ) (e r : Refusal) → Err r ≡ ok_or o e → (o ≡ None) × (r ≡ e)
none_from None e r q = (refl, cc)
none_from (Some k) e r q = absurd cc

-- a move, from its label
step_of : (y : Move) (l : Label) → label_of y ≡ Some l → move_of y ≡ step l
step_of Still l e = absurd cc
step_of (Step k) l e = ap step cc
step_of Stuck l e = absurd cc

no_step : (y : Move) (l : Label) → label_of y ≡ None → move_of y ≡ step l → ⊥
no_step Still l e g = cc
no_step (Step k) l e g = cc
no_step Stuck l e g = cc

-- what is found of a record, without the exact number of its chosen prefixes
pub seen_in : (s : List ℕ) (ask : Ask) (x : Seen) → Looked s ask (Ok x) → (t : Term) × Reads s t × Found ask 0 0 t x
seen_in s ask x w = (w.0, w.1, w.2)

module _ (s : List ℕ) (p q m : ℕ) (x : Seen) (w : (t : Term) × Reads s t × Found (Forward p q m) 0 0 t x) where
  abbrev t : Term
  t = w.0

  abbrev here : List ℕ
  here = spots (forward_choice p q) 0 0 t

  -- refusal 3
  pub forward_zero : m ≡ 0 → ForwardPlan s p q m (Err KeyZero)
  forward_zero e = key_zero w.1 e

  module _ (h : m ≢ 0) (found : Places) (are : found ≡ places_of here) where
    pos : 0 < m
    pos = omega arith

    -- refusal 4
    pub forward_not : (r : Refusal) → Asked found p q (Err r) → ForwardPlan s p q m (Err r)
    forward_not r (e, f, g) = rw e (by q refl)
      where
        by : (k : ℕ) → k ≡ q → ForwardPlan s p q m (Err NoPlaces)
        by zero z = forward_4_one s t p q m w.1 pos (sym z) (λ l. f _ (sym z) (are ∙ one_long here l))
        by (suc k) z = ⊎_elim (λ l. forward_4_two s t p q m w.1 pos (omega arith) (λ n. g _ _ l (are ∙ two_long here n))) (λ l. forward_4_order s t p q m w.1 pos (omega arith) l) (cases_lt p q)

    module _ (i : ℕ) (o : Option ℕ) (a : Asked found p q (Ok (i, o))) where
      asked : (o : Option ℕ) → Asked found p q (Ok (i, o)) → ArePlaces t p q
      asked None (z, e) = are_places_one t p q z (one_in here i (sym are ∙ e)).0
      asked (Some j) (z, e) = are_places_two t p q z (two_in here i j (sym are ∙ e)).0

      -- refusal 5
      pub forward_stands : x.stands ≡ true → ForwardPlan s p q m (Err KeyStands)
      forward_stands e = forward_5 s t p q m w.1 pos (asked o a) (sym w.2.stands ∙ e)

      module _ (f : x.stands ≡ false) where
        -- refusal 6
        pub forward_none : (r : Refusal) → Err r ≡ ok_or (label_of x.moved) NoStep → ForwardPlan s p q m (Err r)
        forward_none r e = let n = none_from _ _ r e in rw n.1 (by x.moved n.0 w.2.moved)
          where
            by : (y : Move) → label_of y ≡ None → move_of y ≡ move (forward_choice p q) (λ k. eqb k 0) 0 t → ForwardPlan s p q m (Err NoStep)
            by Still e g = absurd (forward_moves s t p q m w.1 pos (asked o a) (sym w.2.stands ∙ f) (sym g))
            by (Step l) e g = absurd cc
            by Stuck e g = forward_6 s t p q m w.1 pos (asked o a) (sym w.2.stands ∙ f) (sym g)

        module _ (bytes : Bytes s) (l : Label) (g : Ok l ≡ ok_or (label_of x.moved) NoStep) where
          encoded : encode t ≡ s
          encoded = (encode-decode s t bytes w.1).0

          pub forward_made : ForwardPlan s p q m (Ok (record { label = l; first = i; second = o }))
          forward_made = make o a
            where
              make : (o : Option ℕ) → Asked found p q (Ok (i, o)) → ForwardPlan s p q m (Ok (record { label = l; first = i; second = o }))
              make None (z, e) = let n = one_in here i (sym are ∙ e) in (
                (spot_inside (forward_choice p q) s t 0 i encoded (omega (arith, n.0)) n.1, tt),
                forward_done_one s t p q m l i encoded w.1 pos z (sym w.2.stands ∙ f) (sym w.2.moved ∙ step_of x.moved l (label_from _ _ l g)) n.0 n.1,
              )
              make (Some j) (z, e) = let n = two_in here i j (sym are ∙ e) in (
                (spot_inside (forward_choice p q) s t 0 i encoded (omega (arith, n.0)) n.1, spot_inside (forward_choice p q) s t 1 j encoded (omega (arith, n.0)) n.2),
                forward_done_two s t p q m l i j encoded w.1 pos z (sym w.2.stands ∙ f) (sym w.2.moved ∙ step_of x.moved l (label_from _ _ l g)) n.0 n.1 n.2,
              )

module _ (s : List ℕ) (m : ℕ) (x : Seen) (w : (t : Term) × Reads s t × Found (Undo m) 0 0 t x) where
  abbrev u : Term
  u = w.0

  abbrev there : List ℕ
  there = spots (undo_choice m) 0 0 u

  -- refusal 3
  pub undo_zero : m ≡ 0 → UndoPlan s m (Err KeyZero)
  undo_zero e = key_zero w.1 e

  module _ (h : m ≢ 0) (found : Places) (stand : found ≡ places_of there) where
    above : 0 < m
    above = omega arith

    -- refusal 7
    pub undo_absent : found ≡ Zero → UndoPlan s m (Err KeyAbsent)
    undo_absent e = undo_7 s u m w.1 above (none_in there (sym stand ∙ e))

    -- refusal 8
    fails : ((l : Label) → move (undo_choice m) (λ k. true) 0 u ≡ step l → ⊥) → (found ≡ Zero → ⊥) → UndoPlan s m (Err NoUndo)
    fails g f = by (move (undo_choice m) (λ k. true) 0 u) refl
      where
        by : (y : pass.Move) → move (undo_choice m) (λ k. true) 0 u ≡ y → UndoPlan s m (Err NoUndo)
        by pass.still e = absurd (undo_moves s u m w.1 above (λ z. f (stand ∙ zero_long there z)) e)
        by (pass.step l) e = absurd (g l e)
        by pass.stuck e = undo_8 s u m w.1 above e

    pub undo_more : (k i j : ℕ) → found ≡ More k i j → UndoPlan s m (Err NoUndo)
    undo_more k i j e = let n = more_in there _ _ _ (sym stand ∙ e) in fails (λ l g. ⊎_elim (λ z. omega (arith, n)) (λ z. omega (arith, n)) (undo_spots s u m w.1 above l g)) (λ z. absurd cc)

    pub undo_none : (r : Refusal) → Err r ≡ ok_or (label_of x.moved) NoUndo → (found ≡ Zero → ⊥) → UndoPlan s m (Err r)
    undo_none r e f = let n = none_from _ _ r e in rw n.1 (fails (λ l g. no_step x.moved l n.0 (w.2.moved ∙ g)) f)

    module _ (bytes : Bytes s) (l : Label) (g : Ok l ≡ ok_or (label_of x.moved) NoUndo) where
      written : encode u ≡ s
      written = (encode-decode s u bytes w.1).0

      pub undo_one : (i : ℕ) → found ≡ One i → UndoPlan s m (Ok (record { label = l; first = i; second = None }))
      undo_one i e = let n = one_in there i (sym stand ∙ e) in (
        (spot_inside (undo_choice m) s u 0 i written (omega (arith, n.0)) n.1, tt),
        undo_done_one s u m l i written w.1 above (sym w.2.moved ∙ step_of x.moved l (label_from _ _ l g)) n.0 n.1,
      )

      pub undo_two : (i j : ℕ) → found ≡ Two i j → UndoPlan s m (Ok (record { label = l; first = i; second = Some j }))
      undo_two i j e = let n = two_in there i j (sym stand ∙ e) in (
        (spot_inside (undo_choice m) s u 0 i written (omega (arith, n.0)) n.1, spot_inside (undo_choice m) s u 1 j written (omega (arith, n.0)) n.2),
        undo_done_two s u m l i j written w.1 above (sym w.2.moved ∙ step_of x.moved l (label_from _ _ l g)) n.0 n.1 n.2,
      )
