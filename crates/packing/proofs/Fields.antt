-- A host that takes an answer apart as the header's macros do has exactly the promise's fields: a theorem for each entry.
use mathlib.Core.Path.{◌≡◌, refl}
use mathlib.Core.List.{List, [], ◌∷◌}
use Prim.Native.Nat.{ℕ, ◌+◌, ◌*◌, ◌<◌, ◌≤◌, ◌^◌, ◌/◌, ◌%◌}
use native.Mathlib.Nat.{mul-add-div_right, mul-add-mod_self_right, mod-eq_of_lt, div-eq_of_lt, add-zero}
use native.Mathlib.Omega.{arith}
use lib.ListN.{get_or}
use Rattle.ccsk.specs.Term.{Label}
use Rattle.format.specs.Encode.{Bytes}
use Rattle.format.specs.Preorder.{Shown, shown}
use Rattle.operations.specs.Change.{ForwardStep, UndoStep, BlankForm}
use Rattle.operations.specs.Ask.{ReadRecord, ShownNode, KeyCount, FreeKey, FirstStep, UndoListing, WaitingList, Soundness}
use Rattle.operations.specs.TakeBack.{TakeBack}
use Rattle.operations.proofs.Bounds.{SmallNumber, SmallStep, forward_small, undo_small, read_small, count_small, free_small, sound_small, blank_small, listing_small, waiting_small, take_small, first_small}
use Rattle.operations.proofs.NodeBounds.{key_in, SmallShown, node_small}
use Rattle.packing.specs.Packed.{step_answer, answer, node_answer, PackedStep, PackedStep.packed, PackedNumber, PackedNumber.packed, PackedLent, PackedLent.packed, PackedBoth, PackedBoth.packed, PackedFirst, PackedFirst.packed, PackedNode, PackedNode.packed}
use Rattle.packing.specs.Fields.{step_refusal_of, step_label_of, refusal_of, found_of, label_of, p_of, q_of, number_of, kind_of_answer, node_of}

-- x is what a shift and a cast, as divisor d and modulus w, take out of r: what lies below x is less than d
field_is : {d w : ℕ} (above x below r : ℕ) → x < w → below < d → r ≡ (above * w + x) * d + below → r / d % w ≡ x
field_is {d} {w} above x below r h g e =
    rw (e, mul-add-div_right {m = d} (omega (arith, g)) (above * w + x) below, div-eq_of_lt g, add-zero, mul-add-mod_self_right above w x) (mod-eq_of_lt h)

-- the fields of an answer, with a kind above them
record Taken (kind refusal mark label p q r : ℕ) : Type 0 where
  at_kind : kind_of_answer r ≡ kind
  at_refusal : refusal_of r ≡ refusal
  at_mark : found_of r ≡ mark
  at_label : label_of r ≡ label
  at_p : p_of r ≡ p
  at_q : q_of r ≡ q

taken : (k c m l p q r : ℕ) → (k < 256) × (c < 256) × (m < 256) × (l < 256) × (p < 65536) × (q < 65536) → r ≡ k * 2 ^ 56 + answer c m l p q
    → Taken k c m l p q r
taken k c m l p q r h e = record {
  at_kind = field_is 0 k (answer c m l p q) r (omega arith) (omega arith) (omega arith);
  at_refusal = field_is k c (answer 0 m l p q) r (omega arith) (omega arith) (omega arith);
  at_mark = field_is (k * 256 + c) m (answer 0 0 l p q) r (omega arith) (omega arith) (omega arith);
  at_label = field_is ((k * 256 + c) * 256 + m) l (answer 0 0 0 p q) r (omega arith) (omega arith) (omega arith);
  at_p = field_is (((k * 256 + c) * 256 + m) * 256 + l) p q r (omega arith) (omega arith) (omega arith);
  at_q = field_is ((((k * 256 + c) * 256 + m) * 256 + l) * 65536 + p) q 0 r (omega arith) (omega arith) (omega arith);
}

-- promises of one shape whose numbers fit their fields
step_taken : (c l : ℕ) → SmallStep c l → (step_refusal_of (step_answer c l) ≡ c) × (step_label_of (step_answer c l) ≡ l)
step_taken c l h = (
  field_is 0 c l (step_answer c l) (omega arith) (omega arith) (omega arith),
  field_is c l 0 (step_answer c l) (omega arith) (omega arith) (omega arith),
)

step_fields : {P : ℕ → Label → List ℕ → Type 0} {r : ℕ} {b : List ℕ} → ((c : ℕ) (l : Label) (b : List ℕ) → P c l b → SmallStep c l)
    → PackedStep P r b → P (step_refusal_of r) (step_label_of r) b
step_fields h (packed {c} {l} {b} f) = let t = step_taken c l (h c l b f) in rw (t.0, t.1) f

number_taken : (c n : ℕ) → SmallNumber c n → (refusal_of (answer c 0 0 0 n) ≡ c) × (number_of (answer c 0 0 0 n) ≡ n)
number_taken c n h = let t = taken 0 c 0 0 0 n (answer c 0 0 0 n) (omega arith) (omega arith) in (t.at_refusal, t.at_q)

number_fields : {P : ℕ → ℕ → Type 0} {r : ℕ} → ((c n : ℕ) → P c n → SmallNumber c n) → PackedNumber P r → P (refusal_of r) (number_of r)
number_fields h (packed {c} {n} f) = let t = number_taken c n (h c n f) in rw (t.0, t.1) f

lent_fields : {P : ℕ → ℕ → List ℕ → Type 0} {r : ℕ} {b : List ℕ} → ((c n : ℕ) (b : List ℕ) → P c n b → SmallNumber c n)
    → PackedLent P r b → P (refusal_of r) (number_of r) b
lent_fields h (packed {c} {n} {b} f) = let t = number_taken c n (h c n b f) in rw (t.0, t.1) f

-- a node of the walk
node_taken : (c r : ℕ) (l : List Shown) → c ≤ 13 → SmallShown l → r ≡ node_answer c l → (refusal_of r ≡ c) × (node_of r ≡ l)
node_taken c r [] h g e = let t = taken 0 c 0 0 0 0 r (omega arith) (omega arith) in (t.at_refusal, rw t.at_mark)
node_taken c r (shown k b d ∷ []) h g e =
    let t = taken k c 1 (get_or b 0 0) (key_in b) d r (omega (arith, g)) (omega arith) in
    (t.at_refusal, rw (t.at_mark, t.at_kind, t.at_label, t.at_p, t.at_q, g.whole))
node_taken c r (shown k b d ∷ (x ∷ l)) h g e = absurd g

module _ (s : List ℕ) (B : Bytes s) where
  pub forward_fields : {p q m r : ℕ} {b : List ℕ} → PackedStep (ForwardStep s p q m) r b → ForwardStep s p q m (step_refusal_of r) (step_label_of r) b
  forward_fields = step_fields (λ c l b. forward_small s B)

  pub undo_fields : {m r : ℕ} {b : List ℕ} → PackedStep (UndoStep s m) r b → UndoStep s m (step_refusal_of r) (step_label_of r) b
  undo_fields = step_fields (λ c l b. undo_small s B)

  pub read_fields : {r : ℕ} → PackedNumber (ReadRecord s) r → ReadRecord s (refusal_of r) (number_of r)
  read_fields = number_fields (λ c n. read_small s B)

  pub count_fields : {r : ℕ} → PackedNumber (KeyCount s) r → KeyCount s (refusal_of r) (number_of r)
  count_fields = number_fields (λ c n. count_small s B)

  pub least_free_fields : {r : ℕ} → PackedNumber (FreeKey s) r → FreeKey s (refusal_of r) (number_of r)
  least_free_fields = number_fields (λ c n. free_small s B)

  pub verdict_fields : {r : ℕ} → PackedNumber (Soundness s) r → Soundness s (refusal_of r) (number_of r)
  verdict_fields = number_fields (λ c n. sound_small s B)

  pub blank_fields : {r : ℕ} {b : List ℕ} → PackedLent (BlankForm s) r b → BlankForm s (refusal_of r) (number_of r) b
  blank_fields = lent_fields (λ c n b. blank_small s B)

  pub undo_listing_fields : {r : ℕ} {row b : List ℕ} → PackedLent (UndoListing s row) r b → UndoListing s row (refusal_of r) (number_of r) b
  undo_listing_fields = lent_fields (λ c n b. listing_small s B)

  pub waiting_fields : {m r : ℕ} {row b : List ℕ} → PackedLent (WaitingList s m row) r b → WaitingList s m row (refusal_of r) (number_of r) b
  waiting_fields = lent_fields (λ c n b. waiting_small s B)

  pub take_back_fields : {m r : ℕ} {row b row' : List ℕ} → PackedBoth (TakeBack s m row) r b row' → TakeBack s m row (refusal_of r) (number_of r) b row'
  take_back_fields (packed {c} {n} f) = let t = number_taken c n (take_small s B f) in rw (t.0, t.1) f

  pub first_fields : {p q r : ℕ} → PackedFirst (FirstStep s p q) r → FirstStep s p q (refusal_of r) (found_of r) (p_of r) (q_of r) (label_of r)
  first_fields (packed {c} {n} {p} {q} {l} f) =
      let g = first_small s B f in let t = taken 0 c n l p q (answer c n l p q) (omega arith) (omega arith) in
      rw (t.at_refusal, t.at_mark, t.at_p, t.at_q, t.at_label) f

  pub node_fields : {n r : ℕ} → PackedNode (ShownNode s n) r → ShownNode s n (refusal_of r) (node_of r)
  node_fields (packed {c} {l} f) = let g = node_small s B f in let t = node_taken c (node_answer c l) l g.0 g.1 refl in rw (t.0, t.1) f

-- the root of a[258].0: its kind, its action and the two bytes of its key, its depth; and nothing shown of refused bytes
root_taken : node_of 72058697861431297 ≡ shown 1 (1 ∷ (1 ∷ (2 ∷ []))) 1 ∷ []
root_taken = refl

refusal_taken : (refusal_of 281474976710656 ≡ 1) × (node_of 281474976710656 ≡ [])
refusal_taken = (refl, refl)

-- a step found at the places 3 and 5 with label 0, as the search answers it; and a step that is refused with 6
found_taken : (found_of 1099511824389 ≡ 1) × (p_of 1099511824389 ≡ 3) × (q_of 1099511824389 ≡ 5) × (label_of 1099511824389 ≡ 0)
found_taken = (refl, refl, refl, refl)

refused_step_taken : (step_refusal_of 1536 ≡ 6) × (step_label_of 1536 ≡ 0)
refused_step_taken = (refl, refl)
