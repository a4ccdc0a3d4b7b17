-- How large the numbers of an answer are, where the record's bytes are bytes: what a packed answer has to have room for.
use mathlib.Core.Logic.{⊎_elim}
use mathlib.Core.List.{List}
use Prim.Native.Nat.{ℕ, suc, ◌<◌, ◌≤◌}
use native.Mathlib.Omega.{arith}
use lib.ListN.{length}
use Rattle.ccsk.specs.Numbers.{In, distinct, Lists}
use Rattle.ccsk.specs.Term.{Term, Label, Key, Node, keys}
use Rattle.ccsk.specs.Step.{Forward, Undo}
use Rattle.ccsk.proofs.Lists.{distinct-length, least_free_lem}
use Rattle.ccsk.proofs.Loop.{forward_of_undo}
use Rattle.ccsk.proofs.Undo.{present}
use Rattle.ccsk.proofs.Keys.{has_in, keys_few}
use Rattle.sound.specs.Sound.{Verdict, sound, fails₁, fails₂, fails₃, fails₄, fails₅, fails₆, fails₇}
use Rattle.format.specs.Limits.{node_limit}
use Rattle.format.specs.Read.{Refuses}
use Rattle.format.specs.Encode.{InRange, Fits, Bytes}
use Rattle.format.proofs.Refusals.{decode_refusals}
use Rattle.operations.specs.Change.{ForwardStep, UndoStep, BlankForm}
use Rattle.operations.specs.Ask.{ReadRecord, KeyCount, FreeKey, FirstStep, Filled, short, filled, UndoListing, WaitingList, Soundness}
use Rattle.operations.specs.TakeBack.{TakeBack}
use Rattle.operations.proofs.InTurn.{turn_few}
use Rattle.operations.proofs.Lists.{ascending_few, least_free_once}
use Rattle.operations.proofs.FirstOnce.{place_bound}
use Rattle.operations.proofs.RowOnce.{waits_key}
use Rattle.operations.proofs.Readable.{read_fits}
use Rattle.operations.proofs.Kept.{fits_undo}

-- a refusal number with a number, with a label, and with mark, places and label
abbrev pub SmallNumber : ℕ → ℕ → Type 0
SmallNumber c n = (c ≤ 13) × (n ≤ suc node_limit)

abbrev pub SmallStep : ℕ → Label → Type 0
SmallStep c l = (c ≤ 13) × (l ≤ 255)

abbrev pub SmallFirst : ℕ → ℕ → Node → Node → Label → Type 0
SmallFirst c n p q l = (c ≤ 13) × (n ≤ 1) × (p < node_limit) × (q < node_limit) × (l ≤ 255)

pub refused_small : (s : List ℕ) {c : ℕ} → Refuses s c → c ≤ 13
refused_small s {c} e = ⊎_elim (λ z. omega arith) (λ z. omega arith) (decode_refusals s c e)

distinct_few : (t : Term) → Fits t → distinct (keys t) ≤ node_limit
distinct_few t f = omega (arith, distinct-length (keys t), keys_few t, f.nodes)

verdict_small : {t : Term} {v : ℕ} → Verdict t v → v ≤ 7
verdict_small (sound a) = omega arith
verdict_small (fails₁ a) = omega arith
verdict_small (fails₂ a b) = omega arith
verdict_small (fails₃ a b c) = omega arith
verdict_small (fails₄ a b c d) = omega arith
verdict_small (fails₅ a b c d e) = omega arith
verdict_small (fails₆ a b c d e f) = omega arith
verdict_small (fails₇ a b c d e f g) = omega arith

-- a list of keys of the term in a lent row
filled_small : {l row row' : List ℕ} {c n : ℕ} → length l ≤ node_limit → Filled l row c n row' → SmallNumber c n
filled_small h (short g) = omega arith
filled_small h (filled g) = omega arith

pub listed_few : (P : ℕ → Type 0) (t : Term) (l : List ℕ) → Fits t → Lists P l → ((k : Key) → 0 < k → P k → In k (keys t)) → length l ≤ node_limit
listed_few P t l f o h = omega (arith, ascending_few 0 l (keys t) o.0 (λ k i. let p = (o.1 k).0 i in h k p.0 p.1), distinct_few t f)

-- the label of a step of a term within the limits is a byte
forward_byte : {t u : Term} {m : Key} {l : Label} → InRange t → Forward t m l u → l ≤ 255
forward_byte g (Forward.top h s) = g.0
forward_byte g (Forward.prefix h n d) = forward_byte g.3 d
forward_byte g (Forward.choice₁ s d) = forward_byte g.0 d
forward_byte g (Forward.choice₂ s d) = forward_byte g.1 d
forward_byte g (Forward.par₁ f d) = forward_byte g.0 d
forward_byte g (Forward.par₂ f d) = forward_byte g.1 d
forward_byte g (Forward.synch c d e) = omega arith
forward_byte g (Forward.restrict f d) = forward_byte g.1 d

undo_byte : {t u : Term} {m : Key} {l : Label} → Fits t → Undo t m l u → l ≤ 255
undo_byte f d = forward_byte (fits_undo d f).range (forward_of_undo d)

module _ (s : List ℕ) (B : Bytes s) where
  pub forward_small : {p q m c l : ℕ} {b : List ℕ} → ForwardStep s p q m c l b → SmallStep c l
  forward_small (ForwardStep.unreadable e) = (refused_small s e, omega arith)
  forward_small (ForwardStep.key_zero e z) = omega arith
  forward_small (ForwardStep.no_places e h a) = omega arith
  forward_small (ForwardStep.key_stands e h a k) = omega arith
  forward_small (ForwardStep.not_derived e h a k n) = omega arith
  forward_small (ForwardStep.done e w) = (omega arith, forward_byte (read_fits s B e).range w.2)

  pub undo_small : {m c l : ℕ} {b : List ℕ} → UndoStep s m c l b → SmallStep c l
  undo_small (UndoStep.unreadable e) = (refused_small s e, omega arith)
  undo_small (UndoStep.key_zero e z) = omega arith
  undo_small (UndoStep.key_absent e h k) = omega arith
  undo_small (UndoStep.not_derived e h k n) = omega arith
  undo_small (UndoStep.done e d) = (omega arith, undo_byte (read_fits s B e) d)

  pub read_small : {c n : ℕ} → ReadRecord s c n → SmallNumber c n
  read_small (ReadRecord.unreadable e) = (refused_small s e, omega arith)
  read_small (ReadRecord.done e) = omega (arith, (read_fits s B e).nodes)

  pub count_small : {c n : ℕ} → KeyCount s c n → SmallNumber c n
  count_small (KeyCount.unreadable e) = (refused_small s e, omega arith)
  count_small (KeyCount.done {t} e) = omega (arith, distinct_few t (read_fits s B e))

  pub free_small : {c n : ℕ} → FreeKey s c n → SmallNumber c n
  free_small (FreeKey.unreadable e) = (refused_small s e, omega arith)
  free_small (FreeKey.done {t} e f) =
      let g = least_free_lem (keys t) in omega (arith, g.1, least_free_once g.2 f, distinct_few t (read_fits s B e))

  pub sound_small : {c n : ℕ} → Soundness s c n → SmallNumber c n
  sound_small (Soundness.unreadable e) = (refused_small s e, omega arith)
  sound_small (Soundness.done e v) = omega (arith, verdict_small v)

  pub blank_small : {c n : ℕ} {b : List ℕ} → BlankForm s c n b → SmallNumber c n
  blank_small (BlankForm.unreadable e) = (refused_small s e, omega arith)
  blank_small (BlankForm.done {t} e) = omega (arith, distinct_few t (read_fits s B e))

  pub listing_small : {c n : ℕ} {row b : List ℕ} → UndoListing s row c n b → SmallNumber c n
  listing_small (UndoListing.unreadable e) = (refused_small s e, omega arith)
  listing_small (UndoListing.done {t} {l} e o f) = filled_small (listed_few _ t l (read_fits s B e) o (λ k h w. has_in k t h (present w.2))) f

  pub waiting_small : {m c n : ℕ} {row b : List ℕ} → WaitingList s m row c n b → SmallNumber c n
  waiting_small (WaitingList.unreadable e) = (refused_small s e, omega arith)
  waiting_small (WaitingList.key_zero e z) = omega arith
  waiting_small (WaitingList.key_absent e h k) = omega arith
  waiting_small {m} (WaitingList.done {t} {l} e h i o f) = filled_small (listed_few _ t l (read_fits s B e) o (waits_key t m)) f

  pub first_small : {p q c n p' q' l : ℕ} → FirstStep s p q c n p' q' l → SmallFirst c n p' q' l
  first_small (FirstStep.unreadable e) = let h = refused_small s e in omega arith
  first_small (FirstStep.none e f) = omega arith
  first_small (FirstStep.found {t} {p'} {q'} e f) =
      let w = f.step in let i = read_fits s B e in let h = place_bound t w.0 p' q' w.2.0 in
      omega (arith, h, i.nodes, forward_byte i.range w.2.0.2, w.2.1)

  pub take_small : {m c n : ℕ} {row b row' : List ℕ} → TakeBack s m row c n b row' → SmallNumber c n
  take_small (TakeBack.unreadable e) = (refused_small s e, omega arith)
  take_small (TakeBack.key_zero e z) = omega arith
  take_small (TakeBack.not_sound e h v z) = omega arith
  take_small (TakeBack.key_absent e h v k) = omega arith
  take_small (TakeBack.short l e h v k o g) = omega arith
  take_small (TakeBack.done {t} e h v k i g) = omega (arith, turn_few i, distinct_few t (read_fits s B e))
