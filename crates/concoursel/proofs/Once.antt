-- Each entry's promise leaves room for one answer, and for one record and row afterwards.
use mathlib.Core.Path.{◌≡◌}
use mathlib.Core.List.{List}
use Prim.Native.Nat.{ℕ}
use Rattle.operations.specs.Change.{ForwardStep, UndoStep, BlankForm}
use Rattle.operations.specs.Ask.{ReadRecord, ShownNode, KeyCount, FreeKey, FirstStep, UndoListing, WaitingList, Soundness}
use Rattle.operations.proofs.ChangeOnce.{forward_once, undo_step_once, blank_once}
use Rattle.operations.proofs.NumberOnce.{read_once, node_once, count_once, free_once, sound_once}
use Rattle.operations.proofs.RowOnce.{listing_once, waiting_once}
use Rattle.operations.specs.TakeBack.{TakeBack}
use Rattle.operations.proofs.FirstOnce.{first_once}
use Rattle.operations.proofs.TakeBackOnce.{take_back_once}
use Rattle.packing.specs.Packed.{PackedStep, PackedNumber, PackedLent, PackedBoth, PackedFirst, PackedNode, PackedBoth.packed, PackedFirst.packed, PackedNode.packed}
use Rattle.packing.proofs.Packs.{packed_step_once, packed_number_once, packed_lent_once}

module _ (s : List ℕ) where
  pub forward_entry_once : {p q m r r' : ℕ} {b b' : List ℕ} → PackedStep (ForwardStep s p q m) r b → PackedStep (ForwardStep s p q m) r' b' → (r ≡ r') × (b ≡ b')
  forward_entry_once = packed_step_once (λ c c' n n' b b' f g. forward_once f g)

  pub undo_entry_once : {m r r' : ℕ} {b b' : List ℕ} → PackedStep (UndoStep s m) r b → PackedStep (UndoStep s m) r' b' → (r ≡ r') × (b ≡ b')
  undo_entry_once = packed_step_once (λ c c' n n' b b' f g. undo_step_once f g)

  pub read_entry_once : {r r' : ℕ} → PackedNumber (ReadRecord s) r → PackedNumber (ReadRecord s) r' → r ≡ r'
  read_entry_once = packed_number_once (λ c c' n n' f g. read_once f g)

  pub node_entry_once : {n r r' : ℕ} → PackedNode (ShownNode s n) r → PackedNode (ShownNode s n) r' → r ≡ r'
  node_entry_once (packed f) (packed g) = let e = node_once f g in rw (e.0, e.1)

  pub count_entry_once : {r r' : ℕ} → PackedNumber (KeyCount s) r → PackedNumber (KeyCount s) r' → r ≡ r'
  count_entry_once = packed_number_once (λ c c' n n' f g. count_once f g)

  pub least_free_entry_once : {r r' : ℕ} → PackedNumber (FreeKey s) r → PackedNumber (FreeKey s) r' → r ≡ r'
  least_free_entry_once = packed_number_once (λ c c' n n' f g. free_once f g)

  pub blank_entry_once : {r r' : ℕ} {b b' : List ℕ} → PackedLent (BlankForm s) r b → PackedLent (BlankForm s) r' b' → (r ≡ r') × (b ≡ b')
  blank_entry_once = packed_lent_once (λ c c' n n' b b' f g. blank_once f g)

  pub waiting_entry_once : {m r r' : ℕ} {row b b' : List ℕ} → PackedLent (WaitingList s m row) r b → PackedLent (WaitingList s m row) r' b' → (r ≡ r') × (b ≡ b')
  waiting_entry_once = packed_lent_once (λ c c' n n' b b' f g. waiting_once f g)

  pub take_back_entry_once : {m r r' : ℕ} {row b b' row₁ row₂ : List ℕ} → PackedBoth (TakeBack s m row) r b row₁ → PackedBoth (TakeBack s m row) r' b' row₂ → (r ≡ r') × (b ≡ b') × (row₁ ≡ row₂)
  take_back_entry_once (packed f) (packed g) = let e = take_back_once f g in (rw (e.0, e.1), e.2, e.3)

  pub first_entry_once : {p q r r' : ℕ} → PackedFirst (FirstStep s p q) r → PackedFirst (FirstStep s p q) r' → r ≡ r'
  first_entry_once (packed f) (packed g) = let e = first_once f g in rw (e.0, e.1, e.2, e.3, e.4)

  pub undo_listing_entry_once : {r r' : ℕ} {row b b' : List ℕ} → PackedLent (UndoListing s row) r b → PackedLent (UndoListing s row) r' b' → (r ≡ r') × (b ≡ b')
  undo_listing_entry_once = packed_lent_once (λ c c' n n' b b' f g. listing_once f g)

  pub verdict_entry_once : {r r' : ℕ} → PackedNumber (Soundness s) r → PackedNumber (Soundness s) r' → r ≡ r'
  verdict_entry_once = packed_number_once (λ c c' n n' f g. sound_once f g)
