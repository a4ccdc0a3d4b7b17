-- The walk's answer: what the entry answers of a record that is refused, and of one that is read.
use mathlib.Core.Path.{◌≡◌, ◌∙◌}
use mathlib.Core.List.{List}
use Prim.Native.Nat.{ℕ}
use lib.ListN.{take, drop}
use Rattle.std.specs.Prelude.{Option}
use Rattle.format.specs.Preorder.{preorder}
use Rattle.operations.specs.Ask.{ReadRecord, ShownNode}
use Rattle.reader.proofs.Whole.{record_refused, record_reads}
use Rattle.cursor.specs.declared.Shown.{Shown}
use Rattle.cursor.specs.At.{showing}
use Rattle.walker.specs.Shown.{NodeShown}
use Rattle.packing.specs.Packed.{answer, node_answer, PackedNode, PackedNode.packed}

module _ (s : List ℕ) (n : ℕ) where
  pub node_refused : (c x : ℕ) → ReadRecord s c 0 → x ≡ answer c 0 0 0 0 → PackedNode (ShownNode s n) x
  node_refused c x R g = rw g (packed (ShownNode.unreadable (record_refused s c R)))

  pub node_shown : (k x : ℕ) (r : Option Shown) → ReadRecord s 0 k → NodeShown s n r → x ≡ node_answer 0 (showing s r) → PackedNode (ShownNode s n) x
  node_shown k x r R h g = let t = record_reads s k R in let i : showing s r ≡ take 1 (drop n (preorder 1 t.0)) = h ∙ rw t.1 in
      rw (g, i) (packed (ShownNode.done t.1))
