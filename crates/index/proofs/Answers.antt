-- The part at the root of the rows.
use native.Mathlib.Omega.{arith}
use Prim.Native.Nat.{ℕ}
use Rattle.ccsk.specs.Term.{Term}
use Rattle.index.specs.declared.Rows.{Rows}
use Rattle.index.specs.Whole.{RowsOf, PartAt}

-- the whole term is the part that begins at node 0
pub rows_part : {t : Term} {n : ℕ} {R : Rows} → RowsOf t n R → PartAt R 0 t
rows_part W = record { lines = W.lines; range = W.fits.range; nodes = omega (arith, W.fits.nodes) }
