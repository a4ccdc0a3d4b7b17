-- The key of the node at a place, by its bytes, the bytes with that key cleared, and the node's end.
use mathlib.Core.Path.{◌≡◌, refl, ap, subst, ◌∙◌}
use mathlib.Core.List.{List}
use Prim.Native.Nat.{ℕ, ◌+◌, ◌≤◌, ◌<◌}
use native.Mathlib.Omega.{arith}
use lib.ListN.{length, get_or}
use Rattle.ccsk.specs.Term.{Term}
use Rattle.format.specs.Flat.{Due}
use Rattle.format.specs.Kinds.{length_of_body}
use Rattle.format.proofs.Flat.{kind_known, ends_within}
use Rattle.keys.specs.Gather.{end_at, Within}

-- a node of a record that is due is there
pub due_within : (s : List ℕ) (at : ℕ) → at < length s → (ts : List Term) → Due s at ts → Within s at
due_within s at h ts d = (omega (arith, kind_known s at ts d h (get_or s at 0) refl), ends_within s at ts d h (get_or s at 0) refl)

module _ (s : List ℕ) (at : ℕ) (w : Within s at) where
  pub inside : at < length s
  inside = omega (arith, w.1)

  pub key_inside : get_or s at 0 ≡ 1 → at + 3 < length s
  key_inside e = omega (arith, subst (λ (b : ℕ). at + (1 + length_of_body b) ≤ length s) e w.1)

-- the end of a node of kind b, whose body has n bytes
pub ends : (s : List ℕ) (at b n : ℕ) → b ≡ get_or s at 0 → n ≡ length_of_body b → at + (1 + n) ≡ end_at s at
ends s at b n e q = ap (λ (m : ℕ). at + (1 + m)) (q ∙ ap length_of_body e)
