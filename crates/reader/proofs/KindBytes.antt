-- The kinds of a node and their bytes: each kind has its own, none above 4.
use mathlib.Core.Path.{◌≡◌, refl, ap, sym, ◌∙◌}
use Prim.Native.Nat.{ℕ, zero, suc, ◌≤◌}
use native.Mathlib.Omega.{arith}
use Rattle.reader.specs.declared.Kind.{Kind}
use Rattle.reader.specs.declared.Kind.TheVariants.{Nil, Prefix, Choice, Parallel, Restriction}
use Rattle.reader.specs.Kind.{byte_of}

-- no byte is above 4
pub byte_known : (k : Kind) → byte_of k ≤ 4
byte_known Nil = omega arith
byte_known Prefix = omega arith
byte_known Choice = omega arith
byte_known Parallel = omega arith
byte_known Restriction = omega arith

-- the kind with a byte
unfoldable with_byte : ℕ → Kind
with_byte zero = Nil
with_byte (suc zero) = Prefix
with_byte (suc (suc zero)) = Choice
with_byte (suc (suc (suc zero))) = Parallel
with_byte (suc (suc (suc (suc b)))) = Restriction

with_byte_of : (k : Kind) → with_byte (byte_of k) ≡ k
unfolding with_byte
with_byte_of Nil = refl
with_byte_of Prefix = refl
with_byte_of Choice = refl
with_byte_of Parallel = refl
with_byte_of Restriction = refl

-- kinds with the same byte are the same
pub byte_once : (k l : Kind) → byte_of k ≡ byte_of l → k ≡ l
byte_once k l e = sym (with_byte_of k) ∙ ap with_byte e ∙ with_byte_of l
