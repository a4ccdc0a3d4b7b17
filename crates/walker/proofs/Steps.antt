-- What is shown after n steps from the first node is node n.
use mathlib.Core.Path.{◌≡◌, subst, sym, ◌∙◌}
use mathlib.Core.List.{List}
use Rattle.std.specs.Prelude.{Option}
use Prim.Native.Nat.{ℕ, ◌+◌, ◌≤◌}
use native.Mathlib.Omega.{arith}
use native.Mathlib.Decide.{dec_le}
use lib.ListN.{length, take, drop, drop_of_length-le}
use lib.Seq.{drop-nil}
use Rattle.ccsk.specs.Term.{Term, size}
use Rattle.format.specs.Preorder.{preorder}
use Rattle.cursor.specs.declared.Cursor.{Cursor}
use Rattle.cursor.specs.declared.Shown.{Shown}
use Rattle.cursor.specs.At.{CursorAt, Bears, Opens, Shows, showing}
use Rattle.cursor.proofs.Steps.{preorder-length}
use Rattle.walker.specs.Shown.{NodeShown, GoesOn}

module _ (s : List ℕ) (c d : Cursor) (n : ℕ) (r : Option Shown) (G : GoesOn s c n d) (S : Shows s d r) where
  zero-add : 0 + n ≡ n
  zero-add = omega arith

  of_term : (t : Term) → CursorAt s t 0 c → Dec (n ≤ size t) → showing s r ≡ take 1 (drop n (preorder 1 t))
  of_term t C (yes m) = S.node t n (subst (λ (i : ℕ). CursorAt s t i d) zero-add (G.on t 0 C (omega (arith, m))))
  of_term t C (no m) = let a : length (preorder 1 t) ≤ size t = omega (arith, preorder-length 1 t) in let b : length (preorder 1 t) ≤ n = omega (arith, m, preorder-length 1 t) in
      S.node t (size t) (G.ends t 0 C (omega (arith, m))) ∙ rw (drop_of_length-le (preorder 1 t) a, drop_of_length-le (preorder 1 t) b)

  pub shown_after : Opens s c → NodeShown s n r
  shown_after (Opens.refused {k} e b) = S.refused k (subst (Bears k) (sym (G.refused k b)) b) ∙ rw (e, drop-nil n)
  shown_after (Opens.standing {t} C) = of_term t C (dec_le n (size t)) ∙ rw C.reads
