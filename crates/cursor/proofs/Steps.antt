-- What lies ahead of a cursor, at its first node and after it.
use mathlib.Core.Path.{◌≡◌, refl, ap, sym, ◌∙◌}
use mathlib.Core.List.{List, [], ◌∷◌}
use Prim.Native.Nat.{ℕ, suc, ◌+◌, ◌-◌, ◌<◌, ◌≤◌}
use native.Mathlib.Omega.{arith}
use native.Mathlib.Numerals.{add-one}
use lib.ListN.{length, take, drop, get_or, set, length-set, length-append}
use Rattle.ccsk.specs.Term.{Term, nil, pre, cho, par, res, size}
use Rattle.format.specs.Preorder.{Shown, shown, preorder}
use Rattle.reader.specs.Head.{count_of_children, NodeAt, NoNodeAt}
use Rattle.reader.specs.Due.{stacked, push}
use Rattle.cursor.specs.Ahead.{Due, none, due, count, nodes_of, depths_of, Ahead}
use Rattle.cursor.proofs.Front.{kind_no, body_of, behind, nodes_front, depths_front, children_most, depth_pos, held_front, child_deep, inside, good_node, kind_is, children_are, bytes_after, body_is}
use Rattle.reader.proofs.Stack.{stacked-length, top_is, popped, replaced, doubled}

pub preorder-length : (d : ℕ) (t : Term) → length (preorder d t) ≡ size t
unfolding preorder size
preorder-length d nil = refl
preorder-length d (pre a k t) = ap suc (preorder-length (suc d) t)
preorder-length d (cho t u) = ap suc (length-append (preorder (suc d) t) (preorder (suc d) u) ∙ rw (preorder-length (suc d) t, preorder-length (suc d) u))
preorder-length d (par t u) = ap suc (length-append (preorder (suc d) t) (preorder (suc d) u) ∙ rw (preorder-length (suc d) t, preorder-length (suc d) u))
preorder-length d (res a t) = ap suc (preorder-length (suc d) t)

depths_length : (w : Due) → length (depths_of w) ≡ count w
unfolding depths_of count
depths_length none = refl
depths_length (due d t w) = ap suc (depths_length w)

module _ (s : List ℕ) (at : ℕ) (depths : List ℕ) (many : ℕ) (l : List Shown) where
  many_due : (w : Due) → Ahead s at depths many l w → many ≡ count w
  many_due w A = sym (stacked-length many depths) ∙ ap length A.stack ∙ depths_length w

  -- nothing is due
  pub nothing_ahead : (w : Due) → Ahead s at depths many l w → many ≡ 0 → l ≡ []
  unfolding nodes_of count
  nothing_ahead none A z = A.nodes
  nothing_ahead (due d t w) A z = absurd (omega (arith, many_due (due d t w) A))

  -- something is due
  pub something_ahead : (w : Due) → Ahead s at depths many l w → (many ≡ 0 → ⊥) → (d : ℕ) × (t : Term) × (w' : Due) × Ahead s at depths many l (due d t w')
  unfolding count
  something_ahead none A z = absurd (z (many_due none A))
  something_ahead (due d t w) A z = (d, t, w, A)

  module _ (d : ℕ) (t : Term) (w : Due) (A : Ahead s at depths many l (due d t w)) where
    pub ahead_inside : at < length s
    ahead_inside = inside s at d t w A.bytes

    pub ahead_few : many ≤ 256
    unfolding count
    ahead_few = omega (arith, many_due (due d t w) A, A.held.0, A.held.1, depth_pos t)

    pub ahead_good : NoNodeAt s at → ⊥
    ahead_good = good_node s at d t w A.bytes A.held.2

    pub ahead_some : l ≡ [] → ⊥
    ahead_some e = let z : ◌≡◌ {A = List Shown} (shown (kind_no t) (body_of t) d ∷ nodes_of (behind d t w)) [] = sym (A.nodes ∙ nodes_front d t w) ∙ e in
        omega (arith, ap length z)

    top : get_or depths (many - 1) 0 ≡ d
    unfolding depths_of
    top = top_is many depths d (depths_of w) A.stack

    module _ (kind children next : ℕ) (H : NodeAt s at kind children next) where
      pub ahead_shown : take 1 l ≡ shown kind (take (next - (at + 1)) (drop (at + 1) s)) (get_or depths (many - 1) 0) ∷ []
      ahead_shown = rw (A.nodes, nodes_front d t w, kind_is s at d t w A.bytes kind children next H, body_is s at d t w A.bytes kind children next H, top)

      childful : (children ≡ 0 → ⊥) → count_of_children (kind_no t) ≡ 0 → ⊥
      childful z e = z (children_are s at d t w A.bytes kind children next H ∙ e)

      pub ahead_deep : (children ≡ 0 → ⊥) → get_or depths (many - 1) 0 < 256
      ahead_deep z = rw top (child_deep d t w A.held (childful z))

      pub ahead_room : (children ≡ 0 → ⊥) → many < 256
      unfolding count
      ahead_room z = omega (arith, many_due (due d t w) A, A.held.0, child_deep d t w A.held (childful z))

      -- with its node gone and its children due
      after : (depths' : List ℕ) (many' : ℕ) → length depths' ≡ 256 → stacked many' depths' ≡ push children (suc d) (depths_of w) → Ahead s next depths' many' (drop 1 l) (behind d t w)
      after depths' many' r e = record {
        bytes = bytes_after s at d t w A.bytes kind children next H;
        nodes = rw (A.nodes, nodes_front d t w);
        stack = e ∙ rw (children_are s at d t w A.bytes kind children next H) (sym (depths_front d t w));
        held = held_front d t w A.held;
        room = r;
      }

      pub after_leaf : children ≡ 0 → Ahead s next depths (many - 1) (drop 1 l) (behind d t w)
      unfolding depths_of push
      after_leaf z = after depths (many - 1) A.room (rw z (popped many depths d (depths_of w) A.stack))

      pub after_one : children ≡ 1 → Ahead s next (set depths (many - 1) (get_or depths (many - 1) 0 + 1)) many (drop 1 l) (behind d t w)
      unfolding depths_of push
      after_one z = after _ many (length-set depths (many - 1) _ ∙ A.room)
          (rw (z, top, add-one d) (replaced many depths d (depths_of w) A.stack (suc d) (omega (arith, A.room, ahead_few))))

      pub after_two : (children ≡ 0 → ⊥) → (children ≡ 1 → ⊥)
          → Ahead s next (set (set depths (many - 1) (get_or depths (many - 1) 0 + 1)) many (get_or depths (many - 1) 0 + 1)) (many + 1) (drop 1 l) (behind d t w)
      unfolding depths_of push
      after_two z o = let two : children ≡ 2 = omega (arith, children_are s at d t w A.bytes kind children next H, children_most t) in after _ (many + 1) (simp length-set A.room)
          (rw (two, top, add-one d) (doubled many depths d (depths_of w) A.stack (suc d) (omega (arith, A.room, ahead_few)) (omega (arith, A.room, ahead_room z))))
