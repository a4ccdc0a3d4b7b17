-- The first node of what lies ahead: its byte of kind, its body, its children.
use mathlib.Core.Path.{◌≡◌, refl, ap, sym, ◌∙◌}
use mathlib.Core.List.{List, [], ◌∷◌, ◌++◌, append_assoc}
use Prim.Native.Nat.{ℕ, suc, ◌+◌, ◌-◌, ◌<◌, ◌≤◌}
use native.Mathlib.Omega.{arith}
use native.Mathlib.Nat.{add-zero}
use borrow.Author.Tests.{ne_eqb, le-leb}
use lib.ListN.{length, take, drop, get_or, length-drop}
use lib.Seq.{get_or-drop, drop-drop, take-append_seam, drop-append_seam}
use Rattle.ccsk.specs.Term.{Term, nil, pre, cho, par, res}
use Rattle.format.specs.Read.{Reading, term, kind_of, node}
use Rattle.format.specs.Encode.{high, low, encode, depth, InRange}
use Rattle.format.specs.Preorder.{shown, preorder}
use Rattle.reader.specs.Head.{body, count_of_children, NodeAt, NoNodeAt}
use Rattle.reader.specs.Due.{push}
use Rattle.cursor.specs.Ahead.{Due, due, count, bytes_of, nodes_of, depths_of, Held}

-- kind and body of a term's root
unfoldable pub kind_no : Term → ℕ
kind_no nil = 0
kind_no (pre a k t) = 1
kind_no (cho t u) = 2
kind_no (par t u) = 3
kind_no (res a t) = 4

unfoldable pub body_of : Term → List ℕ
body_of nil = []
body_of (pre a k t) = a ∷ (high k ∷ (low k ∷ []))
body_of (cho t u) = []
body_of (par t u) = []
body_of (res a t) = a ∷ []

-- what is due after the root, which has the depth d
unfoldable pub behind : ℕ → Term → Due → Due
behind d nil w = w
behind d (pre a k t) w = due (suc d) t w
behind d (cho t u) w = due (suc d) t (due (suc d) u w)
behind d (par t u) w = due (suc d) t (due (suc d) u w)
behind d (res a t) w = due (suc d) t w

pub body-length : (t : Term) → length (body_of t) ≡ body (kind_no t)
unfolding body_of kind_no
body-length nil = refl
body-length (pre a k t) = refl
body-length (cho t u) = refl
body-length (par t u) = refl
body-length (res a t) = refl

pub bytes_front : (d : ℕ) (t : Term) (w : Due) → bytes_of (due d t w) ≡ kind_no t ∷ (body_of t ++ bytes_of (behind d t w))
unfolding bytes_of body_of kind_no behind encode
bytes_front d nil w = refl
bytes_front d (pre a k t) w = refl
bytes_front d (cho t u) w = rw append_assoc
bytes_front d (par t u) w = rw append_assoc
bytes_front d (res a t) w = refl

pub nodes_front : (d : ℕ) (t : Term) (w : Due) → nodes_of (due d t w) ≡ shown (kind_no t) (body_of t) d ∷ nodes_of (behind d t w)
unfolding nodes_of body_of kind_no behind preorder
nodes_front d nil w = refl
nodes_front d (pre a k t) w = refl
nodes_front d (cho t u) w = rw append_assoc
nodes_front d (par t u) w = rw append_assoc
nodes_front d (res a t) w = refl

pub depths_front : (d : ℕ) (t : Term) (w : Due) → depths_of (behind d t w) ≡ push (count_of_children (kind_no t)) (suc d) (depths_of w)
unfolding depths_of kind_no behind push
depths_front d nil w = refl
depths_front d (pre a k t) w = refl
depths_front d (cho t u) w = refl
depths_front d (par t u) w = refl
depths_front d (res a t) w = refl

pub children_most : (t : Term) → count_of_children (kind_no t) ≤ 2
unfolding kind_no
children_most nil = omega arith
children_most (pre a k t) = omega arith
children_most (cho t u) = omega arith
children_most (par t u) = omega arith
children_most (res a t) = omega arith

pub depth_pos : (t : Term) → 0 < depth t
unfolding depth
depth_pos nil = omega arith
depth_pos (pre a k t) = omega arith
depth_pos (cho t u) = omega arith
depth_pos (par t u) = omega arith
depth_pos (res a t) = omega arith

pub held_front : (d : ℕ) (t : Term) (w : Due) → Held (due d t w) → Held (behind d t w)
unfolding behind depth count
held_front d nil w h = h.3
held_front d (pre a k t) w h = (omega (arith, h.0), omega (arith, h.1), h.2.3, h.3)
held_front d (cho t u) w h = (omega (arith, h.0), omega (arith, h.1), h.2.0, (omega (arith, h.0), omega (arith, h.1), h.2.1, h.3))
held_front d (par t u) w h = (omega (arith, h.0), omega (arith, h.1), h.2.0, (omega (arith, h.0), omega (arith, h.1), h.2.1, h.3))
held_front d (res a t) w h = (omega (arith, h.0), omega (arith, h.1), h.2.1, h.3)

-- a node with a child is not at the last level
pub child_deep : (d : ℕ) (t : Term) (w : Due) → Held (due d t w) → (count_of_children (kind_no t) ≡ 0 → ⊥) → d < 256
unfolding kind_no depth
child_deep d nil w h c = absurd (c refl)
child_deep d (pre a k t) w h c = omega (arith, h.1, depth_pos t)
child_deep d (cho t u) w h c = omega (arith, h.1, depth_pos t)
child_deep d (par t u) w h c = omega (arith, h.1, depth_pos t)
child_deep d (res a t) w h c = omega (arith, h.1, depth_pos t)

-- the root of a term in range is a good node
no_refusal : {t : Term} {s : List ℕ} {k : ℕ} → term t s k ≡ Reading.refused 1 → ⊥
no_refusal e = let z : ◌≡◌ {A = ℕ} 0 1 = cc in absurd (omega arith)

front_good : (t : Term) (s : List ℕ) → InRange t → ((r : ℕ → List ℕ → Reading) (k : ℕ) → node (kind_of (kind_no t)) r k (body_of t ++ s) ≡ Reading.refused 1) → ⊥
unfolding kind_no body_of kind_of node
front_good nil s g h = no_refusal (h (λ k s. term nil s k) 0)
front_good (pre a m t) s g h = no_refusal (rw (ne_eqb a 128 g.1) at (h (λ k s. term nil s k) 0))
front_good (cho t u) s g h = no_refusal (h (λ k s. term nil s k) 0)
front_good (par t u) s g h = no_refusal (h (λ k s. term nil s k) 0)
front_good (res a t) s g h = no_refusal (rw (le-leb 1 a g.0.0, le-leb a 127 g.0.1) at (h (λ k s. term nil s k) 0))

-- the same at the place `at` of the bytes
module _ (s : List ℕ) (at d : ℕ) (t : Term) (w : Due) (e : drop at s ≡ bytes_of (due d t w)) where
  front : drop at s ≡ kind_no t ∷ (body_of t ++ bytes_of (behind d t w))
  front = e ∙ bytes_front d t w

  pub inside : at < length s
  inside = omega (arith, length-drop at s, ap length front)

  kind_byte : get_or s at 0 ≡ kind_no t
  kind_byte = let p : get_or (drop at s) 0 0 ≡ get_or s at 0 = get_or-drop at s 0 0 ∙ rw add-zero in sym p ∙ rw front

  after_kind : drop (at + 1) s ≡ body_of t ++ bytes_of (behind d t w)
  after_kind = sym (drop-drop 1 at s) ∙ rw front

  after_body : drop (at + 1 + body (kind_no t)) s ≡ bytes_of (behind d t w)
  after_body = sym (drop-drop (body (kind_no t)) (at + 1) s) ∙ rw (after_kind, ← body-length t) (drop-append_seam (body_of t) (bytes_of (behind d t w)))

  body_bytes : take (body (kind_no t)) (drop (at + 1) s) ≡ body_of t
  body_bytes = rw (after_kind, ← body-length t) (take-append_seam (body_of t) (bytes_of (behind d t w)))

  pub good_node : InRange t → NoNodeAt s at → ⊥
  good_node g h = front_good t (bytes_of (behind d t w)) g (rw (kind_byte, after_kind) at h)

  module _ (kind children next : ℕ) (H : NodeAt s at kind children next) where
    pub kind_is : kind ≡ kind_no t
    kind_is = H.byte ∙ kind_byte

    pub children_are : children ≡ count_of_children (kind_no t)
    children_are = H.count ∙ ap count_of_children kind_is

    next_is : next ≡ at + 1 + body (kind_no t)
    next_is = H.ends ∙ rw kind_is

    pub bytes_after : drop next s ≡ bytes_of (behind d t w)
    bytes_after = rw next_is after_body

    pub body_is : take (next - (at + 1)) (drop (at + 1) s) ≡ body_of t
    body_is = let l : next - (at + 1) ≡ body (kind_no t) = omega (arith, next_is) in rw l body_bytes
