-- The laws of the pass in the terms of its code: p is the place of the child of the node at `here`, which is of kind k.
use mathlib.Core.Path.{◌≡◌, refl, subst, sym}
use mathlib.Core.Logic.{◌≢◌}
use mathlib.Core.List.{List}
use Prim.Native.Nat.{ℕ, ◌+◌, ◌-◌, ◌≤◌, ◌<◌, ◌%◌}
use native.Mathlib.Omega.{arith}
use lib.ListN.{length, get_or}
use Rattle.ccsk.specs.Term.{Key}
use Rattle.format.specs.Limits.{node_limit}
use Rattle.format.specs.Flat.{key_at}
use Rattle.reader.specs.declared.Kind.{Kind}
use Rattle.reader.specs.declared.Kind.TheVariants.{Nil, Prefix, Choice, Parallel, Restriction}
use Rattle.reader.specs.Kind.{byte_of, body_of}
use Rattle.lay.specs.declared.Place.{Place}
use Rattle.lay.specs.declared.Sheet.{Sheet}
use Rattle.lay.specs.Sheet.{noted}
use Rattle.lay.specs.Lay.{child, Ready, Lays}
use Rattle.lay.proofs.Places.{ready_inside, ready_kind, ready_ends, ready_key, ready_node, ready_row, ready_below, ready_marked}
use Rattle.lay.proofs.Laying.{Sized, ended, renearest, lays_nil, lays_unmarked, lays_marked, lays_restriction, ready_second, lays_two, laid_end}

-- the node at a place has a kind
pub known : (s : List ℕ) (here : Place) → Ready s here.at here.node here.row → (here.at < length s) × (get_or s here.at 0 ≤ 4)
known s here w = (ready_inside s here.at here.node here.row (get_or s here.at 0) refl w, ready_kind s here.at here.node here.row (get_or s here.at 0) refl w)

module _ (s : List ℕ) (here : Place) (w : Ready s here.at here.node here.row) (k : Kind) (hk : byte_of k ≡ get_or s here.at 0) where
  -- the node and its number have room
  pub whole_node : (here.at < length s) × (here.at + (1 + body_of k) ≤ length s) × (here.node + 1 < 65536)
  whole_node = (ready_inside s here.at here.node here.row (byte_of k) hk w, ready_ends s here.at here.node here.row (byte_of k) hk w, ready_node s here.at here.node here.row (byte_of k) hk w)

  pub key_inside : byte_of k ≡ 1 → here.at + 3 < length s
  key_inside = ready_key s here.at here.node here.row (byte_of k) hk w

  module _ (p : Place) (e : p ≡ child here k) where
    pub falls : length s - p.at < length s - here.at
    falls = rw e (omega (arith, whole_node))

    pub below_ready : byte_of k ≢ 0 → Ready s p.at p.node p.row
    below_ready z = rw e (ready_below s here.at here.node here.row (byte_of k) hk (body_of k) refl z w)

    pub small : p.node < 65536
    small = rw e whole_node.2

    pub laid_nil : byte_of k ≡ 0 → (up : Key) (x : Sheet) → Lays s here.at here.node here.row up x p x
    laid_nil z up x = subst (λ (v : Place). Lays s here.at here.node here.row up x v x) (sym e) (lays_nil s here.at here.node here.row (byte_of k) hk (body_of k) refl up x z)

    -- the child is laid out
    at_row : (up : Key) (x : Sheet) (r : Place) (y : Sheet) → Lays s p.at p.node p.row up x r y → Lays s (here.at + (1 + body_of k)) (here.node + 1) here.row up x r y
    at_row up x r y L = subst (λ (v : Place). Lays s v.at v.node v.row up x r y) e L

    module _ (key : ℕ) (q : byte_of k ≡ 1) (ek : key ≡ key_at s here.at) (up : Key) (x : Sheet) where
      pub laid_unmarked : key ≡ 0 → (r : Place) (y : Sheet) → Lays s p.at p.node p.row up x r y → Lays s here.at here.node here.row up x r y
      laid_unmarked z r y L = lays_unmarked s here.at here.node here.row (byte_of k) hk (body_of k) refl up x key ek q z r y (at_row up x r y L)

      module _ (z : key ≢ 0) where
        -- a row for the key
        pub key_row : p.row < node_limit
        key_row = rw e (ready_row s here.at here.node here.row (byte_of k) hk w key q ek z)

        pub marked_ready : Ready s p.at p.node (p.row + 1)
        marked_ready = subst (λ (v : Place). Ready s v.at v.node (v.row + 1)) (sym e) (ready_marked s here.at here.node here.row (byte_of k) hk (body_of k) refl key q ek z w)

        -- the rows are few, whatever key is above
        pub few : (above : Key) (x' : Sheet) (r : Place) (y : Sheet) → Lays s p.at p.node (p.row + 1) above x' r y → r.row ≤ node_limit
        few above x' r y L = laid_end s p.at p.node (p.row + 1) above x' r y marked_ready L

        module _ (x' : Sheet) (f : x' ≡ noted x p.row key (get_or s (here.at + 1) 0) up) (r : Place) (y : Sheet) (L : Lays s p.at p.node (p.row + 1) key x' r y) where
          pub laid_marked : Sized x → Lays s here.at here.node here.row up x r (ended y p.row r.row)
          laid_marked W = subst (λ (v : Place). Lays s v.at v.node (v.row + 1) key (noted x v.row key (get_or s (here.at + 1) 0) up) r y → Lays s here.at here.node here.row up x r (ended y v.row r.row)) (sym e)
              (lays_marked s here.at here.node here.row (byte_of k) hk (body_of k) refl up x key ek q z W (get_or s (here.at + 1) 0) refl r y)
              (subst (λ (v : Sheet). Lays s p.at p.node (p.row + 1) key v r y) f L)

    -- a restriction is opened, and closed after its child
    pub laid_restriction : byte_of k ≡ 4 → (up : Key) (x : Sheet) → Sized x → (a : ℕ) → a ≡ get_or s (here.at + 1) 0 % 128 → (r : Place) (y : Sheet)
        → Lays s p.at p.node p.row up (renearest x a p.node) r y → Lays s here.at here.node here.row up x r (renearest y a (get_or x.nearest a 0))
    laid_restriction q up x W a ea r y L = lays_restriction s here.at here.node here.row (byte_of k) hk (body_of k) refl up x q W a ea (get_or x.nearest a 0) refl r y
        (subst (λ (v : Place). Lays s v.at v.node v.row up (renearest x a v.node) r y) e L)

    -- the two sides, one after the other
    module _ (up : Key) (x : Sheet) (r : Place) (y : Sheet) (L : Lays s p.at p.node p.row up x r y) (a : byte_of k ≢ 1) (b : byte_of k ≢ 4) (c : byte_of k ≢ 0) where
      pub second : Ready s r.at r.node r.row × (here.at < r.at)
      second = ready_second s here.at here.node here.row (byte_of k) hk (body_of k) refl up x r y (at_row up x r y L) a b c w

      pub second_falls : length s - r.at < length s - here.at
      second_falls = let z = second in omega (arith, whole_node, z.1)

      pub laid_two : (r₂ : Place) (y₂ : Sheet) → Lays s r.at r.node r.row up y r₂ y₂ → Lays s here.at here.node here.row up x r₂ y₂
      laid_two r₂ y₂ M = lays_two s here.at here.node here.row (byte_of k) hk (body_of k) refl up x r y (at_row up x r y L) a b c r₂ y₂ M

-- a kind that is none of three
pub two_sides : (k : Kind) → k ≢ Nil → k ≢ Prefix → k ≢ Restriction → (byte_of k ≢ 1) × (byte_of k ≢ 4) × (byte_of k ≢ 0)
two_sides Nil a b c = absurd (a refl)
two_sides Prefix a b c = absurd (b refl)
two_sides Choice a b c = (λ e. absurd (omega arith), λ e. absurd (omega arith), λ e. absurd (omega arith))
two_sides Parallel a b c = (λ e. absurd (omega arith), λ e. absurd (omega arith), λ e. absurd (omega arith))
two_sides Restriction a b c = absurd (c refl)
