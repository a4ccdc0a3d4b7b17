-- The term at a place of a record: what its bytes tell of its root, and where its children stand.
use mathlib.Core.Path.{◌≡◌, sym, ap, subst, ◌∙◌}
use mathlib.Core.Logic.{◌≢◌}
use mathlib.Core.List.{List, ◌∷◌, ◌++◌}
use Prim.Native.Nat.{ℕ, zero, suc, ◌+◌, ◌≤◌, ◌<◌}
use native.Mathlib.Decide.{dec_lt}
use native.Mathlib.Omega.{arith}
use lib.ListN.{length, get_or, drop}
use lib.Seq.{get_or-drop, drop-drop, drop-append_seam}
use Rattle.ccsk.specs.Term.{Term, nil, pre, cho, par, res, size}
use Rattle.format.specs.Limits.{node_limit}
use Rattle.format.specs.Encode.{encode}
use Rattle.format.specs.Kinds.{length_of_body}
use Rattle.format.specs.Flat.{encodes, after, head_kind, head_key, Due, key_at}
use Rattle.format.proofs.Flat.{none_due, key_here, kind_here, kind_known, ends_within, due_after}
use Rattle.causes.specs.Entry.{marked}
use Rattle.lay.specs.Lay.{Here, Ready}

pub inside : (s : List ℕ) (at : ℕ) (t : Term) (ts : List Term) → Due s at (t ∷ ts) → at < length s
inside s at t ts d = pick (dec_lt at (length s))
  where
    pick : Dec (at < length s) → at < length s
    pick (yes h) = h
    pick (no h) = absurd (omega (arith, ap length (none_due s at (t ∷ ts) (omega arith) d)))

-- past the term stand those that follow it
pub due_past : (s : List ℕ) (at : ℕ) (t : Term) (ts : List Term) → Due s at (t ∷ ts) → Due s (at + length (encode t)) ts
unfolding encodes
due_past s at t ts d = sym (drop-drop (length (encode t)) at s) ∙ ap (drop (length (encode t))) d ∙ drop-append_seam (encode t) (encodes ts)

-- the byte after a root that is a prefix or a restriction
byte_after_lem : (s : List ℕ) (at : ℕ) (l : List ℕ) → drop at s ≡ l → get_or s (at + 1) 0 ≡ get_or l 1 0
byte_after_lem s at l e = sym (get_or-drop at s 1 0) ∙ ap (λ (x : List ℕ). get_or x 1 0) e

pub action_after : (s : List ℕ) (at a k : ℕ) (t : Term) (ts : List Term) → Due s at (pre a k t ∷ ts) → get_or s (at + 1) 0 ≡ a
unfolding encodes encode
action_after s at a k t ts d = byte_after_lem s at (encode (pre a k t) ++ encodes ts) d

pub name_after : (s : List ℕ) (at a : ℕ) (t : Term) (ts : List Term) → Due s at (res a t ∷ ts) → get_or s (at + 1) 0 ≡ a
unfolding encodes encode
name_after s at a t ts d = byte_after_lem s at (encode (res a t) ++ encodes ts) d

module _ (s : List ℕ) (at node row kind : ℕ) (hk : kind ≡ get_or s at 0) where
  pub root_kind : (t : Term) (ts : List Term) → Due s at (t ∷ ts) → kind ≡ head_kind (t ∷ ts)
  root_kind t ts d = hk ∙ kind_here s at (t ∷ ts) d (inside s at t ts d)

  pub root_key : (t : Term) (ts : List Term) → Due s at (t ∷ ts) → key_at s at ≡ head_key (t ∷ ts)
  root_key t ts d = key_here s at (t ∷ ts) d (inside s at t ts d)

  -- what the pass asks for at a place
  module _ (w : Ready s at node row) where
    due : Due s at (w.0 ∷ w.1)
    due = w.2.due

    pub ready_inside : at < length s
    ready_inside = inside s at w.0 w.1 due

    pub ready_kind : kind ≤ 4
    ready_kind = omega (arith, kind_known s at (w.0 ∷ w.1) due ready_inside kind hk)

    pub ready_ends : at + (1 + length_of_body kind) ≤ length s
    ready_ends = ends_within s at (w.0 ∷ w.1) due ready_inside kind hk

    pub ready_key : kind ≡ 1 → at + 3 < length s
    ready_key q = omega (arith, subst (λ (m : ℕ). at + (1 + length_of_body m) ≤ length s) q ready_ends)

    pub ready_node : node + 1 < 65536
    unfolding size
    ready_node = few w.0 w.2.few
      where
        few : (t : Term) → node + size t < 65536 → node + 1 < 65536
        few nil h = omega arith
        few (pre a k t) h = omega arith
        few (cho t u) h = omega arith
        few (par t u) h = omega arith
        few (res a t) h = omega arith

    pub ready_row : (key : ℕ) → kind ≡ 1 → key ≡ key_at s at → key ≢ 0 → row < node_limit
    unfolding head_kind head_key marked
    ready_row key q e z = room w.0 (root_kind w.0 w.1 due) (root_key w.0 w.1 due) w.2.room
      where
        room : (t : Term) → kind ≡ head_kind (t ∷ w.1) → key_at s at ≡ head_key (t ∷ w.1) → row + marked t ≤ node_limit → row < node_limit
        room nil a b h = absurd (omega arith)
        room (pre l zero t) a b h = absurd (z (e ∙ b))
        room (pre l (suc k) t) a b h = omega arith
        room (cho t u) a b h = absurd (omega arith)
        room (par t u) a b h = absurd (omega arith)
        room (res l t) a b h = absurd (omega arith)

  module _ (b : ℕ) (hb : b ≡ length_of_body kind) where
    -- where the body ends the children stand
    pub due_below : (t : Term) (ts : List Term) → Due s at (t ∷ ts) → Due s (at + (1 + b)) (after (t ∷ ts))
    due_below t ts d = rw hb (due_after s at (t ∷ ts) d (inside s at t ts d) kind hk)

    pub body_of : (m : ℕ) → kind ≡ m → b ≡ length_of_body m
    body_of m q = hb ∙ ap length_of_body q

    pub here_prefix : (a k : ℕ) (t : Term) (ts : List Term) → Here s at node row (pre a k t) ts → Here s (at + (1 + b)) (node + 1) row t ts
    unfolding after size marked
    here_prefix a zero t ts h = record { due = due_below (pre a zero t) ts h.due; range = h.range.3; few = omega (arith, h.few); room = h.room }
    here_prefix a (suc k) t ts h = record { due = due_below (pre a (suc k) t) ts h.due; range = h.range.3; few = omega (arith, h.few); room = omega (arith, h.room) }

    pub here_marked : (a k : ℕ) (t : Term) (ts : List Term) → Here s at node row (pre a (suc k) t) ts → Here s (at + (1 + b)) (node + 1) (row + 1) t ts
    unfolding after size marked
    here_marked a k t ts h = record { due = due_below (pre a (suc k) t) ts h.due; range = h.range.3; few = omega (arith, h.few); room = omega (arith, h.room) }

    pub here_restriction : (a : ℕ) (t : Term) (ts : List Term) → Here s at node row (res a t) ts → Here s (at + (1 + b)) (node + 1) row t ts
    unfolding after size marked
    here_restriction a t ts h = record { due = due_below (res a t) ts h.due; range = h.range.1; few = omega (arith, h.few); room = h.room }

    pub here_choice : (t u : Term) (ts : List Term) → Here s at node row (cho t u) ts → Here s (at + (1 + b)) (node + 1) row t (u ∷ ts)
    unfolding after size marked
    here_choice t u ts h = record { due = due_below (cho t u) ts h.due; range = h.range.0; few = omega (arith, h.few); room = omega (arith, h.room) }

    pub here_parallel : (t u : Term) (ts : List Term) → Here s at node row (par t u) ts → Here s (at + (1 + b)) (node + 1) row t (u ∷ ts)
    unfolding after size marked
    here_parallel t u ts h = record { due = due_below (par t u) ts h.due; range = h.range.0; few = omega (arith, h.few); room = omega (arith, h.room) }

    -- the pass may go on below
    pub ready_below : kind ≢ 0 → Ready s at node row → Ready s (at + (1 + b)) (node + 1) row
    unfolding head_kind
    ready_below z (nil, ts, h) = absurd (z (root_kind nil ts h.due))
    ready_below z (pre a k t, ts, h) = (t, ts, here_prefix a k t ts h)
    ready_below z (cho t u, ts, h) = (t, u ∷ ts, here_choice t u ts h)
    ready_below z (par t u, ts, h) = (t, u ∷ ts, here_parallel t u ts h)
    ready_below z (res a t, ts, h) = (t, ts, here_restriction a t ts h)

    pub ready_marked : (key : ℕ) → kind ≡ 1 → key ≡ key_at s at → key ≢ 0 → Ready s at node row → Ready s (at + (1 + b)) (node + 1) (row + 1)
    unfolding head_kind head_key
    ready_marked key q e z (nil, ts, h) = absurd (omega (arith, root_kind nil ts h.due))
    ready_marked key q e z (pre a zero t, ts, h) = absurd (z (e ∙ root_key (pre a zero t) ts h.due))
    ready_marked key q e z (pre a (suc k) t, ts, h) = (t, ts, here_marked a k t ts h)
    ready_marked key q e z (cho t u, ts, h) = absurd (omega (arith, root_kind (cho t u) ts h.due))
    ready_marked key q e z (par t u, ts, h) = absurd (omega (arith, root_kind (par t u) ts h.due))
    ready_marked key q e z (res a t, ts, h) = absurd (omega (arith, root_kind (res a t) ts h.due))
