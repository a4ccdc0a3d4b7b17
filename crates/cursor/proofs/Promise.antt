-- The promises of the cursor's functions, a law for each return.
use mathlib.Core.Path.{◌≡◌, refl, ap, sym, ◌∙◌}
use mathlib.Core.List.{List, append-nil}
use Prim.Native.Nat.{ℕ, ◌+◌, ◌-◌, ◌<◌, ◌≤◌}
use native.Mathlib.Omega.{arith}
use native.Mathlib.Numerals.{add-one}
use lib.ListN.{length, drop, get_or, set, length-drop, drop_of_length-le}
use lib.Seq.{drop-drop}
use Rattle.ccsk.specs.Term.{Term, size}
use Rattle.format.specs.Read.{Reads, Refuses}
use Rattle.format.specs.Encode.{encode, Bytes}
use Rattle.format.specs.Preorder.{preorder}
use Rattle.format.proofs.Unique.{encode-decode}
use Rattle.reader.specs.Head.{NoNodeAt, Headed}
use Rattle.std.specs.Prelude.{None, Some, Result, Ok, Err}
use Rattle.std.specs.Result.{result_ok}
use Rattle.shared.specs.declared.Refusal.{Refusal}
use Rattle.reader.specs.declared.Head.{Head}
use Rattle.reader.specs.declared.Kind.{Kind}
use Rattle.reader.specs.Kind.{byte_of}
use Rattle.cursor.specs.declared.Cursor.{Cursor}
use Rattle.cursor.specs.Ahead.{Due, none, due, count, bytes_of, nodes_of, depths_of, Ahead}
use Rattle.cursor.specs.At.{borne, CursorAt, Opens, Shows, Goes, Idle, Ready, DueAt, Made}
use Rattle.cursor.proofs.Steps.{preorder-length, nothing_ahead, something_ahead, ahead_inside, ahead_few, ahead_good, ahead_some, ahead_shown, ahead_deep, ahead_room, after_leaf, after_one, after_two}

module _ (s : List ℕ) (c : Cursor) where
  -- what is due at a cursor that has something due
  Next : Term → ℕ → Type 0
  Next t n = (d : ℕ) × (u : Term) × (w : Due) × Ahead s c.at c.due c.many (drop n (preorder 1 t)) (due d u w)

  -- nothing is due
  pub idle_empty : c.many ≡ 0 → Idle s c
  idle_empty z t n C = omega (
    arith,
    preorder-length 1 t,
    length-drop n (preorder 1 t),
    ap length (nothing_ahead s c.at c.due c.many (drop n (preorder 1 t)) C.waiting C.ahead z),
  )

  pub shows_idle : Idle s c → Shows s c None
  shows_idle idle = record {
    node = λ t n C. let e : length (preorder 1 t) ≤ n = omega (arith, preorder-length 1 t, idle t n C) in rw (drop_of_length-le (preorder 1 t) e);
    refused = λ k b. refl;
  }

  pub goes_idle : Idle s c → Goes s c c
  goes_idle idle = record {
    on = λ t n C h. absurd (omega (arith, idle t n C));
    stays = λ t n C h. refl;
    refused = λ k b. refl;
  }

  -- no node has this number
  pub idle_number : 4096 ≤ c.node.0 → Idle s c
  idle_number h t n C = omega (arith, C.number, C.limit)

  module _ (z : c.many ≡ 0 → ⊥) where
    next_due : (t : Term) (n : ℕ) → CursorAt s t n c → Next t n
    unfolding Next
    next_due t n C = something_ahead s c.at c.due c.many (drop n (preorder 1 t)) C.waiting C.ahead z

    not_last : (t : Term) (n : ℕ) → CursorAt s t n c → size t ≤ n → ⊥
    unfolding Next
    not_last t n C h = let x = next_due t n C in let e : length (preorder 1 t) ≤ n = omega (arith, preorder-length 1 t) in
        ahead_some s c.at c.due c.many (drop n (preorder 1 t)) x.0 x.1 x.2 x.3 (drop_of_length-le (preorder 1 t) e)

    -- a cursor with something due that stands at no node
    pub idle_many : 256 < c.many → Idle s c
    unfolding Next
    idle_many h t n C = let x = next_due t n C in absurd (omega (arith, ahead_few s c.at c.due c.many (drop n (preorder 1 t)) x.0 x.1 x.2 x.3))

    pub idle_outside : length s ≤ c.at → Idle s c
    unfolding Next
    idle_outside h t n C = let x = next_due t n C in absurd (omega (arith, ahead_inside s c.at c.due c.many (drop n (preorder 1 t)) x.0 x.1 x.2 x.3))

    idle_bad : NoNodeAt s c.at → Idle s c
    unfolding Next
    idle_bad h t n C = let x = next_due t n C in absurd (ahead_good s c.at c.due c.many (drop n (preorder 1 t)) x.0 x.1 x.2 x.3 h)

    -- what `node_at` answers is due, where no test failed
    pub due_head : (r : Result Head Refusal) → c.many ≤ 256 → c.node.0 < 4096 → Headed s c.at r → DueAt s c (result_ok r)
    due_head (Err r) m n H = idle_bad H.1
    due_head (Ok h) m n H = record { head = H; some = omega arith; few = m; number = n }

  module _ (kind children next : ℕ) (R : Ready s c kind children next) where
    full : c.many ≡ 0 → ⊥
    full e = omega (arith, R.some)

    pub idle_deep : (children ≡ 0 → ⊥) → 256 ≤ get_or c.due (c.many - 1) 0 → Idle s c
    unfolding Next
    idle_deep a h t n C = let x = next_due full t n C in
        absurd (omega (arith, ahead_deep s c.at c.due c.many (drop n (preorder 1 t)) x.0 x.1 x.2 x.3 kind children next R.head a))

    pub idle_full : (children ≡ 0 → ⊥) → 256 ≤ c.many → Idle s c
    unfolding Next
    idle_full a h t n C = let x = next_due full t n C in
        absurd (omega (arith, ahead_room s c.at c.due c.many (drop n (preorder 1 t)) x.0 x.1 x.2 x.3 kind children next R.head a))

    pub shows_node : (k : Kind) → byte_of k ≡ kind → Shows s c (Some (record { kind = k; body = c.at + 1; length = next - (c.at + 1); depth = get_or c.due (c.many - 1) 0 }))
    unfolding Next
    shows_node k e = record {
      node = λ t n C. let x = next_due full t n C in
          rw e (sym (ahead_shown s c.at c.due c.many (drop n (preorder 1 t)) x.0 x.1 x.2 x.3 kind children next R.head));
      refused = λ k b. absurd (full b.none);
    }

    -- the cursor goes on to r
    moved : (r : Cursor) (depths : List ℕ) (many : ℕ) → Made (record c { due = depths }) next many r
        → ((t : Term) (n : ℕ) → CursorAt s t n c → (w : Due) × Ahead s next depths many (drop 1 (drop n (preorder 1 t))) w) → Goes s c r
    moved r depths many M f = record {
      on = λ t n C h. record {
        reads = C.reads;
        limit = C.limit;
        within = omega arith;
        fine = M.fine;
        number = omega (arith, M.node, C.number);
        waiting = (f t n C).0;
        ahead = rw (M.place, M.stack, M.height, ← add-one n, ← drop-drop 1 n (preorder 1 t)) (f t n C).1;
      };
      stays = λ t n C h. absurd (not_last full t n C h);
      refused = λ k b. absurd (full b.none);
    }

    pub moves_leaf : (r : Cursor) → children ≡ 0 → Made c next (c.many - 1) r → Goes s c r
    unfolding Next
    moves_leaf r q M = moved r c.due (c.many - 1) M
        (λ t n C. let x = next_due full t n C in (_, after_leaf s c.at c.due c.many (drop n (preorder 1 t)) x.0 x.1 x.2 x.3 kind children next R.head q))

    abbrev deeper : ℕ
    deeper = get_or c.due (c.many - 1) 0 + 1

    pub moves_one : (r : Cursor) → children ≡ 1 → Made (record c { due = set c.due (c.many - 1) deeper }) next c.many r → Goes s c r
    unfolding Next
    moves_one r q M = moved r (set c.due (c.many - 1) deeper) c.many M
        (λ t n C. let x = next_due full t n C in (_, after_one s c.at c.due c.many (drop n (preorder 1 t)) x.0 x.1 x.2 x.3 kind children next R.head q))

    pub moves_two : (r : Cursor) → (children ≡ 0 → ⊥) → (children ≡ 1 → ⊥)
        → Made (record c { due = set (set c.due (c.many - 1) deeper) c.many deeper }) next (c.many + 1) r → Goes s c r
    unfolding Next
    moves_two r a b M = moved r (set (set c.due (c.many - 1) deeper) c.many deeper) (c.many + 1) M
        (λ t n C. let x = next_due full t n C in (_, after_two s c.at c.due c.many (drop n (preorder 1 t)) x.0 x.1 x.2 x.3 kind children next R.head a b))

-- opening: the root is due, at depth 1
pub opens_standing : (s : List ℕ) (t : Term) (c : Cursor) → Bytes s → Reads s t → c.refusal ≡ None → c.at ≡ 0 → c.node.0 ≡ 0 → c.many ≡ 1 → get_or c.due 0 0 ≡ 1 → length c.due ≡ 256 → Opens s c
unfolding bytes_of nodes_of depths_of count
opens_standing s t c B e fine place number height h l = let x = encode-decode s t B e in Opens.standing {t = t} (record {
  reads = e;
  limit = x.1.nodes;
  within = omega arith;
  fine = fine;
  number = number;
  waiting = due 1 t none;
  ahead = rw (place, height) (record {
    bytes = sym x.0 ∙ sym (append-nil (encode t));
    nodes = sym (append-nil (preorder 1 t));
    stack = rw h;
    held = (omega arith, omega (arith, x.1.deep), x.1.range, tt);
    room = l;
  });
})

pub opens_refused : (s : List ℕ) (k : ℕ) (c : Cursor) → Refuses s k → borne c.refusal ≡ k → c.many ≡ 0 → Opens s c
opens_refused s k c e h z = Opens.refused e (record { number = h; none = z })
