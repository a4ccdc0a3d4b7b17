-- How a term is laid out, from how its children are: a law for each way out of the pass.
use mathlib.Core.Path.{◌≡◌, refl, sym, subst, ◌∙◌}
use mathlib.Core.Logic.{◌≢◌}
use mathlib.Core.List.{List, [], ◌∷◌, ◌++◌}
use Prim.Native.Nat.{ℕ, zero, suc, ◌+◌, ◌≤◌, ◌<◌, ◌%◌}
use native.Mathlib.Numerals.{add-one}
use native.Mathlib.Omega.{arith}
use lib.ListN.{length, get_or, set, length-append}
use lib.Seq.{set-set, set-get_or}
use Rattle.ccsk.specs.Term.{Term, Key, nil, pre, cho, par, res, size}
use Rattle.format.specs.Limits.{node_limit}
use Rattle.format.specs.Encode.{encode, InRange}
use Rattle.format.specs.Kinds.{length_of_body}
use Rattle.format.specs.Flat.{head_kind, head_key, key_at}
use Rattle.causes.specs.Entry.{Entry, Scopes, under, marked, entries}
use Rattle.lay.specs.declared.Place.{Place}
use Rattle.lay.specs.declared.Sheet.{Sheet}
use Rattle.lay.specs.Sheet.{noted, Rows}
use Rattle.lay.specs.Lay.{Here, Ready, Tells, Laid, Lays}
use Rattle.lay.proofs.Columns.{filled_none, filled_both, filled_first, filled_last}
use Rattle.lay.proofs.Scopes.{told, tells_told, tells_under}
use Rattle.lay.proofs.Places.{due_past, action_after, name_after, root_kind, root_key, body_of, here_prefix, here_marked, here_restriction, here_choice, here_parallel}

rows_none : (i : ℕ) (x : Sheet) → Rows i i x x []
rows_none i x = record {
  keys = filled_none (λ e. e.key) i x.keys;
  actions = filled_none (λ e. e.action) i x.actions;
  ends = filled_none (λ e. e.end) i x.ends;
  scopes = filled_none (λ e. e.scope) i x.scopes;
  ups = filled_none (λ e. e.up) i x.ups;
  nearest = refl;
}

rows_both : (i j k : ℕ) (x y z : Sheet) (l m : List Entry) → Rows i j x y l → Rows j k y z m → Rows i k x z (l ++ m)
rows_both i j k x y z l m p q = record {
  keys = filled_both (λ e. e.key) i j k x.keys y.keys z.keys l m p.keys q.keys;
  actions = filled_both (λ e. e.action) i j k x.actions y.actions z.actions l m p.actions q.actions;
  ends = filled_both (λ e. e.end) i j k x.ends y.ends z.ends l m p.ends q.ends;
  scopes = filled_both (λ e. e.scope) i j k x.scopes y.scopes z.scopes l m p.scopes q.scopes;
  ups = filled_both (λ e. e.up) i j k x.ups y.ups z.ups l m p.ups q.ups;
  nearest = q.nearest ∙ p.nearest;
}

-- the end of a row is written
abbrev pub ended : Sheet → ℕ → ℕ → Sheet
ended x i e = record { keys = x.keys; actions = x.actions; ends = set x.ends i e; scopes = x.scopes; ups = x.ups; nearest = x.nearest }

-- a restriction is opened, or closed
abbrev pub renearest : Sheet → ℕ → ℕ → Sheet
renearest x a v = record { keys = x.keys; actions = x.actions; ends = x.ends; scopes = x.scopes; ups = x.ups; nearest = set x.nearest a v }

-- each column has a place for every node, and the table one for each name
pub record Sized (x : Sheet) : Type 0 where
  pub keys : length x.keys ≡ node_limit
  pub actions : length x.actions ≡ node_limit
  pub ends : length x.ends ≡ node_limit
  pub scopes : length x.scopes ≡ node_limit
  pub ups : length x.ups ≡ node_limit
  pub nearest : length x.nearest ≡ 128

rows_one : (i j : ℕ) (x y : Sheet) (e : Entry) (l : List Entry) (k a u v : ℕ) → Sized x → i < node_limit → i < j → k ≡ e.key → a ≡ e.action → get_or x.nearest (a % 128) 0 ≡ e.scope → u ≡ e.up → v ≡ e.end
    → Rows (i + 1) j (noted x i k a u) y l → Rows i j x (ended y i v) (e ∷ l)
rows_one i j x y e l k a u v z h g p q r t w R = record {
  keys = filled_first (λ e. e.key) i j x.keys y.keys e l k (omega (arith, z.keys)) p R.keys;
  actions = filled_first (λ e. e.action) i j x.actions y.actions e l a (omega (arith, z.actions)) q R.actions;
  ends = filled_last (λ e. e.end) i j x.ends y.ends e l v (omega (arith, z.ends)) g w R.ends;
  scopes = filled_first (λ e. e.scope) i j x.scopes y.scopes e l (get_or x.nearest (a % 128) 0) (omega (arith, z.scopes)) r R.scopes;
  ups = filled_first (λ e. e.up) i j x.ups y.ups e l u (omega (arith, z.ups)) t R.ups;
  nearest = R.nearest;
}

rows_closed : (i j : ℕ) (x y : Sheet) (l : List Entry) (a v o : ℕ) → o ≡ get_or x.nearest a 0 → Rows i j (renearest x a v) y l → Rows i j x (renearest y a o) l
rows_closed i j x y l a v o e R = record {
  keys = R.keys;
  actions = R.actions;
  ends = R.ends;
  scopes = R.scopes;
  ups = R.ups;
  nearest = rw (R.nearest, e) (set-set x.nearest a v (get_or x.nearest a 0) ∙ set-get_or x.nearest a 0);
}

module _ (s : List ℕ) (at node row kind : ℕ) (hk : kind ≡ get_or s at 0) (b : ℕ) (hb : b ≡ length_of_body kind) (up : Key) (x : Sheet) where
  kind_of_lem : (t : Term) (ts : List Term) → Here s at node row t ts → kind ≡ head_kind (t ∷ ts)
  kind_of_lem t ts h = root_kind s at node row kind hk t ts h.due

  body : (m : ℕ) → kind ≡ m → b ≡ length_of_body m
  body = body_of s at node row kind hk b hb

  pub lays_nil : kind ≡ 0 → Lays s at node row up x (record { at = at + (1 + b); node = node + 1; row = row }) x
  unfolding head_kind encode size marked entries
  lays_nil z nil ts sc h g = record { after = omega (arith, body 0 (kind_of_lem nil ts h)); node = refl; row = omega arith; rows = rows_none row x }
  lays_nil z (pre a k t) ts sc h g = absurd (omega (arith, kind_of_lem (pre a k t) ts h))
  lays_nil z (cho t u) ts sc h g = absurd (omega (arith, kind_of_lem (cho t u) ts h))
  lays_nil z (par t u) ts sc h g = absurd (omega (arith, kind_of_lem (par t u) ts h))
  lays_nil z (res a t) ts sc h g = absurd (omega (arith, kind_of_lem (res a t) ts h))

  -- the entries of a child, whose node number is one more
  at_child : (i : ℕ) (u : Key) (j : ℕ) (y z : Sheet) (sc : Scopes) (t : Term) → Rows i j y z (entries (node + 1) i u sc t) → Rows i j y z (entries (suc node) i u sc t)
  at_child i u j y z sc t = subst (λ (v : ℕ). Rows i j y z (entries v i u sc t)) (add-one node)

  module _ (key : ℕ) (ek : key ≡ key_at s at) (q : kind ≡ 1) where
    pub lays_unmarked : key ≡ 0 → (r : Place) (x' : Sheet) → Lays s (at + (1 + b)) (node + 1) row up x r x' → Lays s at node row up x r x'
    unfolding head_kind head_key encode size marked entries
    lays_unmarked z r x' L nil ts sc h g = absurd (omega (arith, kind_of_lem nil ts h))
    lays_unmarked z r x' L (pre a zero t) ts sc h g = let w = L t ts sc (here_prefix s at node row kind hk b hb a zero t ts h) g in
        record { after = omega (arith, w.after, body 1 q); node = omega (arith, w.node); row = w.row; rows = at_child row up r.row x x' sc t w.rows }
    lays_unmarked z r x' L (pre a (suc k) t) ts sc h g = absurd (omega (arith, root_key s at node row kind hk (pre a (suc k) t) ts h.due))
    lays_unmarked z r x' L (cho t u) ts sc h g = absurd (omega (arith, kind_of_lem (cho t u) ts h))
    lays_unmarked z r x' L (par t u) ts sc h g = absurd (omega (arith, kind_of_lem (par t u) ts h))
    lays_unmarked z r x' L (res a t) ts sc h g = absurd (omega (arith, kind_of_lem (res a t) ts h))

    pub lays_marked : key ≢ 0 → Sized x → (a : ℕ) → a ≡ get_or s (at + 1) 0 → (r : Place) (y : Sheet)
        → Lays s (at + (1 + b)) (node + 1) (row + 1) key (noted x row key a up) r y → Lays s at node row up x r (ended y row r.row)
    unfolding head_kind head_key encode size marked entries
    lays_marked z W l el r y L nil ts sc h g = absurd (omega (arith, kind_of_lem nil ts h))
    lays_marked z W l el r y L (pre a zero t) ts sc h g = absurd (z (ek ∙ root_key s at node row kind hk (pre a zero t) ts h.due))
    lays_marked z W l el r y L (pre a (suc k) t) ts sc h g = let w = L t ts sc (here_marked s at node row kind hk b hb a k t ts h) g in
        let e : key ≡ suc k = ek ∙ root_key s at node row kind hk (pre a (suc k) t) ts h.due in let f : l ≡ a = el ∙ action_after s at a (suc k) t ts h.due in
        record {
          after = omega (arith, w.after, body 1 q);
          node = omega (arith, w.node);
          row = omega (arith, w.row);
          rows = rows_one row r.row x y _ _ key l up r.row W (omega (arith, h.room)) (omega (arith, w.row)) e f (rw f (sym (g a h.range.0 h.range.1))) refl (omega (arith, w.row))
              (below e w.rows);
        }
      where
        below : key ≡ suc k → Rows (row + 1) r.row (noted x row key l up) y (entries (node + 1) (row + 1) key sc t)
            → Rows (row + 1) r.row (noted x row key l up) y (entries (suc node) (suc row) (suc k) sc t)
        below e R = rw (← e, ← add-one node, ← add-one row) R
    lays_marked z W l el r y L (cho t u) ts sc h g = absurd (omega (arith, kind_of_lem (cho t u) ts h))
    lays_marked z W l el r y L (par t u) ts sc h g = absurd (omega (arith, kind_of_lem (par t u) ts h))
    lays_marked z W l el r y L (res a t) ts sc h g = absurd (omega (arith, kind_of_lem (res a t) ts h))

  pub lays_restriction : kind ≡ 4 → Sized x → (a : ℕ) → a ≡ get_or s (at + 1) 0 % 128 → (o : ℕ) → o ≡ get_or x.nearest a 0 → (r : Place) (y : Sheet)
      → Lays s (at + (1 + b)) (node + 1) row up (renearest x a (node + 1)) r y → Lays s at node row up x r (renearest y a o)
  unfolding head_kind encode size marked entries
  lays_restriction q W a ea o eo r y L nil ts sc h g = absurd (omega (arith, kind_of_lem nil ts h))
  lays_restriction q W a ea o eo r y L (pre l k t) ts sc h g = absurd (omega (arith, kind_of_lem (pre l k t) ts h))
  lays_restriction q W a ea o eo r y L (cho t u) ts sc h g = absurd (omega (arith, kind_of_lem (cho t u) ts h))
  lays_restriction q W a ea o eo r y L (par t u) ts sc h g = absurd (omega (arith, kind_of_lem (par t u) ts h))
  lays_restriction q W a ea o eo r y L (res l t) ts sc h g = let e : a ≡ l = omega (arith, ea, name_after s at l t ts h.due, h.range.0) in
      let w = L t ts (under l node sc) (here_restriction s at node row kind hk b hb l t ts h) (below e) in
      record {
        after = omega (arith, w.after, body 4 q);
        node = omega (arith, w.node);
        row = w.row;
        rows = rows_closed row r.row x y _ a (node + 1) o eo (at_child row up r.row (renearest x a (node + 1)) y (under l node sc) t w.rows);
      }
    where
      below : a ≡ l → Tells (set x.nearest a (node + 1)) (under l node sc)
      below e = rw (e, add-one node) (tells_under x.nearest sc l node W.nearest h.range.0 g)

  -- the second side stands where the first one ends
  module _ (r : Place) (y : Sheet) (L : Lays s (at + (1 + b)) (node + 1) row up x r y) where
    here_second : (t u : Term) (ts : List Term) (l : List Entry) → Here s (at + (1 + b)) (node + 1) row t (u ∷ ts) → Laid (at + (1 + b)) (node + 1) row x t l r y
        → InRange u → node + 1 + size t + size u < 65536 → row + marked t + marked u ≤ node_limit → Here s r.at r.node r.row u ts
    here_second t u ts l h w i f m = record { due = rw w.after (due_past s (at + (1 + b)) t (u ∷ ts) h.due); range = i; few = rw w.node f; room = rw w.row m }

    -- the pass may go on with the second side, which stands further on
    pub ready_second : kind ≢ 1 → kind ≢ 4 → kind ≢ 0 → Ready s at node row → Ready s r.at r.node r.row × (at < r.at)
    unfolding head_kind size marked
    ready_second p q z (nil, ts, h) = absurd (z (kind_of_lem nil ts h))
    ready_second p q z (pre a k t, ts, h) = absurd (p (kind_of_lem (pre a k t) ts h))
    ready_second p q z (cho t u, ts, h) = let i = here_choice s at node row kind hk b hb t u ts h in let w = L t (u ∷ ts) (told x.nearest) i (tells_told x.nearest) in
        ((u, ts, here_second t u ts _ i w h.range.1 (omega (arith, h.few)) (omega (arith, h.room))), omega (arith, w.after))
    ready_second p q z (par t u, ts, h) = let i = here_parallel s at node row kind hk b hb t u ts h in let w = L t (u ∷ ts) (told x.nearest) i (tells_told x.nearest) in
        ((u, ts, here_second t u ts _ i w h.range.1 (omega (arith, h.few)) (omega (arith, h.room))), omega (arith, w.after))
    ready_second p q z (res a t, ts, h) = absurd (q (kind_of_lem (res a t) ts h))

    module _ (p : kind ≢ 1) (q : kind ≢ 4) (z : kind ≢ 0) (r₂ : Place) (x' : Sheet) (M : Lays s r.at r.node r.row up y r₂ x') where
      -- the rows of both sides
      both : (t u : Term) (ts : List Term) (sc : Scopes) → Tells x.nearest sc → InRange u → node + 1 + size t + size u < 65536 → row + marked t + marked u ≤ node_limit
          → Here s (at + (1 + b)) (node + 1) row t (u ∷ ts)
          → (r₂.at ≡ at + (1 + b) + length (encode t) + length (encode u)) × (r₂.node ≡ node + 1 + size t + size u) × (r₂.row ≡ row + marked t + marked u)
          × Rows row r₂.row x x' (entries (suc node) row up sc t ++ entries (suc node + size t) (row + marked t) up sc u)
      both t u ts sc g i f m h = let w = L t (u ∷ ts) sc h g in let v = M u ts sc (here_second t u ts _ h w i f m) (rw w.rows.nearest g) in (
        omega (arith, w.after, v.after),
        omega (arith, w.node, v.node),
        omega (arith, w.row, v.row),
        rows_both row r.row r₂.row x y x' _ _ (at_child row up r.row x y sc t w.rows) (second w.node w.row v.rows),
      )
        where
          second : r.node ≡ node + 1 + size t → r.row ≡ row + marked t → Rows r.row r₂.row y x' (entries r.node r.row up sc u)
              → Rows r.row r₂.row y x' (entries (suc node + size t) (row + marked t) up sc u)
          second e d R = rw (← add-one node, ← e, ← d) R

      pub lays_two : Lays s at node row up x r₂ x'
      unfolding head_kind encode size marked entries
      lays_two nil ts sc h g = absurd (z (kind_of_lem nil ts h))
      lays_two (pre a k t) ts sc h g = absurd (p (kind_of_lem (pre a k t) ts h))
      lays_two (cho t u) ts sc h g = let w = both t u ts sc g h.range.1 (omega (arith, h.few)) (omega (arith, h.room)) (here_choice s at node row kind hk b hb t u ts h) in
          record { after = omega (arith, w.0, body 2 (kind_of_lem (cho t u) ts h), length-append (encode t) (encode u)); node = omega (arith, w.1); row = omega (arith, w.2); rows = w.3 }
      lays_two (par t u) ts sc h g = let w = both t u ts sc g h.range.1 (omega (arith, h.few)) (omega (arith, h.room)) (here_parallel s at node row kind hk b hb t u ts h) in
          record { after = omega (arith, w.0, body 3 (kind_of_lem (par t u) ts h), length-append (encode t) (encode u)); node = omega (arith, w.1); row = omega (arith, w.2); rows = w.3 }
      lays_two (res a t) ts sc h g = absurd (q (kind_of_lem (res a t) ts h))

-- where the pass ends there are rows enough
pub laid_end : (s : List ℕ) (at node row : ℕ) (up : Key) (x : Sheet) (r : Place) (y : Sheet) → Ready s at node row → Lays s at node row up x r y → r.row ≤ node_limit
laid_end s at node row up x r y (t, ts, h) L = let w = L t ts (told x.nearest) h (tells_told x.nearest) in omega (arith, w.row, h.room)
