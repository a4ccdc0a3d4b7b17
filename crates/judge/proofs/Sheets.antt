-- Columns that are the entries of a term lay it out, once their keys have small numbers.
use mathlib.Core.Path.{◌≡◌, refl, sym, ap, subst, ◌∙◌}
use mathlib.Core.Logic.{◌⊎◌}
use mathlib.Core.List.{List, [], ◌∷◌, ◌++◌}
use Prim.Native.Nat.{ℕ, zero, suc, ◌+◌, ◌≤◌, ◌<◌}
use native.Mathlib.Omega.{arith}
use lib.ListN.{length, get_or, take, length-take}
use Rattle.ccsk.specs.Numbers.{In}
use Rattle.ccsk.specs.Term.{Term, Key, Node, nil, pre, cho, par, res, size}
use Rattle.format.specs.Limits.{node_limit}
use Rattle.causes.specs.Entry.{Entry, Scopes, under, open_scopes, marked, entries, all}
use Rattle.causes.specs.Links.{key_column, renamed}
use Rattle.causes.proofs.Renaming.{Known, all_known}
use Rattle.causes.specs.Columns.{Faithful, Positive}
use Rattle.lay.specs.Sheet.{column}
use Rattle.lay.proofs.Columns.{column-length}
use Rattle.lay.proofs.Whole.{entries_count}
use Rattle.pairs.specs.Rows.{table}
use Rattle.slots.specs.Slot.{Renamed, Numberable, Numbered}
use Rattle.ccsk.proofs.Lists.{get_or_in}
use Rattle.verdict.specs.Laid.{Laid}
use Rattle.judge.specs.Judge.{Begun}
use Rattle.lay.specs.declared.Sheet.{Sheet}
use Rattle.lay.specs.Lay.{AllLaid}

-- the columns are the entries of the term
pub record Listed (t : Term) (ks acs es ss us : List ℕ) : Type 0 where
  pub few : length ks ≤ node_limit
  pub keys : ks ≡ column (λ e. e.key) (all t)
  pub actions : acs ≡ column (λ e. e.action) (all t)
  pub ends : es ≡ column (λ e. e.end) (all t)
  pub scopes : ss ≡ column (λ e. e.scope) (all t)
  pub ups : us ≡ column (λ e. e.up) (all t)

-- the first rows of a sheet
pub listed : (t : Term) (r : ℕ) (x : Sheet) → AllLaid t r x → Listed t (take r x.keys) (take r x.actions) (take r x.ends) (take r x.scopes) (take r x.ups)
listed t r x A = record { few = omega (arith, A.few, length-take r x.keys); keys = A.keys; actions = A.actions; ends = A.ends; scopes = A.scopes; ups = A.ups }

-- what holds of every entry
abbrev Each : (Entry → ℕ → Type 0) → ℕ → List Entry → Type 0
Each P i [] = Unit {0}
Each P i (e ∷ l) = P e i × Each P (suc i) l

each_append : (P : Entry → ℕ → Type 0) (i j : ℕ) (x y : List Entry) → j ≡ i + length x → Each P i x → Each P j y → Each P i (x ++ y)
each_append P i j [] y e p q = subst (λ (k : ℕ). Each P k y) (let z : j ≡ i = omega arith in z) q
each_append P i j (a ∷ x) y e p q = (p.0, each_append P (suc i) j x y (omega arith) p.1 q)

-- an entry stands in its row and holds a key
abbrev Stands : Entry → ℕ → Type 0
Stands e i = (e.row ≡ i) × (0 < e.key)

sides : (n : Node) (i : ℕ) (up : Key) (s : Scopes) (t u : Term) → Each Stands i (entries (suc n) i up s t) → Each Stands (i + marked t) (entries (suc n + size t) (i + marked t) up s u)
    → Each Stands i (entries (suc n) i up s t ++ entries (suc n + size t) (i + marked t) up s u)
sides n i up s t u p q = each_append Stands i (i + marked t) (entries (suc n) i up s t) (entries (suc n + size t) (i + marked t) up s u) (omega (arith, entries_count (suc n) i up s t)) p q

stand : (n : Node) (i : ℕ) (up : Key) (s : Scopes) (t : Term) → Each Stands i (entries n i up s t)
unfolding entries
stand n i up s nil = tt
stand n i up s (pre a zero t) = stand (suc n) i up s t
stand n i up s (pre a (suc k) t) = ((refl, omega arith), stand (suc n) (suc i) (suc k) s t)
stand n i up s (cho t u) = sides n i up s t u (stand (suc n) i up s t) (stand (suc n + size t) (i + marked t) up s u)
stand n i up s (par t u) = sides n i up s t u (stand (suc n) i up s t) (stand (suc n + size t) (i + marked t) up s u)
stand n i up s (res a t) = stand (suc n) i up (under a n s) t

column_keys : (l : List Entry) → column (λ e. e.key) l ≡ key_column l
unfolding column key_column
column_keys [] = refl
column_keys (e ∷ l) = ap (λ (x : List ℕ). e.key ∷ x) (column_keys l)

positive : (j : ℕ) (l : List Entry) → Each Stands j l → Positive (column (λ e. e.key) l)
unfolding column
positive j [] p i h = absurd (omega arith)
positive j (e ∷ l) p zero h = p.0.1
positive j (e ∷ l) p (suc i) h = positive (suc j) l p.1 i (omega arith)

known_ups : (ks : List ℕ) (l : List Entry) → Known ks l → (i : ℕ) → i < length (column (λ e. e.up) l) → (get_or (column (λ e. e.up) l) i 0 ≡ 0) ⊎ In (get_or (column (λ e. e.up) l) i 0) ks
unfolding column
known_ups ks [] p i h = absurd (omega arith)
known_ups ks (e ∷ l) p zero h = p.0
known_ups ks (e ∷ l) p (suc i) h = known_ups ks l p.1 i (omega arith)

-- the rest of a renamed column
rest : (f : ℕ → ℕ) (a b : ℕ) (c c' : List ℕ) → Renamed f (a ∷ c) (b ∷ c') → Renamed f c c'
rest f a b c c' r = (omega (arith, r.0), λ i h. r.1 (suc i) (omega arith))

-- renamed columns are the renamed entries
table_renamed : (f : ℕ → ℕ) (i : ℕ) (l : List Entry) (ks us : List ℕ) → Each Stands i l → Renamed f (column (λ e. e.key) l) ks → Renamed f (column (λ e. e.up) l) us
    → table i ks (column (λ e. e.action) l) (column (λ e. e.end) l) (column (λ e. e.scope) l) us ≡ renamed f l
unfolding table column renamed
table_renamed f i [] [] us p q r = refl
table_renamed f i [] (k ∷ ks) us p q r = absurd (omega (arith, q.0))
table_renamed f i (e ∷ l) [] us p q r = absurd (omega (arith, q.0))
table_renamed f i (e ∷ l) (k ∷ ks) [] p q r = absurd (omega (arith, r.0))
table_renamed f i (e ∷ l) (k ∷ ks) (u ∷ us) p q r = let a : k ≡ f e.key = q.1 0 (omega arith) in let b : u ≡ f e.up = r.1 0 (omega arith) in
    let z = table_renamed f (suc i) l ks us p.1 (rest f e.key k (column (λ e. e.key) l) ks q) (rest f e.up u (column (λ e. e.up) l) us r) in rw (a, b, p.0.0, z)

module _ (t : Term) (ks acs es ss us : List ℕ) (S : Listed t ks acs es ss us) where
  pub numberable : Numberable ks us
  numberable = record {
    keys = subst Positive (sym S.keys) (positive 0 (all t) (stand 0 0 0 open_scopes t));
    ups = rw (S.ups, S.keys, column_keys (all t)) (known_ups (key_column (all t)) (all t) (all_known t));
    few = omega (arith, S.few);
  }

  module _ (ks' us' : List ℕ) (n : ℕ) (N : Numbered ks us ks' us' n) where
    rows : table 0 ks' acs es ss us' ≡ renamed N.name (all t)
    rows = rw (S.actions, S.ends, S.scopes) (table_renamed N.name 0 (all t) ks' us' (stand 0 0 0 open_scopes t)
        (subst (λ (x : List ℕ). Renamed N.name x ks') S.keys N.keys) (subst (λ (x : List ℕ). Renamed N.name x us') S.ups N.ups))

    long : (f : Entry → ℕ) (c : List ℕ) → c ≡ column f (all t) → length c ≡ length ks'
    long f c e = ap length e ∙ column-length f (all t) ∙ sym (column-length (λ e. e.key) (all t)) ∙ sym (ap length S.keys) ∙ sym N.keys.0

    pub laid : Laid t n ks' acs es ss us'
    laid = record {
      name = N.name;
      root = N.root;
      faithful = subst (Faithful N.name) (S.keys ∙ column_keys (all t)) N.faithful;
      square = record { actions = long _ acs S.actions; ends = long _ es S.ends; scopes = long _ ss S.scopes; ups = N.ups.0 ∙ long _ us S.ups };
      rows = rows;
      keys = λ i h. rw (N.keys.1 i (omega (arith, N.keys.0))) (N.faithful.keys (get_or ks i 0) (get_or_in ks i (omega (arith, N.keys.0)))).1;
      keys_below = N.keys_below;
      ups_below = N.ups_below;
      some = N.some;
      few = omega (arith, N.few, S.few);
    }

    pub slotted : Begun t → (length ks' ≤ node_limit) × (n ≤ node_limit + 1) × ((u : Term) × Laid u n ks' acs es ss us' × Begun u)
    slotted b = (omega (arith, N.keys.0, S.few), omega (arith, N.few, S.few), (t, laid, b))
