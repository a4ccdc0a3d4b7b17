-- The cycle test on what stands right above each key is the test on entries.
use mathlib.Core.Path.{◌≡◌, refl, sym, ap, ◌∙◌}
use mathlib.Core.Logic.Iff
use mathlib.Core.Logic.{◌⊎◌, inl, inr, ⊎_elim, ◌↔◌}
use mathlib.Core.List.{List, [], ◌∷◌, ◌++◌}
use mathlib.Core.Bool.{Bool, true, false}
use Prim.Native.Nat.{ℕ, zero, suc, ◌+◌, ◌≤◌, ◌<◌}
use native.Mathlib.Omega.{arith}
use lib.Dec.{eqb}
use lib.ListN.{length, get_or}
use Rattle.ccsk.specs.Numbers.{In}
use Rattle.ccsk.specs.Term.{tick}
use Rattle.causes.specs.Links.{key_column, up_column, Linked, right_above}
use Rattle.causes.specs.Tests as tests
use Rattle.sound.proofs.Chains.{chain_map}
use Rattle.causes.proofs.Taking.{linked_above, linked_low}
use Rattle.causes.proofs.Renaming.{acyclic_columns}
use Rattle.causes.specs.Columns.{Below, Positive, Square}
use Rattle.cycles.specs.Graph as graph
use Rattle.pairs.specs.Rows.{table, rows_of, row, Indexed}
use Rattle.pairs.specs.Answer.{above, Climbed}
use Rattle.verdict.specs.Sheet.{Noted}
use Rattle.pairs.proofs.Tables.{rows_none, each_placed}

-- the two columns of a table that matter here
table_keys : (i : ℕ) (ks acs es ss us : List ℕ) → Square ks acs es ss us → key_column (table i ks acs es ss us) ≡ ks
unfolding table key_column
table_keys i [] acs es ss us q = refl
table_keys i (k ∷ ks) [] es ss us q = absurd (let z = q.actions in omega arith)
table_keys i (k ∷ ks) (a ∷ acs) [] ss us q = absurd (let z = q.ends in omega arith)
table_keys i (k ∷ ks) (a ∷ acs) (e ∷ es) [] us q = absurd (let z = q.scopes in omega arith)
table_keys i (k ∷ ks) (a ∷ acs) (e ∷ es) (s ∷ ss) [] q = absurd (let z = q.ups in omega arith)
table_keys i (k ∷ ks) (a ∷ acs) (e ∷ es) (s ∷ ss) (u ∷ us) q = ap (λ (x : List ℕ). k ∷ x) (table_keys (suc i) ks acs es ss us (record { actions = let z = q.actions in omega arith; ends = let z = q.ends in omega arith; scopes = let z = q.scopes in omega arith; ups = let z = q.ups in omega arith }))

table_ups : (i : ℕ) (ks acs es ss us : List ℕ) → Square ks acs es ss us → up_column (table i ks acs es ss us) ≡ us
unfolding table up_column
table_ups i [] acs es ss [] q = refl
table_ups i [] acs es ss (u ∷ us) q = absurd (let z = q.ups in omega arith)
table_ups i (k ∷ ks) [] es ss us q = absurd (let z = q.actions in omega arith)
table_ups i (k ∷ ks) (a ∷ acs) [] ss us q = absurd (let z = q.ends in omega arith)
table_ups i (k ∷ ks) (a ∷ acs) (e ∷ es) [] us q = absurd (let z = q.scopes in omega arith)
table_ups i (k ∷ ks) (a ∷ acs) (e ∷ es) (s ∷ ss) [] q = absurd (let z = q.ups in omega arith)
table_ups i (k ∷ ks) (a ∷ acs) (e ∷ es) (s ∷ ss) (u ∷ us) q = ap (λ (x : List ℕ). u ∷ x) (table_ups (suc i) ks acs es ss us (record { actions = let z = q.actions in omega arith; ends = let z = q.ends in omega arith; scopes = let z = q.scopes in omega arith; ups = let z = q.ups in omega arith }))

-- what stands at several rows of a column
unfoldable picks : List ℕ → List ℕ → List ℕ
picks us [] = []
picks us (r ∷ l) = get_or us r 0 ∷ picks us l

-- the keys right above m stand in its rows
above_rows : (m i : ℕ) (ks us us₀ : List ℕ) → length us ≡ length ks → ((j : ℕ) → get_or us j 0 ≡ get_or us₀ (i + j) 0) → right_above m ks us ≡ picks us₀ (rows_of m i ks)
unfolding right_above rows_of picks
above_rows m i [] us us₀ e f = refl
above_rows m i (k ∷ ks) [] us₀ e f = absurd (omega arith)
above_rows m i (k ∷ ks) (u ∷ us) us₀ e f = pick (eqb m k) (above_rows m (suc i) ks us us₀ (omega arith) (λ j. f (suc j) ∙ ap (λ (x : ℕ). get_or us₀ x 0) (shift i j)))
  where
    shift : (i j : ℕ) → i + suc j ≡ suc i + j
    shift i j = omega arith

    here : u ≡ get_or us₀ i 0
    here = f 0 ∙ ap (λ (x : ℕ). get_or us₀ x 0) (let z : i + 0 ≡ i = omega arith in z)

    pick : (b : Bool) → right_above m ks us ≡ picks us₀ (rows_of m (suc i) ks) → tick b u (right_above m ks us) ≡ picks us₀ (tick b i (rows_of m (suc i) ks))
    pick true z = rw (z, ← here)
    pick false z = z

-- one of those at the rows of two numbers, each one higher
in_picks : (us : List ℕ) (m a b : ℕ) → 0 < m → In m (picks us (row a ++ row b)) ↔ ((m ≡ above us a) ⊎ (m ≡ above us b))
unfolding picks
in_picks us m zero zero h = (λ i. absurd i, λ i. absurd (⊎_elim (λ z. out z) (λ z. out z) i))
  where
    out : m ≡ 0 → ⊥
    out z = omega arith
in_picks us m zero (suc b) h = (⊎_elim inr (λ i. absurd i), ⊎_elim (λ z. absurd (out z)) inl)
  where
    out : m ≡ 0 → ⊥
    out z = omega arith
in_picks us m (suc a) zero h = (⊎_elim inl (λ i. absurd i), ⊎_elim inl (λ z. absurd (out z)))
  where
    out : m ≡ 0 → ⊥
    out z = omega arith
in_picks us m (suc a) (suc b) h = (⊎_elim inl (λ i. ⊎_elim inr (λ j. absurd j) i), ⊎_elim inl (λ z. inr (inl z)))

-- a key of the column is below its bound
key_below : (n c : ℕ) (ks : List ℕ) → Below c ks → In n ks → n < c
key_below n c [] b i = absurd i
key_below n c (k ∷ ks) b (inl e) = let z = b 0 (omega arith) in omega arith
key_below n c (k ∷ ks) b (inr i) = key_below n c ks (λ j h. b (suc j) (omega arith)) i

module _ (ks acs es ss us first second one two : List ℕ) (q : Square ks acs es ss us) (b : Below (length first) ks) (x : Indexed ks first second) (f : Climbed us first one) (g : Climbed us second two) where
  links : (m n : ℕ) → Linked ks us m n ↔ graph.Over one two m n
  links m n = (to, back)
    where
      rows : n < length first → right_above n ks us ≡ picks us (row (get_or first n 0) ++ row (get_or second n 0))
      rows h = above_rows n 0 ks us us q.ups (λ j. ap (λ (y : ℕ). get_or us y 0) (let z : j ≡ 0 + j = omega arith in z)) ∙ ap (picks us) (x.rows n h)

      first_up : n < length first → get_or one n 0 ≡ above us (get_or first n 0)
      first_up h = f.1 n h

      second_up : n < length first → get_or two n 0 ≡ above us (get_or second n 0)
      second_up h = g.1 n (let z = x.alike in omega arith)

      to : Linked ks us m n → graph.Over one two m n
      to i = let r = (linked_above ks us m n).0 i in let l = key_below n (length first) ks b (linked_low ks us m n i) in
          (r.0, let z = f.0 in omega arith, rw (first_up l, second_up l) ((in_picks us m (get_or first n 0) (get_or second n 0) r.0).0 (rw (rows l) at r.1)))

      back : graph.Over one two m n → Linked ks us m n
      back (h, l, i) = let k : n < length first = (let z = f.0 in omega arith) in
          (linked_above ks us m n).1 (h, rw (rows k) ((in_picks us m (get_or first n 0) (get_or second n 0) h).1 (rw (first_up k, second_up k) at i)))

  -- the relation on numbers has a cycle exactly if that on entries has one
  pub acyclic_rows : tests.Acyclic (table 0 ks acs es ss us) ↔ graph.Acyclic one two
  acyclic_rows = Iff.trans (rw (table_keys 0 ks acs es ss us q, table_ups 0 ks acs es ss us q) at (acyclic_columns (table 0 ks acs es ss us)))
      (λ a m c. a m (chain_map (λ x y. (links x y).1) c), λ a m c. a m (chain_map (λ x y. (links x y).0) c))

-- what the index notes is as the cycle test wants it
pub noted : (n : ℕ) (ks us first second : List ℕ) → length first ≡ n → 0 < n → n ≤ 32767 → Positive ks → Below n us → Indexed ks first second → length us ≡ length ks → Noted us first second
noted n ks us first second e s few p b x l = record { alike = x.alike; some = omega arith; few = omega arith; ups_below = rw e b; first_inside = λ k h. let r = placed k h in omega arith; second_inside = λ k h. let z = x.alike in let r = placed k (omega arith) in omega arith; first_root = first_zero; second_root = x.order 0 (omega arith) first_zero }
  where
    placed : (k : ℕ) → k < length first → (get_or first k 0 ≤ length us) × (get_or second k 0 ≤ length us)
    placed k h = let r = (each_placed ks first second x).placed k h in omega arith

    first_zero : get_or first 0 0 ≡ 0
    first_zero = empty (get_or first 0 0) (sym (rows_none 0 0 ks (λ j i e. let z = p j i in omega arith)) ∙ x.rows 0 (omega arith))
      where
        empty : (a : ℕ) → [] ≡ row a ++ row (get_or second 0 0) → a ≡ 0
        empty zero q = refl
        empty (suc a) q = let z : ◌≡◌ {A = ℕ} 0 1 = cc in absurd (omega arith)
