-- Laws of the index: one row more is entered.
use mathlib.Core.Path.{◌≡◌, refl, sym, ap, ◌∙◌}
use mathlib.Core.Logic.{◌≢◌}
use mathlib.Core.List.{List, [], ◌∷◌, ◌++◌, append-nil}
use mathlib.Core.Bool.{Bool, true, false, true≢false, false≢true}
use Prim.Native.Nat.{ℕ, zero, suc, ◌+◌, ◌<◌}
use native.Mathlib.Decide.{ℕ_discrete}
use native.Mathlib.Numerals.{add-one}
use native.Mathlib.Omega.{arith}
use borrow.Author.Tests.{eq-eqb, ne_eqb}
use lib.Dec.{eqb}
use lib.ListN.{length, get_or, set, take, drop, length-append, length-set, take-append-drop}
use lib.Seq.{take-suc, length-take-le, get_or-set_same, get_or-set_other}
use Rattle.ccsk.specs.Term.{tick}
use Rattle.causes.specs.Columns.{Below}
use Rattle.cycles.specs.declared.Pair.{Pair}
use Rattle.cycles.specs.Pair.{firsts, seconds}
use Rattle.cycles.proofs.Pairs.{nothing, firsts-length, seconds-length, first_at, second_at, firsts-set, seconds-set}
use Rattle.pairs.specs.Rows.{rows_of, row, Indexed}
use Rattle.pairs.specs.Answer.{Zero, Entered, as_first, as_second, as_third}

-- a row more at the end
rows_append : (m i : ℕ) (x y : List ℕ) → rows_of m i (x ++ y) ≡ rows_of m i x ++ rows_of m (i + length x) y
unfolding rows_of
rows_append m i [] y = ap (λ (j : ℕ). rows_of m j y) (zero_last i)
  where
    zero_last : (i : ℕ) → i ≡ i + 0
    zero_last i = omega arith
rows_append m i (k ∷ x) y = rw (rows_append m (suc i) x y, shift) (pull (eqb m k))
  where
    shift : suc i + length x ≡ i + suc (length x)
    shift = omega arith

    pull : (b : Bool) → tick b i (rows_of m (suc i) x ++ rows_of m (i + suc (length x)) y) ≡ tick b i (rows_of m (suc i) x) ++ rows_of m (i + suc (length x)) y
    pull true = refl
    pull false = refl

rows_same : (m i : ℕ) → rows_of m i (m ∷ []) ≡ i ∷ []
unfolding rows_of
rows_same m i = rw (eq-eqb m m refl)

rows_other : (m k i : ℕ) → m ≢ k → rows_of m i (k ∷ []) ≡ []
unfolding rows_of
rows_other m k i e = rw (ne_eqb m k e)

-- the rows before i + 1 are those before i, and i if it holds m
rows_next : (m : ℕ) (ks : List ℕ) (i : ℕ) → i < length ks → rows_of m 0 (take (i + 1) ks) ≡ rows_of m 0 (take i ks) ++ rows_of m i (get_or ks i 0 ∷ [])
rows_next m ks i h = rw (add-one i, take-suc ks i 0 h) (rows_append m 0 (take i ks) (get_or ks i 0 ∷ []) ∙ ap (λ (j : ℕ). rows_of m 0 (take i ks) ++ rows_of m j (get_or ks i 0 ∷ [])) (let z = length-take-le i ks (omega arith) in omega arith))

-- no row has been looked at
pub none_indexed : (ks : List ℕ) (rows : List Pair) → Zero (firsts rows) → Zero (seconds rows) → Indexed (take 0 ks) (firsts rows) (seconds rows)
unfolding rows_of
none_indexed ks rows z y = record { alike = alike; rows = λ k h. rw (z k h, y k (omega (arith, alike))); order = λ k h q. y k (omega (arith, alike)) }
  where
    alike : length (seconds rows) ≡ length (firsts rows)
    alike = omega (arith, firsts-length rows, seconds-length rows)

row_next : (i : ℕ) → row (i + 1) ≡ i ∷ []
row_next i = rw (add-one i)

-- row i holds the key k, whose rows become a and b
indexed_next : (ks f s : List ℕ) (i k a b : ℕ) → i < length ks → k ≡ get_or ks i 0 → k < length f → Indexed (take i ks) f s
    → (row (get_or f k 0) ++ row (get_or s k 0)) ++ (i ∷ []) ≡ row a ++ row b → (a ≡ 0 → b ≡ 0) → Indexed (take (i + 1) ks) (set f k a) (set s k b)
indexed_next ks f s i k a b h e l w g o = record {
  alike = length-set s k b ∙ w.alike ∙ sym (length-set f k a);
  rows = λ m p. rows m (omega (arith, length-set f k a)) (ℕ_discrete m k);
  order = λ m p. order m (omega (arith, length-set f k a)) (ℕ_discrete m k);
}
  where
    long : k < length s
    long = omega (arith, w.alike)

    rows : (m : ℕ) → m < length f → Dec (m ≡ k) → rows_of m 0 (take (i + 1) ks) ≡ row (get_or (set f k a) m 0) ++ row (get_or (set s k b) m 0)
    rows m p (yes q) = rw (rows_next m ks i h, ← e, q, rows_same k i, w.rows k l, get_or-set_same f k a 0 l, get_or-set_same s k b 0 long) g
    rows m p (no q) = rw (rows_next m ks i h, ← e, rows_other m k i q, get_or-set_other f k m a 0 q, get_or-set_other s k m b 0 q, append-nil (rows_of m 0 (take i ks))) (w.rows m p)

    order : (m : ℕ) → m < length f → Dec (m ≡ k) → get_or (set f k a) m 0 ≡ 0 → get_or (set s k b) m 0 ≡ 0
    order m p (yes q) y = rw (q, get_or-set_same s k b 0 long) (o (sym (get_or-set_same f k a 0 l) ∙ rw q at y))
    order m p (no q) y = get_or-set_other s k m b 0 q ∙ w.order m p (sym (get_or-set_other f k m a 0 q) ∙ y)

-- the next row is entered
entered : (ks f s : List ℕ) (i k a b : ℕ) (t : Bool) → i < length ks → k ≡ get_or ks i 0 → k < length f → Indexed (take i ks) f s → t ≡ true
    → Entered i (get_or f k 0) (get_or s k 0) a b t → Indexed (take (i + 1) ks) (set f k a) (set s k b)
entered ks f s i k a b t h e l w u (as_first z) = indexed_next ks f s i k a b h e l w (rw (z, w.order k l z, row_next i)) (λ y. absurd (omega arith))
entered ks f s i k a b t h e l w u (as_second g z) = indexed_next ks f s i k a b h e l w (rw (z, row_next i, append-nil (row (get_or f k 0)))) (λ y. absurd (g y))
entered ks f s i k a b t h e l w u (as_third g z) = absurd (false≢true u)

row_one : (x : ℕ) → x ≢ 0 → length (row x) ≡ 1
row_one zero f = absurd (f refl)
row_one (suc x) f = refl

-- the next row is a third one
third : (ks f s : List ℕ) (i k a b : ℕ) (t : Bool) → i < length ks → k ≡ get_or ks i 0 → k < length f → Indexed (take i ks) f s → t ≡ false
    → Entered i (get_or f k 0) (get_or s k 0) a b t → (m : ℕ) × (2 < length (rows_of m 0 ks))
third ks f s i k a b t h e l w u (as_first z) = absurd (true≢false u)
third ks f s i k a b t h e l w u (as_second g z) = absurd (true≢false u)
third ks f s i k a b t h e l w u (as_third g z) = (k, longer)
  where
    longer : 2 < length (rows_of k 0 ks)
    longer =
        let a : rows_of k 0 (take (i + 1) ks) ≡ (row (get_or f k 0) ++ row (get_or s k 0)) ++ (i ∷ []) = rw (rows_next k ks i h, ← e, rows_same k i, w.rows k l) in
        let n = ap length a in
        let c = length-append (row (get_or f k 0) ++ row (get_or s k 0)) (i ∷ []) in let d = length-append (row (get_or f k 0)) (row (get_or s k 0)) in
        let x = row_one (get_or f k 0) g in let y = row_one (get_or s k 0) z in
        let q = ap length (ap (rows_of k 0) (sym (take-append-drop (i + 1) ks)) ∙ rows_append k 0 (take (i + 1) ks) (drop (i + 1) ks)) in
        let v = length-append (rows_of k 0 (take (i + 1) ks)) (rows_of k (0 + length (take (i + 1) ks)) (drop (i + 1) ks)) in omega arith

-- in the terms of the loop: the key k of row i has a place in the index, where p is written
module _ (ks : List ℕ) (rows : List Pair) (i k : ℕ) (h : i < length ks) (e : k ≡ get_or ks i 0) (n : ℕ) (l : length rows ≡ n) (b : Below n ks) where
  pub key_below : k < length rows
  key_below = omega (arith, b i h)

  module _ (w : Indexed (take i ks) (firsts rows) (seconds rows)) (p : Pair) (t : Bool) (E : Entered i (get_or rows k nothing).first (get_or rows k nothing).second p.first p.second t) where
    asked : Entered i (get_or (firsts rows) k 0) (get_or (seconds rows) k 0) p.first p.second t
    asked = rw (first_at, second_at) E

    -- the next row is entered
    pub one_indexed : t ≡ true → Indexed (take (i + 1) ks) (firsts (set rows k p)) (seconds (set rows k p))
    one_indexed u = rw (firsts-set, seconds-set) (entered ks (firsts rows) (seconds rows) i k p.first p.second t h e (omega (arith, key_below, firsts-length rows)) w u asked)

    -- the next row is a third one
    pub third_row : t ≡ false → (m : ℕ) × (2 < length (rows_of m 0 ks))
    third_row u = third ks (firsts rows) (seconds rows) i k p.first p.second t h e (omega (arith, key_below, firsts-length rows)) w u asked
