-- Writing the numbers of a set to the front of a row: byte by byte, and within a byte bit by bit.
use mathlib.Core.Path.{◌≡◌, refl, sym, ap, subst, ◌∙◌}
use mathlib.Core.List.{List, [], ◌∷◌, ◌++◌, append_assoc}
use mathlib.Core.Bool.{Bool, true, false}
use Prim.Native.Nat.{ℕ, suc, ◌+◌, ◌-◌, ◌*◌, ◌≤◌, ◌<◌}
use native.Mathlib.Numerals.{add-one}
use native.Mathlib.Omega.{arith}
use lib.Dec.{eqb}
use lib.ListN.{length, get_or, set, drop, length-append, length-set}
use lib.Seq.{set_at, drop-cons}
use Rattle.keyset.specs.Set.{bit, member, members_below, Listed, Fronted}
use Rattle.keyset.proofs.Members.{members_none, members_absent, members_there, members_few, member_at, members_skip, room_for, none_ahead}

-- one number more at the front of the row
pub row_more : (l old row : List ℕ) (n v : ℕ) → n ≡ length l → n < length old → row ≡ l ++ drop n old → set row n v ≡ (l ++ (v ∷ [])) ++ drop (n + 1) old
row_more l old row n v e h q = rw (q, drop-cons old n 0 h, set_at l (get_or old n 0) (drop (suc n) old) v n (sym e), append_assoc, add-one n)

module _ (s old : List ℕ) (k n : ℕ) (row : List ℕ) (L : Listed s old k n row) where
  -- a number that is in the set goes to the row
  listed_there : member s k ≡ true → n < length row → Listed s old (k + 1) (n + 1) (set row n k)
  listed_there e h = record {
    count = omega (arith, L.count, ap length (members_there s k e), length-append (members_below s k) (k ∷ []));
    front = row_more (members_below s k) old row n k L.count (omega (arith, L.whole)) L.front ∙ ap (λ (l : List ℕ). l ++ drop (n + 1) old) (sym (members_there s k e));
    whole = length-set row n k ∙ L.whole;
  }

  -- where no number is in between, the same stands in the row
  listed_same : (j : ℕ) → members_below s j ≡ members_below s k → Listed s old j n row
  listed_same j e = record { count = L.count ∙ ap length (sym e); front = L.front ∙ ap (λ (l : List ℕ). l ++ drop n old) (sym e); whole = L.whole }

-- The first j bits of byte i were looked at. From place m of the row row₀ on, its numbers were written up to place n.
pub record Filling (s row₀ : List ℕ) (i m j n : ℕ) (row : List ℕ) : Type 0 where
  pub few : j ≤ 8
  pub count : n ≡ length (members_below s (i * 8 + j))
  pub whole : length row ≡ length row₀
  pub onward : (old : List ℕ) → Listed s old (i * 8) m row₀ → Listed s old (i * 8 + j) n row

pub begins : (s row : List ℕ) (i m : ℕ) → m ≡ length (members_below s (i * 8)) → Filling s row i m 0 m row
begins s row i m e = let z : i * 8 + 0 ≡ i * 8 = omega arith in record { few = omega arith; count = rw z e; whole = refl; onward = λ old L. rw z L }

module _ (s row₀ : List ℕ) (i m j n : ℕ) (row : List ℕ) (F : Filling s row₀ i m j n row) (h : j < 8) (t : Bool) (e : t ≡ eqb (bit (get_or s i 0) j) 1) where
  next : i * 8 + (j + 1) ≡ i * 8 + j + 1
  next = omega arith

  there : t ≡ true → member s (i * 8 + j) ≡ true
  there q = member_at s i j h ∙ sym e ∙ q

  -- there is room in the row
  pub room_left : t ≡ true → i < 8192 → length (members_below s 65536) ≤ length row₀ → n < length row
  room_left q b l = omega (arith, F.whole, l, room_for s (i * 8 + j) n 65536 (omega arith) F.count (there q))

  pub bit_there : t ≡ true → n < length row → Filling s row₀ i m (j + 1) (n + 1) (set row n (i * 8 + j))
  bit_there q l = record {
    few = omega arith;
    count = omega (arith, F.count, ap length (ap (members_below s) next ∙ members_there s (i * 8 + j) (there q)), length-append (members_below s (i * 8 + j)) ((i * 8 + j) ∷ []));
    whole = length-set row n (i * 8 + j) ∙ F.whole;
    onward = λ old L. rw next (listed_there s old (i * 8 + j) n row (F.onward old L) (there q) l);
  }

  pub bit_absent : t ≡ false → Filling s row₀ i m (j + 1) n row
  bit_absent q =
      let a : members_below s (i * 8 + (j + 1)) ≡ members_below s (i * 8 + j) = ap (members_below s) next ∙ members_absent s (i * 8 + j) (member_at s i j h ∙ sym e ∙ q) in
      record {
        few = omega arith;
        count = F.count ∙ ap length (sym a);
        whole = F.whole;
        onward = λ old L. listed_same s old (i * 8 + j) n row (F.onward old L) (i * 8 + (j + 1)) a;
      }

module _ (s row₀ : List ℕ) (i m j n : ℕ) (row : List ℕ) (F : Filling s row₀ i m j n row) where
  -- there are fewer numbers than there are places
  pub few_places : i < 8192 → n ≤ 65536
  few_places h = omega (arith, F.few, F.count, members_few s (i * 8 + j))

pub none_listed : (s row : List ℕ) → Listed s row 0 0 row
none_listed s row = let e = members_none s in record { count = ap length (sym e); front = ap (λ (l : List ℕ). l ++ row) (sym e); whole = refl }

module _ (s old : List ℕ) (i m : ℕ) (row : List ℕ) (L : Listed s old (i * 8) m row) where
  -- over a byte with none
  pub byte_passed : get_or s i 0 ≡ 0 → Listed s old ((i + 1) * 8) m row
  byte_passed z = listed_same s old (i * 8) m row L ((i + 1) * 8) (members_skip s i z)

  pub next_byte : (r : ℕ) (row' : List ℕ) → ((old : List ℕ) → Listed s old (i * 8) m row → Listed s old (i * 8 + 8) r row') → Listed s old ((i + 1) * 8) r row'
  next_byte r row' f = let z : (i + 1) * 8 ≡ i * 8 + 8 = omega arith in rw z (f old L)

-- once n numbers are written, all are
pub all_listed : (s old : List ℕ) (i m n : ℕ) (row : List ℕ) → i ≤ 8192 → Listed s old (i * 8) m row → n ≡ length (members_below s 65536) → n ≤ m → Fronted (members_below s 65536) old row
all_listed s old i m n row h L e l = fronted 65536 refl
  where
    fronted : (top : ℕ) → top ≡ 65536 → Fronted (members_below s top) old row
    fronted top z =
        let d : i * 8 + (top - i * 8) ≡ top = omega arith in
        let q : n ≡ length (members_below s top) = e ∙ ap (λ (x : ℕ). length (members_below s x)) (sym z) in
        let a : members_below s top ≡ members_below s (i * 8) = subst (λ (x : ℕ). members_below s x ≡ members_below s (i * 8)) d (none_ahead s (i * 8) (top - i * 8) (rw d (omega (arith, L.count, q, l)))) in
        rw a (L.front ∙ ap (λ (x : ℕ). members_below s (i * 8) ++ drop x old) L.count)
