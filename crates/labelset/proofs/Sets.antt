-- What the set functions compute, label by label, from bits of words.
use mathlib.Core.Path.{◌≡◌, refl, sym, ◌∙◌}
use mathlib.Core.Logic.{◌⊎◌, inl, inr, ⊎_elim, ◌≢◌, ◌↔◌}
use mathlib.Core.Bool.{cond}
use Prim.Native.Nat.{ℕ, zero, suc, ◌+◌, ◌*◌, ◌<◌, ◌/◌, ◌%◌, ◌^◌}
use native.Mathlib.Decide.{ℕ_discrete, dec_lt}
use native.Mathlib.Omega.{arith}
use borrow.Author.Tests.{eq-eqb, ne_eqb}
use lib.Bits.{bit_and, bit_or, bit_xor, and_le_l, or_lt}
use lib.Dec.{eqb}
use Rattle.ccsk.specs.Term.{Co, On, Channel}
use Rattle.shared.specs.Tells.{Tells}
use Rattle.keyset.specs.Set.{bit, power}
use Rattle.keyset.proofs.Bits.{bit_shifted}
use Rattle.labelset.specs.declared.Labels.{Labels}
use Rattle.labelset.specs.Set.{word, Shows, Exactly, single, even}
use Rattle.labelset.proofs.Words.{bit_or_lem, bit_and_lem, bit-without, no_bit, some_bit, one_shifted, bit_power, bit_even}

-- a statement on words holds at every place if it holds at the four and past them
by_place : (P : ℕ → Type 0) → P 0 → P 1 → P 2 → P 3 → ((i : ℕ) → P (suc (suc (suc (suc i))))) → (i : ℕ) → P i
by_place P a b c d f zero = a
by_place P a b c d f (suc zero) = b
by_place P a b c d f (suc (suc zero)) = c
by_place P a b c d f (suc (suc (suc zero))) = d
by_place P a b c d f (suc (suc (suc (suc i)))) = f i

-- a test of equality tells what the equation decides
tells : {P : Type 0} (x k : ℕ) → (x ≡ k → P) → (x ≢ k → ¬ P) → Tells (eqb x k) P
tells {P} x k f g = pick (ℕ_discrete x k)
  where
    pick : Dec (x ≡ k) → Tells (eqb x k) P
    pick (yes e) = rw (eq-eqb x k e) (f e)
    pick (no e) = rw (ne_eqb x k e) (g e)

-- every label of a set is below 256
shows_low : (s : Labels) (l : ℕ) → Shows s l → l < 256
unfolding Shows
shows_low s l e = omega (arith, by_place (λ i. bit (word s i) (l % 64) ≡ 1 → i < 4) (λ z. omega arith) (λ z. omega arith) (λ z. omega arith) (λ z. omega arith) (λ i z. no_bit (l % 64) z) (l / 64) e)

-- no word has a bit
pub set_empty : Exactly record { a = 0; b = 0; c = 0; d = 0 } (λ l. ⊥)
unfolding Shows
set_empty = record { at = λ l. rw (by_place (λ i. word record { a = 0; b = 0; c = 0; d = 0 } i ≡ 0) refl refl refl refl (λ i. refl) (l / 64)) (λ e. no_bit (l % 64) e, λ z. absurd z) }

-- every word has all its bits
module _ (w : ℕ) (f : (j : ℕ) → j < 64 → bit w j ≡ 1) where
  abbrev whole : Labels
  whole = record { a = w; b = w; c = w; d = w }

  pub set_whole : Exactly whole (λ l. l < 256)
  unfolding Shows
  set_whole = record { at = λ l. (λ e. shows_low whole l e, λ h. rw (by_place (λ i. i < 4 → word whole i ≡ w) (λ z. refl) (λ z. refl) (λ z. refl) (λ z. refl) (λ i z. absurd (omega arith)) (l / 64) (omega arith)) (f (l % 64) (omega arith))) }

-- an operation on words, at each of the four places
module _ (op : ℕ → ℕ → ℕ) (s t : Labels) where
  abbrev each : Labels
  each = record { a = op s.a t.a; b = op s.b t.b; c = op s.c t.c; d = op s.d t.d }

  each_word : op 0 0 ≡ 0 → (i : ℕ) → word each i ≡ op (word s i) (word t i)
  each_word e = by_place (λ i. word each i ≡ op (word s i) (word t i)) refl refl refl refl (λ i. sym e)

-- the words are joined bit by bit
pub set_joined : (s t : Labels) → Exactly (each bit_or s t) (λ l. Shows s l ⊎ Shows t l)
unfolding Shows
set_joined s t = record { at = λ l. rw (each_word bit_or s t refl (l / 64)) (bit_or_lem (l % 64) _ _) }

-- complements: the names and the co-names change places, each without bit 0 of their first word, which is tau or no action
module _ (s : Labels) (p q : ℕ) (e : p ≡ even s.c) (f : q ≡ even s.a) where
  abbrev turned : Labels
  turned = record { a = p; b = s.d; c = q; d = s.b }

  turned_word : (i l : ℕ) → l < 256 → l / 64 ≡ i → (bit (word turned i) (l % 64) ≡ 1) ↔ ((bit (word s ((i + 2) % 4)) (l % 64) ≡ 1) × (l % 128 ≢ 0))
  turned_word zero l h g = let v = bit_even (l % 64) s.c in rw e (λ z. ((v.0 z).0, λ x. (v.0 z).1 (omega arith)), λ z. v.1 (z.0, λ x. z.1 (omega arith)))
  turned_word (suc zero) l h g = (λ z. (z, λ x. omega arith), λ z. z.0)
  turned_word (suc (suc zero)) l h g = let v = bit_even (l % 64) s.a in rw f (λ z. ((v.0 z).0, λ x. (v.0 z).1 (omega arith)), λ z. v.1 (z.0, λ x. z.1 (omega arith)))
  turned_word (suc (suc (suc zero))) l h g = (λ z. (z, λ x. omega arith), λ z. z.0)
  turned_word (suc (suc (suc (suc i)))) l h g = absurd (omega arith)

  -- every label but tau and 128 has one complement, which stands two words on or back at the same bit
  co_label : (l k : ℕ) → Co l k ↔ ((l < 256) × (l % 128 ≢ 0) × (k ≡ (l + 128) % 256))
  co_label l k = (λ c. ⊎_elim (λ z. (omega arith, λ x. omega arith, omega arith)) (λ z. (omega arith, λ x. omega arith, omega arith)) c, λ z. pick z (dec_lt l 128))
    where
      pick : (l < 256) × (l % 128 ≢ 0) × (k ≡ (l + 128) % 256) → Dec (l < 128) → Co l k
      pick z (yes h) = inl ((omega arith, omega arith), omega arith)
      pick z (no h) = inr ((omega arith, omega arith), omega arith)

  -- so a label is in the turned set if its complement is in the set
  turned_label : (l : ℕ) → l < 256 → Shows turned l ↔ (Shows s ((l + 128) % 256) × (l % 128 ≢ 0))
  unfolding Shows
  turned_label l h =
      let p : (l + 128) % 256 / 64 ≡ (l / 64 + 2) % 4 = omega arith in
      let q : (l + 128) % 256 % 64 ≡ l % 64 = omega arith in
      rw (p, q) (turned_word (l / 64) l h refl)

  pub set_complements : Exactly turned (λ l. (k : ℕ) × Co l k × Shows s k)
  set_complements = record {
    at = λ l. (
      λ z. let h = shows_low turned l z in let y = (turned_label l h).0 z in ((l + 128) % 256, (co_label l _).1 (h, y.1, refl), y.0),
      λ z. let o = (co_label l z.0).0 z.1 in (turned_label l o.0).1 (rw o.2 at z.2, o.1),
    );
  }

-- the only bit of the word of one label is that of the label
bit_single : (i x j : ℕ) → (bit (single i x) j ≡ 1) ↔ ((x / 64 ≡ i) × (x % 64 ≡ j))
unfolding single
bit_single i x j = pick (ℕ_discrete (x / 64) i)
  where
    pick : Dec (x / 64 ≡ i) → (bit (single i x) j ≡ 1) ↔ ((x / 64 ≡ i) × (x % 64 ≡ j))
    pick (yes e) = let v = bit_power (x % 64) j in rw (eq-eqb (x / 64) i e) (λ z. (e, sym (v.0 z)), λ z. v.1 (sym z.1))
    pick (no f) = rw (ne_eqb (x / 64) i f) (λ z. no_bit j z, λ z. absurd (f z.0))

-- a set whose four words are those of one label
module _ (r : Labels) (x w : ℕ) (h : x < 256) (e : w ≡ (1 * 2 ^ (x % 64)) % 2 ^ 64)
    (a : r.a ≡ cond (eqb (x / 64) 0) w 0) (b : r.b ≡ cond (eqb (x / 64) 1) w 0) (c : r.c ≡ cond (eqb (x / 64) 2) w 0) (d : r.d ≡ cond (eqb (x / 64) 3) w 0) where
  only_word : (i : ℕ) → word r i ≡ single i x
  unfolding single
  only_word = let z = e ∙ one_shifted (x % 64) (omega arith) in
      by_place (λ i. word r i ≡ single i x) (rw z at a) (rw z at b) (rw z at c) (rw z at d) (λ i. rw (ne_eqb (x / 64) (suc (suc (suc (suc i)))) (λ q. omega arith)))

  pub set_only : Exactly r (λ l. l ≡ x)
  unfolding Shows
  set_only = record {
    at = λ l. let v = bit_single (l / 64) x (l % 64) in rw (only_word (l / 64)) (λ z. omega (arith, v.0 z), λ e. v.1 (omega arith, omega arith));
  }

-- the bits of v that are not in w
abbrev less : ℕ → ℕ → ℕ
less v w = bit_xor v (bit_and v w)

-- a name and its co-name taken away: a label and the one 128 above it have the same bit, two words apart
module _ (s m : Labels) (n : ℕ) (ch : Channel n) (M : Exactly m (λ l. l ≡ n)) {p q p' q' : ℕ} (a : p ≡ m.a) (b : q ≡ m.b) (c : p' ≡ m.a) (d : q' ≡ m.b) where
  abbrev rest : Labels
  rest = record { a = less s.a p; b = less s.b q; c = less s.c p'; d = less s.d q' }

  rest_word : (i : ℕ) → word rest i ≡ less (word s i) (word m (i % 2))
  rest_word = by_place (λ i. word rest i ≡ less (word s i) (word m (i % 2))) (rw a) (rw b) (rw c) (rw d) (λ i. refl)

  -- in the set of the name alone, the bit of a label's place within its half tells whether the label is on the name
  on_word : (l : ℕ) → l < 256 → (bit (word m (l / 64 % 2)) (l % 64) ≡ 1) ↔ On n l
  unfolding Shows
  on_word l h =
      let e : l % 128 / 64 ≡ l / 64 % 2 = omega arith in
      let f : l % 128 % 64 ≡ l % 64 = omega arith in
      let v = rw (e, f) at (M.at (l % 128)) in
      (λ z. (ch, pick (ℕ_discrete l n) (v.0 z)), λ o. v.1 (⊎_elim (λ y. omega arith) (λ y. omega arith) o.1))
    where
      pick : Dec (l ≡ n) → l % 128 ≡ n → (l ≡ n) ⊎ (l ≡ n + 128)
      pick (yes y) z = inl y
      pick (no y) z = inr (omega arith)

  pub set-without : Exactly rest (λ l. Shows s l × ¬ On n l)
  unfolding Shows
  set-without = record {
    at = λ l. let v = bit-without (l % 64) (word s (l / 64)) (word m (l / 64 % 2)) in
        rw (rest_word (l / 64)) (λ z. let y = v.0 z in (y.0, λ o. y.1 ((on_word l (shows_low s l y.0)).1 o)), λ z. v.1 (z.0, λ y. z.1 ((on_word l (shows_low s l z.0)).0 y)));
  }

-- the four words joined into one have a bit exactly if one of them has it
module _ (u : Labels) where
  abbrev any : ℕ
  any = bit_or (bit_or (bit_or u.a u.b) u.c) u.d

  any_bit : (j : ℕ) → (bit any j ≡ 1) ↔ ((i : ℕ) × (bit (word u i) j ≡ 1))
  any_bit j =
      let x = bit_or_lem j u.a u.b in
      let y = bit_or_lem j (bit_or u.a u.b) u.c in
      let z = bit_or_lem j (bit_or (bit_or u.a u.b) u.c) u.d in (
        λ h. ⊎_elim (λ g. ⊎_elim (λ f. ⊎_elim (λ e. (0, e)) (λ e. (1, e)) (x.0 f)) (λ f. (2, f)) (y.0 g)) (λ g. (3, g)) (z.0 h),
        λ h. by_place (λ i. bit (word u i) j ≡ 1 → bit any j ≡ 1)
            (λ e. z.1 (inl (y.1 (inl (x.1 (inl e)))))) (λ e. z.1 (inl (y.1 (inl (x.1 (inr e)))))) (λ e. z.1 (inl (y.1 (inr e)))) (λ e. z.1 (inr e)) (λ i e. no_bit j e) h.0 h.1,
      )

-- two sets have no label in common exactly if their words have no bit in common
module _ (s t : Labels) (a : s.a < 2 ^ 64) (b : s.b < 2 ^ 64) (c : s.c < 2 ^ 64) (d : s.d < 2 ^ 64) where
  abbrev Apart : Type 0
  Apart = (l : ℕ) → ¬ (Shows s l × Shows t l)

  abbrev shared : Labels
  shared = each bit_and s t

  bit_shared : (i j : ℕ) → (bit (word shared i) j ≡ 1) ↔ ((bit (word s i) j ≡ 1) × (bit (word t i) j ≡ 1))
  bit_shared i j = rw (each_word bit_and s t refl i) (bit_and_lem j _ _)

  -- the words are below 2^64, so that each of their bits is that of a label
  few : {v : ℕ} (w : ℕ) → v < 2 ^ 64 → bit_and v w < 2 ^ 64
  few {v} w h = omega (arith, and_le_l v w)

  any_few : any shared < 2 ^ 64
  any_few = or_lt 64 _ _ (or_lt 64 _ _ (or_lt 64 _ _ (few t.a a) (few t.b b)) (few t.c c)) (few t.d d)

  meet : any shared ≢ 0 → Apart → ⊥
  unfolding Shows power
  meet f A =
      let o = some_bit 64 (any shared) any_few f in
      let i = (any_bit shared o.0).0 o.2 in
      let e : (64 * i.0 + o.0) / 64 ≡ i.0 = omega (arith, o.1) in
      let g : (64 * i.0 + o.0) % 64 ≡ o.0 = omega (arith, o.1) in
      A (64 * i.0 + o.0) (rw (e, g) ((bit_shared i.0 o.0).0 i.1))

  pub apart_tells : Tells (eqb (any shared) 0) (Apart)
  unfolding Shows
  apart_tells = tells (any shared) 0 (λ e l z. no_bit (l % 64) (rw e at ((any_bit shared (l % 64)).1 (l / 64, (bit_shared (l / 64) (l % 64)).1 z)))) (λ f A. meet f A)

-- a test of the bit of a label's word
pub has_tells : (s : Labels) (l : ℕ) {w : ℕ} → w ≡ word s (l / 64) → Tells (eqb (w / 2 ^ (l % 64) % 2) 1) (Shows s l)
unfolding Shows
has_tells s l {w} e = rw (bit_shifted (l % 64) w, e) (tells (bit (word s (l / 64)) (l % 64)) 1 (λ z. z) (λ z. z))
