-- One node without its children, against the reading of a node.
use mathlib.Core.Path.{◌≡◌, refl, sym, subst, ◌∙◌}
use mathlib.Core.Logic.{◌≢◌}
use mathlib.Core.List.{List, [], ◌∷◌}
use Prim.Native.Nat.{ℕ, zero, suc, ◌+◌, ◌-◌, ◌<◌, ◌≤◌}
use native.Mathlib.Nat.{add-zero}
use native.Mathlib.Numerals.{add-one}
use native.Mathlib.Omega.{arith}
use borrow.Author.Tests.{ne_eqb, eq-eqb, le-leb, lt-leb}
use lib.ListN.{length, drop, get_or, length-drop}
use lib.Seq.{get_or-drop, drop-drop, drop-cons}
use Rattle.format.specs.Read.{Reading, refused, kind_of, node}
use Rattle.reader.specs.declared.Kind.{Kind}
use Rattle.reader.specs.declared.Kind.TheVariants.{Nil, Prefix, Choice, Parallel, Restriction}
use Rattle.reader.specs.Kind.{byte_of, children_of}
use Rattle.reader.specs.Head.{body, count_of_children, under, NodeAt, NoNodeAt, KindAt}

-- what holds of the five kinds holds of each number to 4
pub by_kind : (P : ℕ → Type 0) → P 0 → P 1 → P 2 → P 3 → P 4 → (n : ℕ) → n ≤ 4 → P n
by_kind P a b c d e zero h = a
by_kind P a b c d e (suc zero) h = b
by_kind P a b c d e (suc (suc zero)) h = c
by_kind P a b c d e (suc (suc (suc zero))) h = d
by_kind P a b c d e (suc (suc (suc (suc zero)))) h = e
by_kind P a b c d e (suc (suc (suc (suc (suc n))))) h = absurd (omega arith)

-- a kind that is neither a prefix's nor a restriction's has no body
pub no_body : (kind : ℕ) → kind ≤ 4 → kind ≢ 1 → kind ≢ 4 → 0 ≡ body kind
no_body = by_kind (λ kind. kind ≢ 1 → kind ≢ 4 → 0 ≡ body kind) (λ p q. refl) (λ p q. absurd (p refl)) (λ p q. refl) (λ p q. refl) (λ p q. absurd (q refl))

-- a node of kind b is refused with 1 where the bytes s follow the byte of kind
Offends : ℕ → List ℕ → Type 0
Offends b s = (r : ℕ → List ℕ → Reading) (k : ℕ) → node (kind_of b) r k s ≡ refused 1

bad_kind : (s : List ℕ) (b : ℕ) → 4 < b → Offends b s
unfolding kind_of node Offends
bad_kind s zero h r k = absurd (omega arith)
bad_kind s (suc zero) h r k = absurd (omega arith)
bad_kind s (suc (suc zero)) h r k = absurd (omega arith)
bad_kind s (suc (suc (suc zero))) h r k = absurd (omega arith)
bad_kind s (suc (suc (suc (suc zero)))) h r k = absurd (omega arith)
bad_kind s (suc (suc (suc (suc (suc b))))) h r k = refl

cut_prefix : (s : List ℕ) → length s < 3 → Offends 1 s
unfolding kind_of node Offends
cut_prefix [] h r k = refl
cut_prefix (a ∷ []) h r k = refl
cut_prefix (a ∷ (b ∷ [])) h r k = refl
cut_prefix (a ∷ (b ∷ (c ∷ s))) h r k = absurd (omega arith)

cut_restriction : (s : List ℕ) → length s < 1 → Offends 4 s
unfolding kind_of node Offends
cut_restriction [] h r k = refl
cut_restriction (a ∷ s) h r k = absurd (omega arith)

no_action : (s : List ℕ) → 3 ≤ length s → get_or s 0 0 ≡ 128 → Offends 1 s
unfolding kind_of node Offends
no_action [] h e r k = absurd (omega arith)
no_action (a ∷ []) h e r k = absurd (omega arith)
no_action (a ∷ (b ∷ [])) h e r k = absurd (omega arith)
no_action (a ∷ (b ∷ (c ∷ s))) h e r k = rw (eq-eqb a 128 e)

name_zero : (s : List ℕ) → 1 ≤ length s → get_or s 0 0 ≡ 0 → Offends 4 s
unfolding kind_of node Offends
name_zero [] h e r k = absurd (omega arith)
name_zero (a ∷ s) h e r k = rw (lt-leb 1 a (omega arith))

name_large : (s : List ℕ) → 1 ≤ length s → (get_or s 0 0 ≡ 0 → ⊥) → 127 < get_or s 0 0 → Offends 4 s
unfolding kind_of node Offends
name_large [] h z e r k = absurd (omega arith)
name_large (a ∷ s) h z e r k = rw (le-leb 1 a (omega arith), lt-leb a 127 (omega arith))

-- a node of kind b whose body the bytes s begin with
Good : ℕ → List ℕ → Type 0
Good b s = (r : ℕ → List ℕ → Reading) (k : ℕ) → node (kind_of b) r k s ≡ under (kind_of b) (b ∷ s) 0 r k (drop (body b) s)

good_prefix : (s : List ℕ) → 3 ≤ length s → (get_or s 0 0 ≡ 128 → ⊥) → Good 1 s
unfolding kind_of node under Good
good_prefix [] h e r k = absurd (omega arith)
good_prefix (a ∷ []) h e r k = absurd (omega arith)
good_prefix (a ∷ (b ∷ [])) h e r k = absurd (omega arith)
good_prefix (a ∷ (b ∷ (c ∷ s))) h e r k = rw (ne_eqb a 128 e)

good_restriction : (s : List ℕ) → 1 ≤ length s → (get_or s 0 0 ≡ 0 → ⊥) × (get_or s 0 0 ≤ 127) → Good 4 s
unfolding kind_of node under Good
good_restriction [] h e r k = absurd (omega arith)
good_restriction (a ∷ s) h e r k = rw (le-leb 1 a (omega arith), le-leb a 127 (omega arith))

-- the body may as well be looked up in the whole list
under_at : (s : List ℕ) (at : ℕ) (s' : List ℕ) (r : ℕ → List ℕ → Reading) (k b : ℕ) → b ≤ 4
    → under (kind_of b) (drop at s) 0 r k s' ≡ under (kind_of b) s at r k s'
unfolding kind_of under
under_at s at s' r k = by_kind (λ b. under (kind_of b) (drop at s) 0 r k s' ≡ under (kind_of b) s at r k s')
    refl
    (rw (get_or-drop at s 1 0, get_or-drop at s 2 0, get_or-drop at s 3 0))
    refl
    refl
    (rw (get_or-drop at s 1 0))

-- the same at the place `at` of s
module _ (s : List ℕ) (at : ℕ) where
  to : (b : ℕ) → b ≡ get_or s at 0 → Offends b (drop (at + 1) s) → NoNodeAt s at
  unfolding Offends
  to b e h r k = rw (← e) (h r k)

  first : get_or (drop (at + 1) s) 0 0 ≡ get_or s (at + 1) 0
  first = get_or-drop (at + 1) s 0 0 ∙ rw add-zero

  found : (b : ℕ) → b ≤ 4 → KindAt b s at → body b ≤ length s - (at + 1) → Good b (drop (at + 1) s)
      → NodeAt s at b (count_of_children b) (at + 1 + body b)
  unfolding Good
  found b k h l g = record {
    byte = h.1;
    known = k;
    count = refl;
    ends = refl;
    within = omega (arith, h.0);
    shape = λ r d. g r d ∙ rw (whole, drop-drop (body b) (at + 1) s) (under_at s at (drop (at + 1 + body b) s) r d b k);
  }
    where
      whole : b ∷ drop (at + 1) s ≡ drop at s
      whole = rw (h.1, add-one at, ← drop-cons s at 0 h.0)

  bare : (b : ℕ) → b ≤ 4 → KindAt b s at → Good b (drop (at + 1) s) → body b ≡ 0 → NodeAt s at b (count_of_children b) (at + 1)
  bare b k h g e = let N = found b k h (omega (arith, e)) g in subst (NodeAt s at b (count_of_children b)) (omega (arith, e)) N

  pub at_no_kind : (b : ℕ) → b ≡ get_or s at 0 → 4 < b → NoNodeAt s at
  at_no_kind b e h = to b e (bad_kind _ b h)

  -- a choice or a parallel: what is known of one is known of the other
  pub at_two_lem : (b : ℕ) → b ≤ 4 → KindAt b s at → (b ≡ 0 → ⊥) → (b ≡ 1 → ⊥) → (b ≡ 4 → ⊥) → NodeAt s at b (count_of_children 3) (at + 1 + body 3)
  unfolding kind_of node under Good
  at_two_lem = by_kind (λ b. KindAt b s at → (b ≡ 0 → ⊥) → (b ≡ 1 → ⊥) → (b ≡ 4 → ⊥) → NodeAt s at b (count_of_children 3) (at + 1 + body 3))
      (λ h x y z. absurd (x refl))
      (λ h x y z. absurd (y refl))
      (λ h x y z. found 2 (omega arith) h (omega arith) (λ r k. refl))
      (λ h x y z. found 3 (omega arith) h (omega arith) (λ r k. refl))
      (λ h x y z. absurd (z refl))

  -- a node of a kind without a body
  pub at_no_body : (kind : Kind) → KindAt (byte_of kind) s at → (kind ≡ Prefix → ⊥) → (kind ≡ Restriction → ⊥) → NodeAt s at (byte_of kind) (children_of kind) (at + 1)
  unfolding kind_of node under Good
  at_no_body Nil h x y = bare 0 (omega arith) h (λ r k. refl) refl
  at_no_body Prefix h x y = absurd (x refl)
  at_no_body Choice h x y = bare 2 (omega arith) h (λ r k. refl) refl
  at_no_body Parallel h x y = bare 3 (omega arith) h (λ r k. refl) refl
  at_no_body Restriction h x y = absurd (y refl)

-- a prefix, whose body has n bytes
module _ (s : List ℕ) (at n : ℕ) (h : KindAt 1 s at) (e : n ≡ body 1) where
  pub prefix_cut : length s - (at + 1) < n → NoNodeAt s at
  prefix_cut l = to s at 1 h.1 (cut_prefix _ (omega (arith, length-drop (at + 1) s)))

  pub prefix_no_action : n ≤ length s - (at + 1) → get_or s (at + 1) 0 ≡ 128 → NoNodeAt s at
  prefix_no_action l x = to s at 1 h.1 (no_action _ (omega (arith, length-drop (at + 1) s)) (first s at ∙ x))

  pub prefix_found : n ≤ length s - (at + 1) → (get_or s (at + 1) 0 ≡ 128 → ⊥) → NodeAt s at 1 (count_of_children 1) (at + 1 + n)
  prefix_found l x = rw e (found s at 1 (omega arith) h (omega arith) (good_prefix _ (omega (arith, length-drop (at + 1) s)) (λ y. x (sym (first s at) ∙ y))))

-- a restriction, whose body has n bytes
module _ (s : List ℕ) (at n : ℕ) (h : KindAt 4 s at) (e : n ≡ body 4) where
  pub restriction_cut : length s - (at + 1) < n → NoNodeAt s at
  restriction_cut l = to s at 4 h.1 (cut_restriction _ (omega (arith, length-drop (at + 1) s)))

  pub restriction_zero : n ≤ length s - (at + 1) → get_or s (at + 1) 0 ≡ 0 → NoNodeAt s at
  restriction_zero l x = to s at 4 h.1 (name_zero _ (omega (arith, length-drop (at + 1) s)) (first s at ∙ x))

  pub restriction_large : n ≤ length s - (at + 1) → (get_or s (at + 1) 0 ≡ 0 → ⊥) → 127 < get_or s (at + 1) 0 → NoNodeAt s at
  restriction_large l z x = to s at 4 h.1 (name_large _ (omega (arith, length-drop (at + 1) s)) (λ y. z (sym (first s at) ∙ y)) (omega (arith, first s at)))

  pub restriction_found : n ≤ length s - (at + 1) → (get_or s (at + 1) 0 ≡ 0 → ⊥) → get_or s (at + 1) 0 ≤ 127 → NodeAt s at 4 (count_of_children 4) (at + 1 + n)
  restriction_found l z x = rw e (found s at 4 (omega arith) h (omega arith) (good_restriction _ (omega (arith, length-drop (at + 1) s)) (λ y. z (sym (first s at) ∙ y), omega (arith, first s at))))
