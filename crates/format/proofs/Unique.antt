-- Bytes that can be read are the record of the term that is read, and that term is within the limits.
use mathlib.Core.Path.{◌≡◌, refl, sym, ◌∙◌}
use mathlib.Core.List.{List, [], ◌∷◌, ◌++◌, append_assoc, append-nil}
use mathlib.Core.Bool.{Bool, true, false}
use Prim.Native.Nat.{ℕ, zero, suc, ◌+◌, ◌<◌, ◌≤◌}
use native.Mathlib.Nat.{mul-add-div_right, mul-add-mod_self_right, mod-eq_of_lt, div-eq_of_lt, add-zero}
use native.Mathlib.Omega.{arith}
use borrow.Author.Tests.{eqb-false, leb-true}
use lib.Dec.{eqb, leb}
use Rattle.ccsk.specs.Term.{Term, pre, cho, par, res, size}
use Rattle.format.specs.Limits.{node_limit, depth_limit}
use Rattle.format.specs.Read.{Reading, Reading.refused, term, kind_of, node, read, key_of, onward, unless, provided, one_child, two_children, finish, decode, opened, Reads}
use Rattle.format.specs.Encode.{high, low, encode, depth, InRange, Fits, Bytes}

-- the two bytes of a key that was made from two bytes
pub high_key : (h l : ℕ) → l < 256 → high (key_of h l) ≡ h
high_key h l b = mul-add-div_right (omega arith) h l ∙ rw (div-eq_of_lt b, add-zero)

pub low_key : (h l : ℕ) → l < 256 → low (key_of h l) ≡ l
low_key h l b = mul-add-mod_self_right h 256 l ∙ mod-eq_of_lt b

-- The term t was read from s with d levels and k nodes left; s' are the bytes after it and k' the nodes that may still come.
pub record Written (d k : ℕ) (s : List ℕ) (t : Term) (s' : List ℕ) (k' : ℕ) : Type 0 where
  pub bytes : s ≡ encode t ++ s'
  pub nodes : k ≡ size t + k'
  pub deep : depth t ≤ d
  pub range : InRange t
  pub rest : Bytes s'

-- a refusal is no term
no_term : {A : Type 0} {c : ℕ} {t : Term} {s : List ℕ} {k : ℕ} → Reading.refused c ≡ term t s k → A
no_term e = let z : ◌≡◌ {A = ℕ} 0 1 = cc in absurd (omega arith)

carry : {d k : ℕ} {s : List ℕ} {t u : Term} {s₁ s₂ : List ℕ} {k₁ k₂ : ℕ} → Written d k s t s₁ k₁ → term t s₁ k₁ ≡ term u s₂ k₂ → Written d k s u s₂ k₂
carry {t = t} {u} {s₁} {s₂} {k₁} {k₂} w e = let p : t ≡ u = cc in let q : s₁ ≡ s₂ = cc in let r : k₁ ≡ k₂ = cc in rw (← p, ← q, ← r) w

-- what stands under a node when the node is read
unless_term : (b : Bool) (r : Reading) (t : Term) (s : List ℕ) (k : ℕ) → unless b r ≡ term t s k → (b ≡ false) × (r ≡ term t s k)
unless_term true r t s k e = no_term e
unless_term false r t s k e = (refl, e)

provided_term : (b : Bool) (r : Reading) (t : Term) (s : List ℕ) (k : ℕ) → provided b r ≡ term t s k → (b ≡ true) × (r ≡ term t s k)
provided_term true r t s k e = (refl, e)
provided_term false r t s k e = no_term e

-- r reads terms that are written
Reader : ℕ → (ℕ → List ℕ → Reading) → Type 0
Reader d r = (k : ℕ) (s : List ℕ) (t : Term) (s' : List ℕ) (k' : ℕ) → Bytes s → r k s ≡ term t s' k' → Written d k s t s' k'

module _ (d : ℕ) (r : ℕ → List ℕ → Reading) (R : Reader d r) (k : ℕ) (s : List ℕ) (B : Bytes s) (t : Term) (s' : List ℕ) (k' : ℕ) where
  one : (f : Term → Term) → one_child f r k s ≡ term t s' k'
      → (t₁ : Term) × (s₁ : List ℕ) × (k₁ : ℕ) × Written d k s t₁ s₁ k₁ × (term (f t₁) s₁ k₁ ≡ term t s' k')
  unfolding Reader
  one f e = at (r k s) refl e
    where
      at : (o : Reading) → r k s ≡ o → onward o (λ t s k. term (f t) s k) ≡ term t s' k'
          → (t₁ : Term) × (s₁ : List ℕ) × (k₁ : ℕ) × Written d k s t₁ s₁ k₁ × (term (f t₁) s₁ k₁ ≡ term t s' k')
      at (Reading.refused c) q e = no_term e
      at (term t₁ s₁ k₁) q e = (t₁, s₁, k₁, R k s t₁ s₁ k₁ B q, e)

  two : (f : Term → Term → Term) → two_children f r k s ≡ term t s' k'
      → (t₁ : Term) × (s₁ : List ℕ) × (k₁ : ℕ) × Written d k s t₁ s₁ k₁ × (onward (r k₁ s₁) (λ u s k. term (f t₁ u) s k) ≡ term t s' k')
  unfolding Reader
  two f e = at (r k s) refl e
    where
      at : (o : Reading) → r k s ≡ o → onward o (λ t s k. onward (r k s) (λ u s k. term (f t u) s k)) ≡ term t s' k'
          → (t₁ : Term) × (s₁ : List ℕ) × (k₁ : ℕ) × Written d k s t₁ s₁ k₁ × (onward (r k₁ s₁) (λ u s k. term (f t₁ u) s k) ≡ term t s' k')
      at (Reading.refused c) q e = no_term e
      at (term t₁ s₁ k₁) q e = (t₁, s₁, k₁, R k s t₁ s₁ k₁ B q, e)

-- a node of each kind
module _ (d : ℕ) (r : ℕ → List ℕ → Reading) (R : Reader d r) (k : ℕ) (t : Term) (s' : List ℕ) (k' : ℕ) where
  written_prefix : (a h l : ℕ) (s : List ℕ) → Bytes (a ∷ (h ∷ (l ∷ s))) → unless (eqb a 128) (one_child (pre a (key_of h l)) r k s) ≡ term t s' k'
      → Written (suc d) (suc k) (1 ∷ (a ∷ (h ∷ (l ∷ s)))) t s' k'
  unfolding encode size depth
  written_prefix a h l s B e =
      let u = unless_term (eqb a 128) (one_child (pre a (key_of h l)) r k s) t s' k' e in
      let o = one d r R k s B.1.1.1 t s' k' (pre a (key_of h l)) u.1 in
      let w = o.3 in
      carry (record {
        bytes = rw (high_key h l B.1.1.0, low_key h l B.1.1.0, ← w.bytes);
        nodes = omega (arith, w.nodes);
        deep = omega (arith, w.deep);
        range = (omega (arith, B.0), eqb-false a 128 u.0, omega (arith, B.1.0, B.1.1.0), w.range);
        rest = w.rest;
      }) o.4

  written_restriction : (a : ℕ) (s : List ℕ) → Bytes (a ∷ s) → provided (leb 1 a) (provided (leb a 127) (one_child (res a) r k s)) ≡ term t s' k'
      → Written (suc d) (suc k) (4 ∷ (a ∷ s)) t s' k'
  unfolding encode size depth
  written_restriction a s B e =
      let u = provided_term (leb 1 a) (provided (leb a 127) (one_child (res a) r k s)) t s' k' e in
      let v = provided_term (leb a 127) (one_child (res a) r k s) t s' k' u.1 in
      let o = one d r R k s B.1 t s' k' (res a) v.1 in
      let w = o.3 in
      carry (record {
        bytes = rw (← w.bytes);
        nodes = omega (arith, w.nodes);
        deep = omega (arith, w.deep);
        range = ((leb-true 1 a u.0, leb-true a 127 v.0), w.range);
        rest = w.rest;
      }) o.4

  written_choice : (s : List ℕ) → Bytes s → two_children cho r k s ≡ term t s' k' → Written (suc d) (suc k) (2 ∷ s) t s' k'
  unfolding encode size depth
  written_choice s B e =
      let o = two d r R k s B t s' k' cho e in
      let w = o.3 in
      let p = one d r R o.2 o.1 w.rest t s' k' (cho o.0) o.4 in
      let v = p.3 in
      carry (record {
        bytes = rw (append_assoc, ← v.bytes, ← w.bytes);
        nodes = omega (arith, w.nodes, v.nodes);
        deep = omega (arith, w.deep, v.deep);
        range = (w.range, v.range);
        rest = v.rest;
      }) p.4

  written_parallel : (s : List ℕ) → Bytes s → two_children par r k s ≡ term t s' k' → Written (suc d) (suc k) (3 ∷ s) t s' k'
  unfolding encode size depth
  written_parallel s B e =
      let o = two d r R k s B t s' k' par e in
      let w = o.3 in
      let p = one d r R o.2 o.1 w.rest t s' k' (par o.0) o.4 in
      let v = p.3 in
      carry (record {
        bytes = rw (append_assoc, ← v.bytes, ← w.bytes);
        nodes = omega (arith, w.nodes, v.nodes);
        deep = omega (arith, w.deep, v.deep);
        range = (w.range, v.range);
        rest = v.rest;
      }) p.4

  written_node : (b : ℕ) (s : List ℕ) → Bytes s → node (kind_of b) r k s ≡ term t s' k' → Written (suc d) (suc k) (b ∷ s) t s' k'
  unfolding node kind_of encode size depth
  written_node zero s B e = carry (record { bytes = refl; nodes = omega arith; deep = omega arith; range = tt; rest = B }) e
  written_node (suc zero) [] B e = no_term e
  written_node (suc zero) (a ∷ []) B e = no_term e
  written_node (suc zero) (a ∷ (h ∷ [])) B e = no_term e
  written_node (suc zero) (a ∷ (h ∷ (l ∷ s))) B e = written_prefix a h l s B e
  written_node (suc (suc zero)) s B e = written_choice s B e
  written_node (suc (suc (suc zero))) s B e = written_parallel s B e
  written_node (suc (suc (suc (suc zero)))) [] B e = no_term e
  written_node (suc (suc (suc (suc zero)))) (a ∷ s) B e = written_restriction a s B e
  written_node (suc (suc (suc (suc (suc b))))) s B e = no_term e

-- reading is unique: only the record of a term within the limits is read as that term
pub read_written : (d k : ℕ) (s : List ℕ) (t : Term) (s' : List ℕ) (k' : ℕ) → Bytes s → read d k s ≡ term t s' k' → Written d k s t s' k'
unfolding read Reader
read_written zero k [] t s' k' B e = no_term e
read_written zero k (b ∷ s) t s' k' B e = no_term e
read_written (suc d) zero [] t s' k' B e = no_term e
read_written (suc d) zero (b ∷ s) t s' k' B e = no_term e
read_written (suc d) (suc k) [] t s' k' B e = no_term e
read_written (suc d) (suc k) (b ∷ s) t s' k' B e = written_node d (read d) (read_written d) k t s' k' b s B.1 e

-- a whole record that was read
finish_opened : (o : Reading) (t : Term) → finish o ≡ opened t → (k : ℕ) × (o ≡ term t [] k)
unfolding finish
finish_opened (Reading.refused c) t e = let z : ◌≡◌ {A = ℕ} 0 1 = cc in absurd (omega arith)
finish_opened (term u [] k) t e = (k, cc)
finish_opened (term u (b ∷ s) k) t e = let z : ◌≡◌ {A = ℕ} 0 1 = cc in absurd (omega arith)

pub encode-decode : (s : List ℕ) (t : Term) → Bytes s → Reads s t → (encode t ≡ s) × Fits t
unfolding decode
encode-decode s t B e =
    let o = finish_opened (read depth_limit node_limit s) t e in
    let w = read_written depth_limit node_limit s t [] o.0 B o.1 in
    (sym (w.bytes ∙ append-nil (encode t)), record { range = w.range; deep = w.deep; nodes = omega (arith, w.nodes) })
