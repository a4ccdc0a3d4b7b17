-- The only refusals of bytes are 1 and 2.
use mathlib.Core.Path.{◌≡◌, refl, subst}
use mathlib.Core.Logic.{◌⊎◌, inl, inr}
use mathlib.Core.List.{List, [], ◌∷◌}
use mathlib.Core.Bool.{Bool, true, false}
use Prim.Native.Nat.{ℕ, zero, suc}
use native.Mathlib.Omega.{arith}
use lib.Dec.{eqb, leb}
use Rattle.ccsk.specs.Term.{Term, pre, cho, par, res}
use Rattle.format.specs.Limits.{node_limit, depth_limit}
use Rattle.format.specs.Read.{Reading, Reading.refused, term, Kind, nil-kind, prefix-kind, choice-kind, parallel-kind, restriction-kind, no_kind, kind_of, node, read, key_of, onward, unless, provided, one_child, two_children, finish, decode, Opened, Opened.refused, Refuses}

-- the reading is a term, or a refusal with 1 or 2
abbrev Known : Reading → Type 0
Known (Reading.refused c) = (c ≡ 1) ⊎ (c ≡ 2)
Known (term t s k) = Unit {0}

known_onward : (o : Reading) (f : Term → List ℕ → ℕ → Reading) → Known o → ((t : Term) (s : List ℕ) (k : ℕ) → Known (f t s k)) → Known (onward o f)
known_onward (Reading.refused c) f h g = h
known_onward (term t s k) f h g = g t s k

known_unless : (b : Bool) (r : Reading) → Known r → Known (unless b r)
known_unless true r h = inl refl
known_unless false r h = h

known_provided : (b : Bool) (r : Reading) → Known r → Known (provided b r)
known_provided true r h = h
known_provided false r h = inl refl

module _ (r : ℕ → List ℕ → Reading) (R : (k : ℕ) (s : List ℕ) → Known (r k s)) where
  known_one : (f : Term → Term) (k : ℕ) (s : List ℕ) → Known (one_child f r k s)
  known_one f k s = known_onward (r k s) (λ t s k. term (f t) s k) (R k s) (λ t s k. tt)

  known_two : (f : Term → Term → Term) (k : ℕ) (s : List ℕ) → Known (two_children f r k s)
  known_two f k s = known_onward (r k s) (λ t s k. onward (r k s) (λ u s k. term (f t u) s k)) (R k s) (λ t s k. known_one (f t) k s)

  known_node : (b : Kind) (k : ℕ) (s : List ℕ) → Known (node b r k s)
  unfolding node
  known_node nil-kind k s = tt
  known_node prefix-kind k [] = inl refl
  known_node prefix-kind k (a ∷ []) = inl refl
  known_node prefix-kind k (a ∷ (h ∷ [])) = inl refl
  known_node prefix-kind k (a ∷ (h ∷ (l ∷ s))) = known_unless (eqb a 128) (one_child (pre a (key_of h l)) r k s) (known_one (pre a (key_of h l)) k s)
  known_node choice-kind k s = known_two cho k s
  known_node parallel-kind k s = known_two par k s
  known_node restriction-kind k [] = inl refl
  known_node restriction-kind k (a ∷ s) =
      known_provided (leb 1 a) (provided (leb a 127) (one_child (res a) r k s)) (known_provided (leb a 127) (one_child (res a) r k s) (known_one (res a) k s))
  known_node no_kind k s = inl refl

known_read : (d k : ℕ) (s : List ℕ) → Known (read d k s)
unfolding read
known_read zero k [] = inl refl
known_read zero k (b ∷ s) = inr refl
known_read (suc d) zero [] = inl refl
known_read (suc d) zero (b ∷ s) = inr refl
known_read (suc d) (suc k) [] = inl refl
known_read (suc d) (suc k) (b ∷ s) = known_node (read d) (known_read d) (kind_of b) k s

known_finish : (o : Reading) → Known o → (c : ℕ) → finish o ≡ Opened.refused c → (c ≡ 1) ⊎ (c ≡ 2)
unfolding finish
known_finish (Reading.refused c') h c e = let q : c' ≡ c = cc in subst (λ (c : ℕ). (c ≡ 1) ⊎ (c ≡ 2)) q h
known_finish (term t [] k) h c e = let z : ◌≡◌ {A = ℕ} 0 1 = cc in absurd (omega arith)
known_finish (term t (b ∷ s) k) h c e = inl (cc)

pub decode_refusals : (s : List ℕ) (c : ℕ) → Refuses s c → (c ≡ 1) ⊎ (c ≡ 2)
unfolding decode
decode_refusals s c e = known_finish (read depth_limit node_limit s) (known_read depth_limit node_limit s) c e
