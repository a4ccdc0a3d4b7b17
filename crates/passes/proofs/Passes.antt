-- What a pass makes of a record, step by step along its reading.
use mathlib.Core.Path.{◌≡◌, refl, subst}
use mathlib.Core.Logic.{◌≢◌, ◌⊎◌, inl, inr}
use mathlib.Core.List.{List}
use mathlib.Core.Bool.{Bool, true, false}
use Prim.Native.Nat.{ℕ, ◌+◌, ◌*◌, ◌-◌, ◌≤◌}
use native.Mathlib.Omega.{arith}
use lib.ListN.{length, get_or, length-append}
use Rattle.ccsk.specs.Term.{Term, Node, nil, pre, cho, par, res, size}
use Rattle.format.specs.Encode.{encode}
use Rattle.format.specs.Read.{key_of}
use Rattle.format.specs.Limits.{node_limit}
use Rattle.reader.specs.Head.{body}
use Rattle.reader.specs.Walk.{Walks, NodeDue}
use Rattle.reader.specs.declared.Kind.{Kind}
use Rattle.reader.specs.declared.Kind.TheVariants.{Nil, Prefix, Choice, Parallel, Restriction}
use Rattle.reader.specs.Kind.{byte_of}
use Rattle.reader.proofs.Heads.{by_kind}
use Rattle.reader.proofs.Laws.{walks_nil, walks_prefix, walks_restriction, walks_choice, walks_parallel}
use Rattle.std.specs.Prelude.{Result, Ok}
use Rattle.shared.specs.declared.Refusal.{Refusal}
use Rattle.passes.specs.declared.Done.{Done}
use Rattle.passes.specs.Part.{two, OverPrefix, OverRestriction, OverTwo}
use Rattle.passes.specs.Pass.{Passed}

-- a term takes at most four bytes a node
encode_short : (t : Term) → length (encode t) ≤ 4 * size t
unfolding encode size
encode_short nil = omega arith
encode_short (pre a k t) = omega (arith, encode_short t)
encode_short (cho t u) = rw length-append (omega (arith, encode_short t, encode_short u))
encode_short (par t u) = rw length-append (omega (arith, encode_short t, encode_short u))
encode_short (res a t) = omega (arith, encode_short t)

-- the kinds with two children
pub sides : (kind : Kind) → kind ≢ Nil → kind ≢ Prefix → kind ≢ Restriction → (byte_of kind ≡ 2) ⊎ (byte_of kind ≡ 3)
sides Nil a b c = absurd (a refl)
sides Prefix a b c = absurd (b refl)
sides Choice a b c = inl refl
sides Parallel a b c = inr refl
sides Restriction a b c = absurd (c refl)

module _ {P : Type 0} (fits : ℕ → Node → Term → P → Type 0) where
  -- with d levels and k nodes left, a term with this part stands at the place `at` of s; it ends at `next`, and l nodes may still come
  abbrev pub PartAt : List ℕ → ℕ → ℕ → ℕ → ℕ → ℕ → P → Type 0
  PartAt s at d k next l p = (t : Term) × Walks s at d k t next l × fits at (node_limit - k) t p

  -- the answer of a pass, once its case is known
  pub passed_part : (s : List ℕ) (at d k : ℕ) (r : Result (Done P) Refusal) → Passed fits s at d k r → (done : Done P) → r ≡ Ok done
      → PartAt s at d k done.next done.left done.part
  passed_part s at d k r w done e = subst (Passed fits s at d k) e w

  module _ (s : List ℕ) (at d k next l : ℕ) (p : P) (w : PartAt s at d k next l p) (lim : k ≤ node_limit) where
    -- no more nodes are left than before
    pub few_left : l ≤ node_limit
    few_left = omega (arith, w.1.nodes)

    -- four bytes a node are enough for what is read and what may still come
    pub near : at + 4 * k ≤ 4 * node_limit → next + 4 * l ≤ 4 * node_limit
    near h = omega (arith, w.1.ends, w.1.nodes, encode_short w.0)

  module _ (s : List ℕ) (at d k kind children next : ℕ) (D : NodeDue s at d k kind children next) (lim : k ≤ node_limit) where
    pub part_nil : kind ≡ 0 → (p : P) → ((i n : ℕ) → fits i n nil p) → PartAt s at d k next (k - 1) p
    part_nil q p f = (nil, walks_nil s at d k kind children next D q, f at (node_limit - k))

    ends : (n : ℕ) → kind ≡ n → next ≡ at + 1 + body n
    ends n q = subst (λ (m : ℕ). next ≡ at + 1 + body m) q D.good.ends

    -- a body has at most three bytes
    pub next_near : next ≤ at + 4
    next_near = omega (arith, D.good.ends, by_kind (λ m. body m ≤ 3) (omega arith) (omega arith) (omega arith) (omega arith) (omega arith) kind D.good.known)

    -- the part of a child, at the place and the node number that the parent gives it
    moved_to : (i j n m : ℕ) (t : Term) (p : P) → i ≡ j → n ≡ m → fits i n t p → fits j m t p
    moved_to i j n m t p e f y = subst (λ (x : ℕ). fits x m t p) e (subst (λ (x : ℕ). fits i x t p) f y)

    module _ (n l : ℕ) (below : P) (w : PartAt s next (d - 1) (k - 1) n l below) where
      pub part_prefix : kind ≡ 1 → (p : P) → OverPrefix fits at (node_limit - k) (get_or s (at + 1) 0) (key_of (get_or s (at + 2) 0) (get_or s (at + 3) 0)) below p → PartAt s at d k n l p
      part_prefix z p o = (_, walks_prefix s at d k kind children next D w.0 n l w.1 z, o w.0 (moved_to next (at + 4) _ _ w.0 below (omega (arith, ends 1 z)) (omega (arith, D.nodes)) w.2))

      pub part_restriction : kind ≡ 4 → (p : P) → OverRestriction fits (get_or s (at + 1) 0) below p → PartAt s at d k n l p
      part_restriction z p o = (_, walks_restriction s at d k kind children next D w.0 n l w.1 z, o at (node_limit - k) w.0 (moved_to next (at + 2) _ _ w.0 below (omega (arith, ends 4 z)) (omega (arith, D.nodes)) w.2))

      module _ (m j : ℕ) (other : P) (v : PartAt s n (d - 1) l m j other) where
        both : (b : Bool) (p : P) (g : ℕ) → kind ≡ g → body g ≡ 0 → OverTwo fits b below other p → fits at (node_limit - k) (two b w.0 v.0) p
        both b p g z y o = o at (node_limit - k) w.0 v.0
            (moved_to next (at + 1) _ _ w.0 below (omega (arith, ends g z)) (omega (arith, D.nodes)) w.2)
            (moved_to n (at + 1 + length (encode w.0)) _ _ v.0 other (omega (arith, ends g z, w.1.ends)) (omega (arith, w.1.nodes)) v.2)

        pub part_two : (b : Bool) (p : P) → (kind ≡ 2) ⊎ (kind ≡ 3) → (b ≡ true → kind ≡ 3) → (b ≡ false → kind ≡ 3 → ⊥) → OverTwo fits b below other p → PartAt s at d k m j p
        part_two true p e y f o = (_, walks_parallel s at d k kind children next D w.0 n l w.1 v.0 m j v.1 (y refl), both true p 3 (y refl) refl o)
        part_two false p (inl z) y f o = (_, walks_choice s at d k kind children next D w.0 n l w.1 v.0 m j v.1 z, both false p 2 z refl o)
        part_two false p (inr z) y f o = absurd (f refl z)
