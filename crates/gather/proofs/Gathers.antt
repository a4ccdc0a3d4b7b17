-- What the pass notes, step by step along the reading of the record.
use mathlib.Core.Path.{◌≡◌, refl, sym, subst, ◌∙◌}
use mathlib.Core.Logic.{◌⊎◌, inl, inr, ⊎_elim, ◌≢◌}
use mathlib.Core.List.{List, []}
use Prim.Native.Nat.{ℕ, zero, suc, ◌+◌, ◌-◌, ◌≤◌}
use native.Mathlib.Decide.{ℕ_discrete}
use native.Mathlib.Omega.{arith}
use lib.ListN.{length}
use Rattle.std.specs.Prelude.{Ok}
use Rattle.ccsk.specs.Term.{Term, nil, cho, par, size, done}
use Rattle.ccsk.proofs.Keys.{keys_few}
use Rattle.format.specs.Limits.{node_limit}
use Rattle.reader.specs.declared.Kind.{Kind}
use Rattle.reader.specs.declared.Kind.TheVariants.{Nil, Prefix, Choice, Parallel, Restriction}
use Rattle.reader.specs.Kind.{byte_of}
use Rattle.reader.specs.Head.{body, count_of_children}
use Rattle.reader.specs.Walk.{Stops, NodeDue}
use Rattle.reader.proofs.KindBytes.{byte_once}
use Rattle.reader.proofs.Laws.{walks_nil, walks_prefix, walks_restriction, walks_choice, walks_parallel, no_children, stops_first, stops_second}
use Rattle.noting.specs.declared.Entered.{Entered}
use Rattle.noting.specs.declared.Notes.{Notes}
use Rattle.noting.specs.Node.{key_standing_at, Enters, OverPrefix, OverRestriction, OverTwo}
use Rattle.gather.specs.declared.Part.{Part}
use Rattle.gather.specs.Gather.{Noted, Gathers}
use Rattle.gather.proofs.Notes.{lasts_few, noted_nil, noted_prefix, noted_restriction, noted_first, noted_parallel, noted_choice}

-- entering a node notes one key at most
done_one : (k : ℕ) → length (done k []) ≤ 1
done_one zero = omega arith
done_one (suc k) = omega arith

-- there is room for the nodes that may still come
pub room_left : (s : List ℕ) (at d c : ℕ) (b b' : Notes) (r : Part) → Gathers s at d c b (Ok r) b' → b.key_count + c ≤ node_limit → b.last_count ≤ b.key_count
    → (b'.key_count + r.left ≤ node_limit) × (b'.last_count ≤ b'.key_count) × (b.key_count ≤ b'.key_count)
room_left s at d c b b' r p h i = omega (arith, p.1.nodes, p.2.key_count, p.2.last_count, keys_few p.0, lasts_few (node_limit - c) b.scopes p.0)

module _ (s : List ℕ) (at d c : ℕ) (kind : Kind) (children next : ℕ) (D : NodeDue s at d c (byte_of kind) children next) where
  ends : (n : ℕ) → byte_of kind ≡ n → next ≡ at + 1 + body n
  ends n q = subst (λ (m : ℕ). next ≡ at + 1 + body m) q D.good.ends

  no_kids : byte_of kind ≡ 0 → children ≡ 0
  no_kids z = D.good.count ∙ subst (λ (m : ℕ). count_of_children m ≡ count_of_children 0) (sym z) refl

  module _ (b : Notes) (lim : b.key_count + c ≤ node_limit) where
    pub gathers_nil : children ≡ 0 → Gathers s at d c b (Ok (record { next = next; left = c - 1 })) b
    gathers_nil q = (nil, walks_nil s at d c (byte_of kind) children next D (no_children s at d c (byte_of kind) children next D q), noted_nil (node_limit - c) b)

    module _ (some : children ≢ 0) (b₁ : Notes) (en : Entered) (E : Enters s at (byte_of kind) (node_limit - c) b b₁ en) where
      -- one key more at most
      pub entered : (b.key_count ≤ b₁.key_count) × (b₁.key_count + (c - 1) ≤ node_limit)
      entered = pick (ℕ_discrete (byte_of kind) 1)
        where
          pick : Dec (byte_of kind ≡ 1) → (b.key_count ≤ b₁.key_count) × (b₁.key_count + (c - 1) ≤ node_limit)
          pick (yes q) = omega (arith, D.nodes, (E.noted q).1, done_one (key_standing_at s at))
          pick (no q) = omega (arith, (E.other q).1)

      pub gathers_stop : (e : ℕ) → Stops s next (d - 1) (c - 1) e → Stops s at d c e
      gathers_stop e x = stops_first s at d c (byte_of kind) children next D e (λ z. some (no_kids z)) x

      -- the node number of a child
      at_node : {t : Term} {b b' : Notes} (i j : ℕ) → i ≡ j → Noted i t b b' → Noted j t b b'
      at_node {t} {b} {b'} i j e N = subst (λ (p : ℕ). Noted p t b b') e N

      module _ (b₂ : Notes) (r : Part) (w : Gathers s next (d - 1) (c - 1) b₁ (Ok r) b₂) (h : b.last_count ≤ length b.lasts) where
        t : Term
        t = w.0

        below : Noted (node_limit - c + 1) t b₁ b₂
        unfolding t
        below = at_node (node_limit - (c - 1)) (node_limit - c + 1) (omega (arith, D.nodes)) w.2

        pub gathers_prefix : kind ≡ Prefix → (b₃ : Notes) → OverPrefix s at en b₂ b₃ → Gathers s at d c b (Ok r) b₃
        unfolding t
        gathers_prefix z b₃ O = (
          _,
          walks_prefix s at d c (byte_of kind) children next D t r.next r.left w.1 (rw z),
          noted_prefix s at (byte_of kind) (node_limit - c) b b₁ b₂ en t E below (rw z) h b₃ O,
        )

        pub gathers_restriction : kind ≡ Restriction → (b₃ : Notes) → OverRestriction s at en b₂ b₃ → Gathers s at d c b (Ok r) b₃
        unfolding t
        gathers_restriction z b₃ O = (
          _,
          walks_restriction s at d c (byte_of kind) children next D t r.next r.left w.1 (rw z),
          noted_restriction s at (byte_of kind) (node_limit - c) b b₁ b₂ en t E below (rw z) b₃ O,
        )

        module _ (no_prefix : kind ≢ Prefix) (no_restriction : kind ≢ Restriction) where
          sides : (byte_of kind ≡ 2) ⊎ (byte_of kind ≡ 3)
          sides = pick kind (λ z. some (no_kids z)) no_prefix no_restriction
            where
              pick : (k : Kind) → byte_of k ≢ 0 → k ≢ Prefix → k ≢ Restriction → (byte_of k ≡ 2) ⊎ (byte_of k ≡ 3)
              pick Nil x y z = absurd (x refl)
              pick Prefix x y z = absurd (y refl)
              pick Choice x y z = inl refl
              pick Parallel x y z = inr refl
              pick Restriction x y z = absurd (z refl)

          pub gathers_second_stop : (e : ℕ) → Stops s r.next (d - 1) r.left e → Stops s at d c e
          unfolding t
          gathers_second_stop e x = stops_second s at d c (byte_of kind) children next D t r.next r.left w.1 e sides x

          pub gathers_two : (b₃ : Notes) (r₂ : Part) → Gathers s r.next (d - 1) r.left b₂ (Ok r₂) b₃ → (b₄ : Notes) → OverTwo (byte_of kind) en b₂.key_count b₃ b₄ → Gathers s at d c b (Ok r₂) b₄
          unfolding t
          gathers_two b₃ r₂ v b₄ O = ⊎_elim choice parallel sides
            where
              first : Noted (node_limit - c + 1) t b b₂
              first = noted_first s at (byte_of kind) (node_limit - c) b b₁ b₂ en t E below (λ z. no_prefix (byte_once kind Prefix z)) (λ z. no_restriction (byte_once kind Restriction z))

              beside : Noted (node_limit - c + 1 + size t) v.0 b₂ b₃
              beside = at_node (node_limit - r.left) (node_limit - c + 1 + size t) (omega (arith, w.1.nodes, D.nodes)) v.2

              choice : byte_of kind ≡ 2 → Gathers s at d c b (Ok r₂) b₄
              choice z = (
                cho t v.0,
                walks_choice s at d c (byte_of kind) children next D t r.next r.left w.1 v.0 r₂.next r₂.left v.1 z,
                noted_choice (node_limit - c) t v.0 b b₂ b₃ b₄ en h first beside (byte_of kind) O z (E.counts.0 ∙ (E.other (λ y. omega arith)).1) E.counts.1,
              )

              parallel : byte_of kind ≡ 3 → Gathers s at d c b (Ok r₂) b₄
              parallel z = (
                par t v.0,
                walks_parallel s at d c (byte_of kind) children next D t r.next r.left w.1 v.0 r₂.next r₂.left v.1 z,
                noted_parallel (node_limit - c) t v.0 b b₂ b₃ b₄ en h first beside (byte_of kind) O (λ y. omega arith),
              )
