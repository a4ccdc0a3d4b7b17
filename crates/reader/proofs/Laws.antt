-- Reading a term at a place: a law for each way it can go. A recursive function that reads and computes something at once cites them at its returns.
use mathlib.Core.Path.{◌≡◌, refl, sym, subst, ◌∙◌}
use mathlib.Core.Logic.{◌⊎◌, inl, inr}
use mathlib.Core.List.{List, [], ◌∷◌}
use Prim.Native.Nat.{ℕ, zero, suc, ◌+◌, ◌-◌, ◌<◌, ◌≤◌}
use native.Mathlib.Numerals.{add-one, sub-one}
use native.Mathlib.Omega.{arith}
use lib.ListN.{length, drop, get_or, drop_of_length-le, length-append}
use lib.Seq.{drop-cons}
use Rattle.ccsk.specs.Term.{Term, nil, pre, cho, par, res, size}
use Rattle.format.specs.Read.{refused, kind_of, key_of, node, read}
use Rattle.format.specs.Encode.{encode}
use Rattle.std.specs.Prelude.{Result, Ok, Err}
use Rattle.shared.specs.declared.Refusal.{Refusal}
use Rattle.shared.specs.Refusal.{number}
use Rattle.reader.specs.declared.Head.{Head}
use Rattle.reader.specs.Kind.{byte_of}
use Rattle.reader.specs.Head.{body, count_of_children, under, NoNodeAt, Headed}
use Rattle.reader.specs.Walk.{Stops, Walks, NodeDue, Due}
use Rattle.reader.proofs.Heads.{by_kind}

read_nothing : (d k : ℕ) → read d k [] ≡ refused 1
unfolding read
read_nothing zero k = refl
read_nothing (suc d) zero = refl
read_nothing (suc d) (suc k) = refl

read_too_deep : (d k b : ℕ) (s : List ℕ) → d ≡ 0 → read d k (b ∷ s) ≡ refused 2
unfolding read
read_too_deep zero k b s e = refl
read_too_deep (suc d) k b s e = absurd (omega arith)

read_too_many : (d k b : ℕ) (s : List ℕ) → k ≡ 0 → read d k (b ∷ s) ≡ refused 2
unfolding read
read_too_many zero k b s e = refl
read_too_many (suc d) zero b s e = refl
read_too_many (suc d) (suc k) b s e = absurd (omega arith)

read_node : (d k b : ℕ) (s : List ℕ) → (d ≡ 0 → ⊥) → (k ≡ 0 → ⊥) → read d k (b ∷ s) ≡ node (kind_of b) (read (d - 1)) (k - 1) s
unfolding read
read_node zero k b s hd hk = absurd (hd refl)
read_node (suc d) zero b s hd hk = absurd (hk refl)
read_node (suc d) (suc k) b s hd hk = simp sub-one

-- bytes ended
pub stops_end : (s : List ℕ) (at d k : ℕ) → length s ≤ at → Stops s at d k 1
stops_end s at d k h = rw (drop_of_length-le s h, read_nothing)

module _ (s : List ℕ) (at d k : ℕ) (hs : at < length s) where
  -- no level left, no node left
  pub stops_deep : d ≡ 0 → Stops s at d k 2
  stops_deep e = rw (drop-cons s at 0 hs, read_too_deep d k _ _ e)

  pub stops_left : k ≡ 0 → Stops s at d k 2
  stops_left e = rw (drop-cons s at 0 hs, read_too_many d k _ _ e)

  module _ (hd : d ≡ 0 → ⊥) (hk : k ≡ 0 → ⊥) where
    pub read_at : read d k (drop at s) ≡ node (kind_of (get_or s at 0)) (read (d - 1)) (k - 1) (drop (at + 1) s)
    read_at = rw (drop-cons s at 0 hs, read_node d k _ _ hd hk, add-one at)

    -- no good node stands there
    pub stops_bad : NoNodeAt s at → Stops s at d k 1
    stops_bad h = read_at ∙ h (read (d - 1)) (k - 1)

-- the answer of `node_at` where a node is due
pub due_head : (s : List ℕ) (at d k : ℕ) (h : Result Head Refusal) → at < length s → (d ≡ 0 → ⊥) → (k ≡ 0 → ⊥) → Headed s at h → Due s at d k h
due_head s at d k (Err r) hs hd hk H = rw H.0 (stops_bad s at d k hs hd hk H.1)
due_head s at d k (Ok h) hs hd hk H = record { inside = hs; levels = hd; nodes = hk; good = H }

-- the answer of `node_due`, once its case is known
module _ (s : List ℕ) (at d k : ℕ) (r : Result Head Refusal) (H : Due s at d k r) where
  pub due_refused : (c : Refusal) → r ≡ Err c → Stops s at d k (number c)
  due_refused c e = subst (Due s at d k) e H

  pub due_node : (h : Head) → r ≡ Ok h → NodeDue s at d k (byte_of h.kind) h.children h.next
  due_node h e = subst (Due s at d k) e H

-- a good node is due
module _ (s : List ℕ) (at d k kind children next : ℕ) (D : NodeDue s at d k kind children next) where
  -- a good node stands there
  pub read_under : read d k (drop at s) ≡ under (kind_of kind) s at (read (d - 1)) (k - 1) (drop next s)
  read_under = read_at s at d k D.inside D.levels D.nodes ∙ rw (← D.good.byte) (D.good.shape (read (d - 1)) (k - 1))

  -- a good node of a kind that is known
  under_kind : (n : ℕ) → kind ≡ n → read d k (drop at s) ≡ under (kind_of n) s at (read (d - 1)) (k - 1) (drop next s)
  under_kind n q = subst (λ (m : ℕ). read d k (drop at s) ≡ under (kind_of m) s at (read (d - 1)) (k - 1) (drop next s)) q read_under

  ends_kind : (n : ℕ) → kind ≡ n → next ≡ at + 1 + body n
  ends_kind n q = subst (λ (m : ℕ). next ≡ at + 1 + body m) q D.good.ends

  pub walks_nil : kind ≡ 0 → Walks s at d k nil next (k - 1)
  unfolding kind_of under encode size
  walks_nil q = record { reads = under_kind 0 q; ends = omega (arith, ends_kind 0 q); nodes = omega arith }

  module _ (t : Term) (n l : ℕ) (W : Walks s next (d - 1) (k - 1) t n l) where
    pub walks_prefix : kind ≡ 1 → Walks s at d k (pre (get_or s (at + 1) 0) (key_of (get_or s (at + 2) 0) (get_or s (at + 3) 0)) t) n l
    unfolding kind_of under encode size
    walks_prefix q = record {
      reads = under_kind 1 q ∙ rw W.reads;
      ends = omega (arith, ends_kind 1 q, W.ends);
      nodes = omega (arith, W.nodes);
    }

    pub walks_restriction : kind ≡ 4 → Walks s at d k (res (get_or s (at + 1) 0) t) n l
    unfolding kind_of under encode size
    walks_restriction q = record {
      reads = under_kind 4 q ∙ rw W.reads;
      ends = omega (arith, ends_kind 4 q, W.ends);
      nodes = omega (arith, W.nodes);
    }

    module _ (u : Term) (n' l' : ℕ) (X : Walks s n (d - 1) l u n' l') where
      pub walks_choice : kind ≡ 2 → Walks s at d k (cho t u) n' l'
      unfolding kind_of under encode size
      walks_choice q = record {
        reads = under_kind 2 q ∙ rw (W.reads, X.reads);
        ends = simp length-append (omega (arith, ends_kind 2 q, W.ends, X.ends));
        nodes = omega (arith, W.nodes, X.nodes);
      }

      pub walks_parallel : kind ≡ 3 → Walks s at d k (par t u) n' l'
      unfolding kind_of under encode size
      walks_parallel q = record {
        reads = under_kind 3 q ∙ rw (W.reads, X.reads);
        ends = simp length-append (omega (arith, ends_kind 3 q, W.ends, X.ends));
        nodes = omega (arith, W.nodes, X.nodes);
      }

    -- the second child is refused
    pub stops_second : (c : ℕ) → (kind ≡ 2) ⊎ (kind ≡ 3) → Stops s n (d - 1) l c → Stops s at d k c
    unfolding kind_of under
    stops_second c (inl q) h = under_kind 2 q ∙ rw (W.reads, h)
    stops_second c (inr q) h = under_kind 3 q ∙ rw (W.reads, h)

  -- the first child is refused
  pub stops_first : (c : ℕ) → (kind ≡ 0 → ⊥) → Stops s next (d - 1) (k - 1) c → Stops s at d k c
  unfolding kind_of under
  stops_first c z h = read_under ∙ first kind D.good.known z
    where
      first : (m : ℕ) → m ≤ 4 → (m ≡ 0 → ⊥) → under (kind_of m) s at (read (d - 1)) (k - 1) (drop next s) ≡ refused c
      first = by_kind (λ m. (m ≡ 0 → ⊥) → under (kind_of m) s at (read (d - 1)) (k - 1) (drop next s) ≡ refused c)
          (λ z. absurd (z refl)) (λ z. rw h) (λ z. rw h) (λ z. rw h) (λ z. rw h)

  -- the kinds, by the number of children
  pub no_children : children ≡ 0 → kind ≡ 0
  no_children q = by_kind (λ m. count_of_children m ≡ 0 → m ≡ 0) (λ z. refl) (λ z. absurd (omega arith)) (λ z. absurd (omega arith)) (λ z. absurd (omega arith)) (λ z. absurd (omega arith))
      kind D.good.known (sym D.good.count ∙ q)

  pub one_child_lem : children ≡ 1 → (kind ≡ 1) ⊎ (kind ≡ 4)
  one_child_lem q = by_kind (λ m. count_of_children m ≡ 1 → (m ≡ 1) ⊎ (m ≡ 4)) (λ z. absurd (omega arith)) (λ z. inl refl) (λ z. absurd (omega arith)) (λ z. absurd (omega arith)) (λ z. inr refl)
      kind D.good.known (sym D.good.count ∙ q)

  pub two_children_lem : (children ≡ 0 → ⊥) → (children ≡ 1 → ⊥) → (kind ≡ 2) ⊎ (kind ≡ 3)
  two_children_lem a b = by_kind (λ m. (count_of_children m ≡ 0 → ⊥) → (count_of_children m ≡ 1 → ⊥) → (m ≡ 2) ⊎ (m ≡ 3))
      (λ a b. absurd (a refl)) (λ a b. absurd (b refl)) (λ a b. inl refl) (λ a b. inr refl) (λ a b. absurd (b refl))
      kind D.good.known (λ q. a (D.good.count ∙ q)) (λ q. b (D.good.count ∙ q))
