-- Reading what is due: the next node, and what is due after it.
use mathlib.Core.Path.{◌≡◌, refl, ap, sym, subst, ◌∙◌}
use mathlib.Core.List.{List, [], ◌∷◌}
use Prim.Native.Nat.{ℕ, zero, suc, ◌+◌, ◌-◌, ◌<◌, ◌≤◌}
use native.Mathlib.Omega.{arith}
use lib.ListN.{length, drop, get_or, set, length-set, drop_of_length-le}
use lib.Seq.{drop-cons}
use Rattle.ccsk.specs.Term.{Term, pre, cho, par, res, size}
use Rattle.format.specs.Kinds.{length_of_body}
use Rattle.format.specs.Limits.{node_limit, depth_limit}
use Rattle.format.specs.Read.{Reading, term, kind_of, key_of, onward, read, finish, decode, Refuses}
use Rattle.format.specs.Encode.{Bytes}
use Rattle.format.proofs.Unique.{read_written}
use Rattle.operations.specs.Ask.{ReadRecord, done}
use Rattle.reader.specs.Head.{count_of_children, NodeAt, under}
use Rattle.reader.specs.Walk.{Stops, NodeDue}
use Rattle.reader.specs.Due.{stacked, push, Rest, stop, rest, after, read_all, Fits, Remains, Passed}
use Rattle.reader.proofs.Heads.{by_kind}
use Rattle.reader.proofs.Laws.{read_under}
use Rattle.reader.proofs.Stack.{stacked-length, stacked_top, pushed}

-- after a term with one child, or two, comes what comes after its children
after_one : (f : Term → Term) (g : ℕ → List ℕ → Rest) (r : Reading) → after (onward r (λ t s k. term (f t) s k)) g ≡ after r g
after_one f g (Reading.refused c) = refl
after_one f g (term t s k) = refl

after_two : (f : Term → Term → Term) (q : ℕ → List ℕ → Reading) (g : ℕ → List ℕ → Rest) (r : Reading)
    → after (onward r (λ t s k. onward (q k s) (λ u s k. term (f t u) s k))) g ≡ after r (λ k s. after (q k s) g)
after_two f q g (Reading.refused c) = refl
after_two f q g (term t s k) = after_one (f t) g (q k s)

-- no more than two children
pub children_most : (kind : ℕ) → kind ≤ 4 → count_of_children kind ≤ 2
children_most = by_kind (λ m. count_of_children m ≤ 2) (omega arith) (omega arith) (omega arith) (omega arith) (omega arith)

-- a node under which its children are due
under_all : (s : List ℕ) (at d k : ℕ) (s' : List ℕ) (ds : List ℕ) (kind : ℕ) → kind ≤ 4
    → after (under (kind_of kind) s at (read d) k s') (read_all ds) ≡ read_all (push (count_of_children kind) d ds) k s'
unfolding kind_of under read_all push
under_all s at d k s' ds = by_kind (λ m. after (under (kind_of m) s at (read d) k s') (read_all ds) ≡ read_all (push (count_of_children m) d ds) k s')
    refl
    (after_one (pre (get_or s (at + 1) 0) (key_of (get_or s (at + 2) 0) (get_or s (at + 3) 0))) (read_all ds) (read d k s'))
    (after_two cho (read d) (read_all ds) (read d k s'))
    (after_two par (read d) (read_all ds) (read d k s'))
    (after_one (res (get_or s (at + 1) 0)) (read_all ds) (read d k s'))

-- the children have a level less, and one of them stands in the node's place
push_fits : (c d : ℕ) (ds : List ℕ) → c ≤ 2 → 0 < d → d + length ds ≤ depth_limit → Fits ds → Fits (push c (d - 1) ds)
unfolding push
push_fits zero d ds u p h f = f
push_fits (suc zero) d ds u p h f = (omega arith, f)
push_fits (suc (suc zero)) d ds u p h f = (omega arith, (omega arith, f))
push_fits (suc (suc (suc c))) d ds u p h f = absurd (omega arith)

-- the whole record, from what all its bytes come to
module _ (s : List ℕ) where
  all_stops : (c : ℕ) → read_all (depth_limit ∷ []) node_limit s ≡ stop c → Refuses s c
  unfolding read_all decode finish
  all_stops c e = at (read depth_limit node_limit s) refl e
    where
      at : (r : Reading) → read depth_limit node_limit s ≡ r → after r (λ k s. rest s k) ≡ stop c → Refuses s c
      at (Reading.refused b) q e = let z : b ≡ c = cc in rw (q, z)
      at (term t s' k) q e = let z : ◌≡◌ {A = ℕ} 0 1 = cc in absurd (omega arith)

  all_reads : (s' : List ℕ) (l : ℕ) → read_all (depth_limit ∷ []) node_limit s ≡ rest s' l → (t : Term) × (read depth_limit node_limit s ≡ term t s' l)
  unfolding read_all
  all_reads s' l e = at (read depth_limit node_limit s) refl e
    where
      at : (r : Reading) → read depth_limit node_limit s ≡ r → after r (λ k s. rest s k) ≡ rest s' l → (t : Term) × (read depth_limit node_limit s ≡ term t s' l)
      at (Reading.refused b) q e = let z : ◌≡◌ {A = ℕ} 0 1 = cc in absurd (omega arith)
      at (term t s₁ k) q e = let z : s₁ ≡ s' = cc in let y : k ≡ l = cc in (t, q ∙ rw (z, y))

  -- before the first node
  pub at_start : (levels : List ℕ) → length levels ≡ suc depth_limit → get_or levels 0 0 ≡ depth_limit → Remains s levels 1 node_limit 0
  at_start levels r e = record { same = rw e; fits = rw e (omega arith, tt); room = r; few = omega arith }

  module _ (levels : List ℕ) (many left at : ℕ) (A : Remains s levels many left at) where
    -- nothing is due any more: bytes that are left are refused, and else all nodes are counted
    module _ (z : many ≡ 0) where
      all : (t : Term) × (read depth_limit node_limit s ≡ term t (drop at s) left)
      unfolding read_all
      all = all_reads (drop at s) left (sym A.same ∙ rw z)

      pub more_bytes : at < length s → Refuses s 1
      unfolding decode finish
      more_bytes h = rw (all.1, drop-cons s at 0 h)

      pub no_more_bytes : Bytes s → length s ≤ at → ReadRecord s 0 (node_limit - left)
      unfolding decode finish
      no_more_bytes B h =
          let w = read_written depth_limit node_limit s all.0 (drop at s) left B all.1 in
          let e : size all.0 ≡ node_limit - left = omega (arith, w.nodes) in
          subst (ReadRecord s 0) e (done (rw (all.1, drop_of_length-le s h)))

    -- the next node is due
    module _ (m : 0 < many) where
      split : Fits (get_or levels (many - 1) 0 ∷ stacked (many - 1) levels)
      split = subst Fits (stacked_top many levels m) A.fits

      pub top_inside : many - 1 < 257
      top_inside = omega (arith, split.0, stacked-length (many - 1) levels)

      ahead : after (read (get_or levels (many - 1) 0) left (drop at s)) (read_all (stacked (many - 1) levels)) ≡ read_all (depth_limit ∷ []) node_limit s
      unfolding read_all
      ahead = sym (ap (λ ds. read_all ds left (drop at s)) (stacked_top many levels m)) ∙ A.same

      pub refuse : (c : ℕ) → Stops s at (get_or levels (many - 1) 0) left c → Refuses s c
      refuse c h = all_stops c (sym ahead ∙ rw h)

      module _ (kind children next : ℕ) (D : NodeDue s at (get_or levels (many - 1) 0) left kind children next) where
        pub many_inside : many < 257
        many_inside = omega (arith, split.0, stacked-length (many - 1) levels, D.levels)

        -- the node gives way to its children, which have a level less
        goes_on : (v : ℕ) → v ≡ get_or levels (many - 1) 0 - 1 → Remains s (set (set levels (many - 1) v) many v) (many - 1 + children) (left - 1) next
        goes_on v e = record {
          same = rw new (sym (ap (λ r. after r (read_all (stacked (many - 1) levels))) (read_under s at _ left kind children next D)
              ∙ under_all s at _ (left - 1) (drop next s) (stacked (many - 1) levels) kind D.good.known) ∙ ahead);
          fits = rw new (push_fits (count_of_children kind) _ (stacked (many - 1) levels) (children_most kind D.good.known) (omega (arith, D.levels)) split.0 split.1);
          room = simp length-set A.room;
          few = omega (arith, A.few);
        }
          where
            new : stacked (many - 1 + children) (set (set levels (many - 1) v) many v) ≡ push (count_of_children kind) (get_or levels (many - 1) 0 - 1) (stacked (many - 1) levels)
            new = rw (D.good.count, e) (pushed many levels _ _ (stacked_top many levels m) _ (omega (arith, A.room, many_inside)) (omega (arith, A.room, many_inside)) (count_of_children kind) (children_most kind D.good.known))

        pub passed : (v : ℕ) → v ≡ get_or levels (many - 1) 0 - 1 → Passed s at left many kind children next (set (set levels (many - 1) v) many v)
        passed v e = record { inside = D.inside; nodes = omega (arith, D.nodes); deep = omega (arith, many_inside); good = D.good; remains = goes_on v e }

-- a prefix's key ends within the record
pub key_inside : {s : List ℕ} {at kind children next : ℕ} → NodeAt s at kind children next → get_or s at 0 ≡ 1 → at + 3 < length s
key_inside {kind = kind} N e = let z : length_of_body kind ≡ 3 = ap length_of_body (N.byte ∙ e) in omega (arith, N.ends, N.within, z)
