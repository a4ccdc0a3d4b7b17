-- What is noted of a node, from what it notes itself and what is noted of its children.
use mathlib.Core.Path.{◌≡◌, refl, sym, ◌∙◌}
use mathlib.Core.Logic.{◌≢◌}
use mathlib.Core.List.{List, [], ◌++◌, append-nil, append_assoc}
use mathlib.Core.Bool.{Bool, true, false, cond, not, ◌||◌}
use Prim.Native.Nat.{ℕ, zero, suc, ◌+◌, ◌≤◌}
use native.Mathlib.Decide.{ℕ_discrete}
use native.Mathlib.Omega.{arith}
use borrow.Author.Tests.{eq-eqb, ne_eqb}
use lib.Dec.{eqb}
use lib.ListN.{length, take, length-append}
use lib.Seq.{length-take-le, set-set, set-get_or}
use Rattle.ccsk.specs.Term.{Term, Key, Node, nil, pre, cho, par, res, keys, done, size}
use Rattle.moves.specs.Move.{holds}
use Rattle.lasts.specs.declared.Last.{Last}
use Rattle.lasts.specs.Last.{Scopes, slot, scope_of, enclosed, last_over_prefix, last_over_choice, lasts}
use Rattle.noting.specs.declared.Entered.{Entered}
use Rattle.noting.specs.declared.Notes.{Notes}
use Rattle.noting.specs.Node.{noted_keys, noted_lasts, key_standing_at, name_at, Enters, OverPrefix, OverRestriction, OverTwo}
use Rattle.noting.proofs.Rows.{cut_back}
use Rattle.gather.specs.Gather.{Noted}

done_front : (k : Key) (x : List Key) → done k x ≡ done k [] ++ x
done_front zero x = refl
done_front (suc k) x = refl

-- a term holds a key exactly if its keys were counted
both_none : (a b : ℕ) → (not (eqb a 0) || not (eqb b 0)) ≡ not (eqb (a + b) 0)
both_none zero b = let e : 0 + b ≡ b = omega arith in rw e
both_none (suc a) b = rw (ne_eqb (suc a) 0 (λ e. omega arith), ne_eqb (suc a + b) 0 (λ e. omega arith))

some_key : (t : Term) → holds t ≡ not (eqb (length (keys t)) 0)
unfolding holds keys
some_key nil = refl
some_key (pre a zero t) = some_key t
some_key (pre a (suc k) t) = rw (ne_eqb (suc k) 0 (λ e. omega arith), ne_eqb (suc (length (keys t))) 0 (λ e. omega arith))
some_key (cho t u) = rw (some_key t, some_key u, both_none (length (keys t)) (length (keys u)), length-append (keys t) (keys u))
some_key (par t u) = rw (some_key t, some_key u, both_none (length (keys t)) (length (keys u)), length-append (keys t) (keys u))
some_key (res a t) = some_key t

pub holds_counted : (t : Term) (k k' : ℕ) → k' ≡ k + length (keys t) → holds t ≡ not (eqb k' k)
holds_counted t k k' e = some_key t ∙ pick (ℕ_discrete (length (keys t)) 0)
  where
    pick : Dec (length (keys t) ≡ 0) → not (eqb (length (keys t)) 0) ≡ not (eqb k' k)
    pick (yes z) = rw (eq-eqb (length (keys t)) 0 z, eq-eqb k' k (omega arith))
    pick (no z) = rw (ne_eqb (length (keys t)) 0 z, ne_eqb k' k (λ q. z (omega arith)))

-- no more lasts than keys
prefix_few : (k : Key) (e : Last) (h : Bool) (x : List Last) (y : List Key) → length x ≤ length y → length (last_over_prefix (eqb k 0) h e x) ≤ length (done k y)
prefix_few zero e h x y l = omega arith
prefix_few (suc k) e true x y l = rw (ne_eqb (suc k) 0 (λ z. omega arith)) (omega arith)
prefix_few (suc k) e false x y l = rw (ne_eqb (suc k) 0 (λ z. omega arith)) (omega arith)

choice_few : (f g : Bool) (x y : List Last) (v w : List Key) → length x ≤ length v → length y ≤ length w → length (last_over_choice f g x y) ≤ length (v ++ w)
choice_few true true x y v w h i = omega arith
choice_few true false x y v w h i = rw (length-append x y, length-append v w) (omega arith)
choice_few false g x y v w h i = rw (length-append x y, length-append v w) (omega arith)

pub lasts_few : (n : Node) (s : Scopes) (t : Term) → length (lasts n s t) ≤ length (keys t)
unfolding lasts keys
lasts_few n s nil = omega arith
lasts_few n s (pre a k t) = prefix_few k _ (holds t) (lasts (n + 1) s t) (keys t) (lasts_few (n + 1) s t)
lasts_few n s (cho t u) = choice_few (holds t) (holds u) (lasts (n + 1) s t) (lasts (n + 1 + size t) s u) (keys t) (keys u) (lasts_few (n + 1) s t) (lasts_few (n + 1 + size t) s u)
lasts_few n s (par t u) = choice_few false false (lasts (n + 1) s t) (lasts (n + 1 + size t) s u) (keys t) (keys u) (lasts_few (n + 1) s t) (lasts_few (n + 1 + size t) s u)
lasts_few n s (res a t) = lasts_few (n + 1) (enclosed a n s) t

-- what is noted of a node, from what is noted of its children
pub noted_nil : (n : ℕ) (b : Notes) → Noted n nil b b
unfolding keys lasts
noted_nil n b = record {
  same_scopes = refl;
  more_keys = sym (append-nil (noted_keys b));
  key_count = omega arith;
  more_lasts = sym (append-nil (noted_lasts b));
  last_count = omega arith;
}

-- a node that is entered, its first child, and the node left
module _ (s : List ℕ) (at kind n : ℕ) (b b₁ b₂ : Notes) (r : Entered) (t : Term) (E : Enters s at kind n b b₁ r) (N : Noted (n + 1) t b₁ b₂) where
  abbrev same : (c : Scopes) → Type 0
  same c = (noted_lasts b₂ ≡ noted_lasts b ++ lasts (n + 1) c t) × (b₂.last_count ≡ b.last_count + length (lasts (n + 1) c t))

  -- no last is noted as the node is entered
  below : (c : Scopes) → b₁.scopes ≡ c → same c
  below c e = (rw (E.same_lasts.0, E.same_lasts.1, e) at N.more_lasts, rw (E.same_lasts.1, e) at N.last_count)

  pub noted_prefix : kind ≡ 1 → b.last_count ≤ length b.lasts → (b₃ : Notes) → OverPrefix s at r b₂ b₃ → Noted n (pre (name_at s at) (key_standing_at s at) t) b b₃
  unfolding keys lasts
  noted_prefix q h b₃ O =
      let e : b₁.scopes ≡ b.scopes = E.unopened (λ z. omega arith) in
      let f : b₂.scopes ≡ b.scopes = N.same_scopes ∙ e in
      let x = below b.scopes e in
      let w = O.2 (noted_lasts b) (lasts (n + 1) b.scopes t) (length-take-le b.last_count b.lasts h ∙ sym E.counts.1) (rw E.counts.1 x.1) x.0 in
      let g : holds t ≡ not (eqb b₂.key_count r.keys) = rw E.counts.0 (holds_counted t b₁.key_count b₂.key_count N.key_count) in record {
        same_scopes = O.0 ∙ f;
        more_keys = rw (O.1.0, O.1.1) (N.more_keys ∙ rw ((E.noted q).0, append_assoc (noted_keys b) (done (key_standing_at s at) []) (keys t), ← done_front (key_standing_at s at) (keys t)));
        key_count = rw (O.1.1, done_front (key_standing_at s at) (keys t), length-append (done (key_standing_at s at) []) (keys t)) (omega (arith, N.key_count, (E.noted q).1));
        more_lasts = rw g (rw f at w.0);
        last_count = rw (g, ← E.counts.1) (rw f at w.1);
      }

  pub noted_restriction : kind ≡ 4 → (b₃ : Notes) → OverRestriction s at r b₂ b₃ → Noted n (res (name_at s at) t) b b₃
  unfolding keys lasts
  noted_restriction q b₃ O = let o = E.other (λ z. omega arith) in let e = E.opened q in let x = below (enclosed (name_at s at) n b.scopes) e.0 in record {
    same_scopes = O.0 ∙ rw (N.same_scopes, e.0, e.1, set-set b.scopes (slot (name_at s at)) (n + 1) (scope_of b.scopes (name_at s at)), set-get_or b.scopes (slot (name_at s at)) 0);
    more_keys = rw (O.1.0, O.1.1) (rw (o.0, o.1) at N.more_keys);
    key_count = O.1.1 ∙ rw o.1 at N.key_count;
    more_lasts = rw (O.2.0, O.2.1) x.0;
    last_count = O.2.1 ∙ x.1;
  }

  -- the first side of a choice or a parallel
  pub noted_first : kind ≢ 1 → kind ≢ 4 → Noted (n + 1) t b b₂
  noted_first p q = let o = E.other p in let e = E.unopened q in let x = below b.scopes e in record {
    same_scopes = N.same_scopes ∙ e;
    more_keys = rw (o.0, o.1) at N.more_keys;
    key_count = rw o.1 at N.key_count;
    more_lasts = x.0;
    last_count = x.1;
  }

-- a parallel or a choice, whose sides are noted one after the other
module _ (n : ℕ) (t u : Term) (b b₁ b₂ b₃ : Notes) (r : Entered) (h : b.last_count ≤ length b.lasts) (N : Noted (n + 1) t b b₁) (M : Noted (n + 1 + size t) u b₁ b₂) (kind : ℕ) (O : OverTwo kind r b₁.key_count b₂ b₃) where
  both_keys : noted_keys b₃ ≡ noted_keys b ++ (keys t ++ keys u)
  both_keys = rw (O.1.0, O.1.1) (M.more_keys ∙ rw (N.more_keys, append_assoc (noted_keys b) (keys t) (keys u)))

  both_key_count : b₃.key_count ≡ b.key_count + length (keys t ++ keys u)
  both_key_count = rw (O.1.1, length-append (keys t) (keys u)) (omega (arith, N.key_count, M.key_count))

  abbrev x : List Last
  x = lasts (n + 1) b.scopes t

  abbrev y : List Last
  y = lasts (n + 1 + size t) b.scopes u

  both_lasts : noted_lasts b₂ ≡ noted_lasts b ++ (x ++ y)
  both_lasts = M.more_lasts ∙ rw (N.more_lasts, N.same_scopes, append_assoc (noted_lasts b) x y)

  both_last_count : b₂.last_count ≡ b.last_count + length (x ++ y)
  both_last_count = let e = rw N.same_scopes at M.last_count in rw (length-append x y) (omega (arith, N.last_count))

  pub noted_parallel : kind ≢ 2 → Noted n (par t u) b b₃
  unfolding keys lasts
  noted_parallel z = let e : b₃.last_count ≡ b₂.last_count = rw (ne_eqb kind 2 z) at O.3 in record {
    same_scopes = O.0 ∙ M.same_scopes ∙ N.same_scopes;
    more_keys = both_keys;
    key_count = both_key_count;
    more_lasts = rw (O.2, e) both_lasts;
    last_count = e ∙ both_last_count;
  }

  choice_lasts : (f g : Bool) → (l : ℕ) → l ≡ cond f b₂.last_count (cond g b₂.last_count b.last_count)
      → (take l b₂.lasts ≡ noted_lasts b ++ last_over_choice (not f) (not g) x y) × (l ≡ b.last_count + length (last_over_choice (not f) (not g) x y))
  choice_lasts true g l e = (rw e both_lasts, e ∙ both_last_count)
  choice_lasts false true l e = (rw e both_lasts, e ∙ both_last_count)
  choice_lasts false false l e = (rw e (cut_back b.last_count b₂.last_count b₂.lasts (noted_lasts b) (x ++ y) (length-take-le b.last_count b.lasts h) (omega (arith, both_last_count)) both_lasts ∙ sym (append-nil (noted_lasts b))), omega arith)

  pub noted_choice : kind ≡ 2 → r.keys ≡ b.key_count → r.lasts ≡ b.last_count → Noted n (cho t u) b b₃
  unfolding keys lasts
  noted_choice q i j = let w = choice_lasts (eqb b₁.key_count b.key_count) (eqb b₂.key_count b₁.key_count) b₃.last_count (rw (eq-eqb kind 2 q, i, j) at O.3) in record {
    same_scopes = O.0 ∙ M.same_scopes ∙ N.same_scopes;
    more_keys = both_keys;
    key_count = both_key_count;
    more_lasts = rw (O.2, holds_counted t b.key_count b₁.key_count N.key_count, holds_counted u b₁.key_count b₂.key_count M.key_count) w.0;
    last_count = rw (holds_counted t b.key_count b₁.key_count N.key_count, holds_counted u b₁.key_count b₂.key_count M.key_count) w.1;
  }
