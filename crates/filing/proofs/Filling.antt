-- Going through a record from node to node and filing its links.
use mathlib.Core.Path.{◌≡◌, refl, sym, ap, subst, ◌∙◌}
use mathlib.Core.Logic.{◌⊎◌, inl, inr, ⊎_elim, ◌↔◌}
use mathlib.Core.List.{List, [], ◌∷◌, ◌++◌, append_assoc, append-nil}
use mathlib.Core.Bool.{Bool, false, ◌||◌}
use lib.Dec.{eqb}
use Prim.Native.Nat.{ℕ, suc, ◌+◌, ◌-◌, ◌≤◌, ◌<◌}
use native.Mathlib.Omega.{arith}
use lib.ListN.{length, get_or, replicate, length-replicate}
use Rattle.ccsk.specs.Term.{Term, Key, keys, done}
use Rattle.ccsk.proofs.Lists.{get_or_zeros}
use Rattle.causes.specs.Nearest.{RightAbove}
use Rattle.format.specs.Limits.{node_limit, depth_limit}
use Rattle.format.specs.Flat.{keys_of, after, head_kind, head_key, Due, key_at}
use Rattle.format.specs.Encode.{Bytes}
use Rattle.format.specs.Kinds.{length_of_body, count_of_children}
use Rattle.format.proofs.Flat.{key_here, kind_here, due_after, children_due, all_due, keys_head, keys_one, keys_none}
use Rattle.reader.specs.Due.{stacked, push, Remains, Passed}
use Rattle.reader.proofs.Stack.{stacked_top}
use Rattle.reader.proofs.Due.{at_start, no_more_bytes}
use Rattle.keys.specs.Gather.{RecordOf, Readable}
use Rattle.keys.proofs.Reading.{was_read}
use Rattle.filing.specs.declared.Cabinet.{Cabinet}
use Rattle.filing.specs.Cabinet.{Empty, Link, Files}
use Rattle.filing.specs.Record.{below, Pushed, AllFiled, FiledUpTo, Stands}
use Rattle.filing.proofs.Drawers.{Holding, holding_none, link_none, holding_filed, link_filed, filed_few}
use Rattle.filing.proofs.Terms.{LinksOf, HeadLink, links_after, links_none}
use Rattle.filing.proofs.Standing.{Tells, tells_more, stands}

-- Up to the place `at` of the record s its links were filed, and `met` tells whether m was met. The stack has a key for each term that is due,
-- the one right above it.
pub record Filling (s : List ℕ) (m : Key) (x : Cabinet) (ups : List ℕ) (many at : ℕ) (met : Bool) : Type 0 where
  pub of : Term
  pub whole : RecordOf s of
  pub terms : List Term
  pub due : Due s at terms
  pub tall : many ≡ length terms
  pub exact : (j k : Key) → RightAbove 0 of j k ↔ (Link x j k ⊎ LinksOf (stacked many ups) terms j k)
  pub past : List Key
  pub all : past ++ keys_of terms ≡ keys of
  pub tells : Tells m past met

filling_none : (s : List ℕ) (m : Key) (x : Cabinet) → Empty x → Readable s → Filling s m x (replicate 257 0) 1 0 false
filling_none s m x E R = record {
  of = R.0;
  whole = R.1;
  terms = R.0 ∷ [];
  due = all_due s R.0 R.1.bytes;
  tall = refl;
  exact = λ j k. rw (get_or_zeros 257 0) (λ i. inr (inl i), λ i. ⊎_elim (λ l. absurd (link_none x E j k l)) (λ l. ⊎_elim (λ z. z) (λ z. absurd z) l) i);
  past = [];
  all = keys_one R.0;
  tells = λ i. i;
}

-- no term is due any more
module _ (s : List ℕ) (m : Key) (x : Cabinet) (ups : List ℕ) (many at : ℕ) (met : Bool) (P : Filling s m x ups many at met) (z : many ≡ 0) where
  none_left : P.terms ≡ []
  none_left = none P.terms P.tall
    where
      none : (ts : List Term) → many ≡ length ts → ts ≡ []
      none [] e = refl
      none (t ∷ ts) e = absurd (omega arith)

  filling_links : (j k : Key) → Link x j k ↔ RightAbove 0 P.of j k
  filling_links j k = let w = rw none_left at (P.exact j k) in (λ l. w.1 (inl l), λ i. ⊎_elim (λ l. l) (λ l. absurd (links_none (stacked many ups) j k l)) (w.0 i))

  filling_tells : Tells m (keys P.of) met
  filling_tells = subst (λ (l : List Key). Tells m l met) (sym (append-nil P.past) ∙ rw (none_left, keys_none) at P.all) P.tells

-- one node more, which holds the key k, below the key u
module _ (s : List ℕ) (m : Key) (x : Cabinet) (ups : List ℕ) (many at n : ℕ) (met : Bool) (h : at < length s) (g : 0 < many) (H : Holding x n) (f : n < node_limit) (k : Key) (q : k ≡ key_at s at)
    (u : Key) (e : u ≡ get_or ups (many - 1) 0) (y : Cabinet) (r : ℕ) (F : Files n u k x y r) (b : ℕ) (d : b ≡ get_or s at 0) (ups' : List ℕ) (many' : ℕ)
    (p : 0 < m) (G : Pushed ups many (below u k) (count_of_children b) ups' many') (P : Filling s m x ups many at met) where
  kind : b ≡ head_kind P.terms
  kind = d ∙ kind_here s at P.terms P.due h

  key : k ≡ head_key P.terms
  key = q ∙ key_here s at P.terms P.due h

  some_due : 0 < length P.terms
  some_due = omega (arith, P.tall)

  top : stacked many ups ≡ u ∷ stacked (many - 1) ups
  top = rw e (stacked_top many ups g)

  stack : stacked many' ups' ≡ push (count_of_children b) (below u k) (stacked (many - 1) ups)
  stack = G.stack u (stacked (many - 1) ups) top

  -- the first node's link is filed, and those below it are due
  links_on : (o j : Key) → RightAbove 0 P.of o j ↔ (Link y o j ⊎ LinksOf (stacked many' ups') (after P.terms) o j)
  links_on o j = rw (stack, kind, key) (λ i. there (w.0 i), λ i. w.1 (back i))
    where
      w : RightAbove 0 P.of o j ↔ (Link x o j ⊎ LinksOf (u ∷ stacked (many - 1) ups) P.terms o j)
      w = rw top at (P.exact o j)

      l : Link y o j ↔ (Link x o j ⊎ HeadLink u P.terms o j)
      l = rw key at (link_filed F H f o j)

      c : LinksOf (u ∷ stacked (many - 1) ups) P.terms o j
          ↔ (HeadLink u P.terms o j ⊎ LinksOf (push (count_of_children (head_kind P.terms)) (below u (head_key P.terms)) (stacked (many - 1) ups)) (after P.terms) o j)
      c = links_after u (stacked (many - 1) ups) P.terms some_due o j

      there : Link x o j ⊎ LinksOf (u ∷ stacked (many - 1) ups) P.terms o j
          → Link y o j ⊎ LinksOf (push (count_of_children (head_kind P.terms)) (below u (head_key P.terms)) (stacked (many - 1) ups)) (after P.terms) o j
      there (inl i) = inl (l.1 (inl i))
      there (inr i) = ⊎_elim (λ z. inl (l.1 (inr z))) inr (c.0 i)

      back : Link y o j ⊎ LinksOf (push (count_of_children (head_kind P.terms)) (below u (head_key P.terms)) (stacked (many - 1) ups)) (after P.terms) o j
          → Link x o j ⊎ LinksOf (u ∷ stacked (many - 1) ups) P.terms o j
      back (inl i) = ⊎_elim inl (λ z. inr (c.1 (inl z))) (l.0 i)
      back (inr i) = inr (c.1 (inr i))

  filling_more : Filling s m y ups' many' (at + (1 + length_of_body b)) (met || eqb k m)
  filling_more = record {
    of = P.of;
    whole = P.whole;
    terms = after P.terms;
    due = due_after s at P.terms P.due h b d;
    tall = omega (arith, G.high, P.tall, g, children_due P.terms some_due, ap count_of_children kind);
    exact = links_on;
    past = P.past ++ done k [];
    all = rw (append_assoc, key, ← keys_head P.terms) P.all;
    tells = tells_more m k P.past met p P.tells;
  }

-- Up to the place `at` the bytes s were read and links were filed, n of them. If s is a record, they are the links to its nodes before `at`,
-- and `met` tells whether m is among the keys of those.
pub record Passing (s : List ℕ) (m : Key) (x : Cabinet) (due ups : List ℕ) (many left at n : ℕ) (met : Bool) : Type 0 where
  pub remains : Remains s due many left at
  pub holding : Holding x n
  pub room : n + left ≤ node_limit
  pub long : length ups ≡ suc depth_limit
  pub filling : Readable s → Filling s m x ups many at met

pub start : (s : List ℕ) (m : Key) (x : Cabinet) (due : List ℕ) → length due ≡ suc depth_limit → get_or due 0 0 ≡ depth_limit → Empty x
    → Passing s m x due (replicate 257 0) 1 node_limit 0 0 false
start s m x due l d E = record {
  remains = at_start s due l d;
  holding = holding_none x E;
  room = omega arith;
  long = length-replicate {A = ℕ} 257 0;
  filling = filling_none s m x E;
}

-- the next node is passed
module _ (s : List ℕ) (m : Key) (x : Cabinet) (due ups : List ℕ) (many left at n : ℕ) (met : Bool) (P : Passing s m x due ups many left at n met) (g : 0 < many)
    (kind children next : ℕ) (due' : List ℕ) (N : Passed s at left many kind children next due') where
  link_room : n < node_limit
  link_room = omega (arith, P.room, N.nodes)

  pub onward : 0 < m → (k : Key) → k ≡ key_at s at → (u : Key) → u ≡ get_or ups (many - 1) 0 → (y : Cabinet) (r : ℕ) → Files n u k x y r
      → (v : Key) → v ≡ below u k → (ups' : List ℕ) (many' : ℕ) → Pushed ups many v children ups' many' → Passing s m y due' ups' many' (left - 1) next r (met || eqb k m)
  onward p k q u e y r F v z ups' many' G = record {
    remains = rw G.high N.remains;
    holding = holding_filed F P.holding link_room;
    room = omega (arith, P.room, N.nodes, filed_few F);
    long = G.long ∙ P.long;
    filling = λ R. subst (λ (i : ℕ). Filling s m y ups' many' i (met || eqb k m)) ends
        (filling_more s m x ups many at n met N.inside g P.holding link_room k q u e y r F kind N.good.byte ups' many' p pushed (P.filling R));
  }
    where
      ends : at + (1 + length_of_body kind) ≡ next
      ends = omega (arith, N.good.ends)

      pushed : Pushed ups many (below u k) (count_of_children kind) ups' many'
      pushed = rw (← z, ← N.good.count) G

-- everything was read
module _ (s : List ℕ) (m : Key) (x : Cabinet) (due ups : List ℕ) (many left at n : ℕ) (met : Bool) (P : Passing s m x due ups many left at n met) (z : many ≡ 0) (h : length s ≤ at) (B : Bytes s) where
  readable : Readable s
  readable = was_read s (node_limit - left) (no_more_bytes s due many left at P.remains z B h) B

  filled : Filling s m x ups many at met
  filled = P.filling readable

  pub told : 0 < m → Stands s m met
  told p = stands s m filled.of filled.whole p met (filling_tells s m x ups many at met filled z)

  pub all_filed : AllFiled s x
  all_filed = (P.holding.filed, (filled.of, filled.whole, filling_links s m x ups many at met filled z))

  pub up_to : FiledUpTo x n
  up_to = (omega (arith, P.room), P.holding.rest)
