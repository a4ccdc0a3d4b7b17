-- From a set of keys and the rows between them to the order in which they are taken out.
use mathlib.Core.Path.{◌≡◌, refl, sym, ap, subst, ◌∙◌}
use mathlib.Core.Logic.{inl, inr, ⊎_elim, ◌↔◌}
use mathlib.Core.List.{List, [], ◌∷◌, ◌++◌}
use mathlib.Core.Bool.{Bool, true, false, true≢false}
use Prim.Native.Nat.{ℕ, zero, suc, ◌≤◌, ◌<◌}
use native.Mathlib.Decide.{ℕ_discrete, dec_lt}
use native.Mathlib.Numerals.{add-one}
use native.Mathlib.Omega.{arith}
use lib.ListN.{length, get_or, replicate, length-replicate, get_or-append}
use lib.Seq.{get_or_at}
use Rattle.ccsk.proofs.Lists.{get_or_zeros}
use Rattle.ccsk.specs.Term.{Key}
use Rattle.keyset.specs.Set.{member, members_below, Fronted}
use Rattle.keyset.proofs.Members.{members_absent, members_there}
use Rattle.filing.specs.declared.Cabinet.{Cabinet}
use Rattle.rank.specs.Rank.{rank}
use Rattle.rank.proofs.Ranks.{rank_less, rank_ordered, rank_reached, rank-length}
use Rattle.order.specs.Peels.{Free, Peels, end, next}
use Rattle.threads.specs.Rows.{owing, Among, Last}
use Rattle.order.specs.Steps.{Scene, State, InOrder}
use Rattle.threads.specs.Threads.{Held, Sortable, Ready, Threaded}
use Rattle.order.specs.Setup.{Sorted, Planted}
use Rattle.threads.proofs.Counting.{stands_inside}
use Rattle.keyset.proofs.Small.{member_small}

-- The key with the rank r stands in place r of the list of keys.
members_at : (s : List ℕ) (n : ℕ) (k : Key) → k < n → member s k ≡ true → get_or (members_below s n) (rank s k) 0 ≡ k
members_at s zero k h e = absurd (omega arith)
members_at s (suc n) k h e = pick (member s n) refl (ℕ_discrete k n) (members_at s n k)
  where
    last : member s n ≡ true → members_below s (suc n) ≡ members_below s n ++ (n ∷ [])
    last z = rw (← add-one n) (members_there s n z)

    before : k < n → get_or (members_below s n) (rank s k) 0 ≡ k → member s n ≡ true → get_or (members_below s (suc n)) (rank s k) 0 ≡ k
    before g w z = rw (last z) (get_or-append (members_below s n) (n ∷ []) 0 (rank s k) (omega (arith, rank_less s k n e g, rank-length s n)) ∙ w)

    pick : (b : Bool) → member s n ≡ b → Dec (k ≡ n) → (k < n → member s k ≡ true → get_or (members_below s n) (rank s k) 0 ≡ k) → get_or (members_below s (suc n)) (rank s k) 0 ≡ k
    pick true z (yes q) f = rw (last z) (get_or_at (members_below s n) n [] 0 (rank s k) (sym (rank-length s n) ∙ ap (rank s) (sym q)) ∙ sym q)
    pick true z (no q) f = before (omega arith) (f (omega arith) e) z
    pick false z (yes q) f = absurd (true≢false (sym e ∙ ap (member s) q ∙ z))
    pick false z (no q) f = let y : members_below s (suc n) ≡ members_below s n = rw (← add-one n) (members_absent s n z) in rw y (f (omega arith) e)

-- the same with another name for the set
last_same : {S T : Key → Type 0} {us ls : List ℕ} {k : Key} {e h : ℕ} → ((j : Key) → S j ↔ T j) → Last S us ls k e h → Last T us ls k e h
last_same f L = record { there = ⊎_elim inl (λ w. inr (w.0, (f _).0 w.1)) L.there; before = L.before; none = λ i a b w. L.none i a b (w.0, (f _).1 w.1) }

free_same : {R : Key → Key → Type 0} {S T : Key → Type 0} {out : List Key} {k : Key} → ((j : Key) → S j ↔ T j) → Free R S out k → Free R T out k
free_same f F = record { among = (f _).0 F.among; inside = F.inside; ready = F.ready }

peels_same : {R : Key → Key → Type 0} {S T : Key → Type 0} {out ks : List Key} → ((j : Key) → S j ↔ T j) → Peels R S out ks → Peels R T out ks
peels_same f (end g) = end (λ k t. g k ((f k).1 t))
peels_same f (next L p) = next (record { free = free_same f L.free; least = λ j F. L.least j (free_same (λ i. ((f i).1, (f i).0)) F) }) (peels_same f p)

module _ (marks : List ℕ) (n links : ℕ) (us ls : List ℕ) (S : Sortable marks n links us ls) (keys₀ keys : List ℕ) (F : Fronted (members_below marks 65536) keys₀ keys) where
  key_standing_at : (k : Key) → Held marks k → (rank marks k < n) × (get_or keys (rank marks k) 0 ≡ k)
  key_standing_at k h = let g = member_small marks S.whole k h in let r = rank_less marks k 65536 h g in
      (omega (arith, r, S.count), rw F (get_or-append (members_below marks 65536) _ 0 (rank marks k) (omega (arith, r, rank-length marks 65536)) ∙ members_at marks 65536 k g h))

  number : (r : ℕ) → r < n → Held marks (get_or keys r 0) × (rank marks (get_or keys r 0) ≡ r)
  number r h = let w = rank_reached marks 65536 r (omega (arith, S.count)) in let e : get_or keys r 0 ≡ w.0 = ap (λ (x : ℕ). get_or keys x 0) (sym w.3) ∙ (key_standing_at w.0 w.2).1 in
      (rw e w.2, rw e w.3)

  among : (k : Key) → Held marks k ↔ Among n keys k
  among k = ((λ h. let w = key_standing_at k h in (rank marks k, w.0, w.1)), λ a. subst (Held marks) a.2 (number a.0 a.1).0)

  rising : (r s : ℕ) → r < s → s < n → get_or keys r 0 < get_or keys s 0
  rising r s h g = pick (dec_lt (get_or keys r 0) (get_or keys s 0))
    where
      pick : Dec (get_or keys r 0 < get_or keys s 0) → get_or keys r 0 < get_or keys s 0
      pick (yes z) = z
      pick (no z) = absurd (omega (arith, rank_ordered marks (get_or keys s 0) (get_or keys r 0) (omega arith), (number r (omega arith)).1, (number s g).1))

  positive : (r : ℕ) → r < n → 0 < get_or keys r 0
  positive r h = pick (get_or keys r 0) refl
    where
      pick : (k : ℕ) → get_or keys r 0 ≡ k → 0 < get_or keys r 0
      pick zero e = absurd (true≢false (sym (subst (Held marks) e (number r h).0) ∙ S.zero))
      pick (suc k) e = omega arith

  module _ (x : Cabinet) (hs cs tree : List ℕ) (T : Threaded marks us ls (length us) x hs cs) (P : Planted n cs tree) (c : n ≤ length cs) where
    pub scene : Scene n keys x.upper x.older hs
    scene = record {
      us = us;
      ls = ls;
      rising = rising;
      positive = positive;
      closed = λ k m h l. (among m).0 (S.closed k m ((among k).1 h) l);
      acyclic = S.acyclic;
      root = S.root;
      head = λ r h. let w = number r h in last_same among (subst (λ (x : ℕ). Last (Held marks) us ls (get_or keys r 0) (length us) (get_or hs x 0)) w.1 (T.head (get_or keys r 0) w.0));
      older = λ r i h u. last_same among (older r i h u.0 ((among (get_or us i 0)).1 u.1));
      named = λ r i h e. let w = number r h in named i (subst (Held marks) (sym e) w.0) ∙ ap (rank marks) e ∙ w.1;
      few = S.few;
      rows = S.upper;
    }
      where
        inside : (i : ℕ) → Held marks (get_or us i 0) → i < length us
        inside i h = stands_inside us i (positive_held (get_or us i 0) h)
          where
            positive_held : (k : Key) → Held marks k → 0 < k
            positive_held k g = let w = key_standing_at k g in rw (← w.1) (positive (rank marks k) w.0)

        older : (r i : ℕ) → r < n → get_or ls i 0 ≡ get_or keys r 0 → Held marks (get_or us i 0) → Last (Held marks) us ls (get_or keys r 0) i (get_or x.older i 0)
        older r i h e u = T.older (get_or keys r 0) i (number r h).0 (inside i u) e u

        named : (i : ℕ) → Held marks (get_or us i 0) → get_or x.upper i 0 ≡ rank marks (get_or us i 0)
        named i h = T.named i (inside i h) h

    pub state : State scene [] cs tree
    unfolding scene
    state = record {
      counted = λ r h. let w = number r h in subst (λ (x : ℕ). get_or cs x 0 ≡ owing us ls (get_or keys r 0) [] (length us)) w.1 (T.counted (get_or keys r 0) w.0);
      board = P.board;
      free = λ r h. ((λ e. ((P.free r h).0 e, λ i. i)), λ w. (P.free r h).1 w.0);
      inside = λ k i. absurd i;
      done = λ k m i l. absurd i;
      long = c;
    }

    -- the order of the scene is the order of the set
    pub sorted : (row row' : List ℕ) → ((c : Scene n keys x.upper x.older hs) → State c [] cs tree → InOrder n keys c.us c.ls row row') → Sorted marks n us ls row row'
    unfolding scene
    sorted row row' A = let O : InOrder n keys us ls row row' = A scene state in record { order = O.order; peels = peels_same (λ k. ((among k).1, (among k).0)) O.peels; count = O.count; front = O.front }

-- rows of zeros with a place for each node are ready
module _ (marks : List ℕ) (n links : ℕ) (us ls : List ℕ) (S : Sortable marks n links us ls) where
  pub room : n ≤ length {A = ℕ} (replicate 4096 0)
  room = omega (arith, S.few, length-replicate {A = ℕ} 4096 0)

  pub listable : n ≡ length (members_below marks 65536)
  listable = S.count ∙ rank-length marks 65536

  pub ready : (x : Cabinet) → length x.older ≡ length x.upper → Ready marks x (replicate 4096 0) (replicate 4096 0)
  ready x e = record {
    older = e;
    heads = omega (arith, room, S.count);
    counters = omega (arith, room, S.count);
    no_head = get_or_zeros 4096;
    no_count = get_or_zeros 4096;
  }
