-- Looking at one link: the set and the queue grow together, and never beyond the number of links.
use mathlib.Core.Path.{◌≡◌, refl, sym, ap, subst, ◌∙◌}
use mathlib.Core.Logic.{◌⊎◌, inl, inr, ⊎_elim}
use mathlib.Core.List.{List, [], ◌∷◌}
use mathlib.Core.Bool.{Bool, true, false, cond}
use Prim.Native.Nat.{ℕ, suc, ◌+◌, ◌-◌, ◌*◌, ◌≤◌, ◌<◌}
use native.Mathlib.Decide.{ℕ_discrete, dec_lt}
use native.Mathlib.Omega.{arith}
use lib.ListN.{length, get_or, set, drop, length-set, length-drop, get_or-eq_default}
use lib.Seq.{get_or-set_same, get_or-set_other, get_or-drop}
use Rattle.ccsk.specs.Numbers.{In, in?, distinct}
use Rattle.ccsk.specs.Without.{without}
use Rattle.ccsk.specs.Term.{Key}
use Rattle.ccsk.proofs.Basic.{never}
use Rattle.ccsk.proofs.Lists.{in_left, in_either, in_without, get_or_in, distinct_old, distinct_new, without_shorter}
use Rattle.sound.specs.Sound.{Chain, one, more}
use Rattle.sound.proofs.Chains.{final}
use Rattle.format.specs.Limits.{node_limit}
use Rattle.keyset.specs.Set.{member, added}
use Rattle.keyset.proofs.Sets.{gain_few, added_same, added_other}
use Rattle.keys.specs.Gather.{Holds}
use Rattle.keys.proofs.Marks.{put_in}
use Rattle.keys.proofs.Distinct.{snoc, snoc_last}
use Rattle.filing.specs.declared.Cabinet.{Cabinet}
use Rattle.filing.specs.Cabinet.{Link, Filed}
use Rattle.chains.specs.declared.Queue.{Queue}
use Rattle.chains.specs.Reach.{Meets, other, asked, meets, Reached, From, Within}

-- a list whose numbers all stand in another has no more different ones than that is long
distinct_within : (l c : List ℕ) → ((k : ℕ) → In k l → In k c) → distinct l ≤ length c
unfolding distinct
distinct_within [] c f = omega arith
distinct_within (a ∷ l) c f = pick (in? a l) (distinct_within l)
  where
    pick : Dec (In a l) → ((c : List ℕ) → ((k : ℕ) → In k l → In k c) → distinct l ≤ length c) → distinct (a ∷ l) ≤ length c
    pick (yes i) g = rw (distinct_old a l i) (g c (λ k j. f k (inr j)))
    pick (no n) g = omega (
      arith,
      distinct_new a l n,
      without_shorter a c (f a (inl refl)),
      g (without a c) (λ k j. (in_without k a c (λ e. n (subst (λ (z : ℕ). In z l) e j))).1 (f k (inr j))),
    )

module _ (x : Cabinet) (F : Filed x) where
  -- a link has a number from 1 on, below the limit
  pub link_low : (i : ℕ) → 0 < get_or x.upper i 0 → i < suc node_limit
  link_low i p = pick (dec_lt i (suc node_limit))
    where
      pick : Dec (i < suc node_limit) → i < suc node_limit
      pick (yes h) = h
      pick (no h) = never p (get_or-eq_default x.upper 0 (omega (arith, F.sized.upper)))

  pub link_some : (i : ℕ) → 0 < get_or x.upper i 0 → 0 < i
  link_some i p = pick (ℕ_discrete i 0)
    where
      pick : Dec (i ≡ 0) → 0 < i
      pick (yes e) = never (subst (λ (j : ℕ). 0 < get_or x.upper j 0) e p) F.zero
      pick (no e) = omega arith

  low_key : {m k : Key} → Link x m k → In k (drop 1 x.lower)
  low_key {m} {k} l =
      let p : 0 < get_or x.upper l.0 0 = rw l.2 l.1 in
      let h = link_some l.0 p in
      rw (← l.3) (at l.0 h (link_low l.0 p))
    where
      at : (i : ℕ) → 0 < i → i < suc node_limit → In (get_or x.lower i 0) (drop 1 x.lower)
      at i p h = subst (λ (j : ℕ). In j (drop 1 x.lower)) (place i p) (get_or_in (drop 1 x.lower) (i - 1) (omega (arith, length-drop 1 x.lower, F.sized.lower)))
        where
          place : (i : ℕ) → 0 < i → get_or (drop 1 x.lower) (i - 1) 0 ≡ get_or x.lower i 0
          place i p = let e : 1 + (i - 1) ≡ i = omega arith in get_or-drop 1 x.lower (i - 1) 0 ∙ ap (λ (j : ℕ). get_or x.lower j 0) e

  -- the queue is never full
  pub queue_room : {m : Key} {s : List ℕ} {q : Queue} → Reached x m s q → q.many < suc node_limit
  queue_room R = omega (
    arith,
    R.count,
    length-drop 1 x.lower,
    F.sized.lower,
    distinct_within R.keys (drop 1 x.lower) (λ k i. low_key (final (R.led k i).1).1),
  )

-- a set with one key more holds all that it held
within_added : (marks : List ℕ) (k : Key) → k < length marks * 8 → Within marks (added marks k)
within_added marks k h j e = pick (ℕ_discrete j k)
  where
    pick : Dec (j ≡ k) → member (added marks k) j ≡ true
    pick (yes q) = rw q (added_same marks k h)
    pick (no q) = added_other marks k j h q ∙ e

module _ (x : Cabinet) (m from : Key) (w : From x m from) (u k : Key) (small : k < 65536) (i : ℕ) (p : 0 < get_or x.upper i 0) (e : u ≡ get_or x.upper i 0) (f : k ≡ get_or x.lower i 0) where
  -- what one look at a link does: the same queue in front, at least as many keys, and the link is done with
  pub record Looked (s : List ℕ) (q : Queue) (s' : List ℕ) (q' : Queue) : Type 0 where
    pub reached : Reached x m s' q'
    pub grown : Within s s'
    pub kept : (j : ℕ) → j < q.many → get_or q'.keys j 0 ≡ get_or q.keys j 0
    pub longer : q.many ≤ q'.many
    pub done : u ≡ from → (k ≡ m) ⊎ (member s' k ≡ true)

  chained : u ≡ from → Chain (Link x) m k
  chained q = ⊎_elim (λ z. one (rw z at link)) (λ c. more c link) w
    where
      link : Link x from k
      link = (i, rw (← q, e) p, rw (← q) (sym e), sym f)

  pub looked : {s : List ℕ} {q : Queue} {s' : List ℕ} {q' : Queue} → q.many < length q.keys → Reached x m s q → Meets u k from m s q s' q' → Looked s q s' q'
  looked g R (other n) = record { reached = R; grown = λ j z. z; kept = λ j h. refl; longer = omega arith; done = λ q. absurd (n q) }
  looked g R (asked z) = record { reached = R; grown = λ j z. z; kept = λ j h. refl; longer = omega arith; done = λ q. inl z }
  looked {s} {q} {s'} g R (meets {n = n} e' z A) = record {
    reached = record {
      keys = snoc R.keys k;
      holds = held.0;
      count = omega (arith, held.1, R.count);
      small = λ j h. ⊎_elim (R.small j) (λ h. ⊎_elim (λ y. rw y small) (λ y. absurd y) h) (in_either j R.keys (k ∷ []) h);
      led = λ j h. ⊎_elim (R.led j) (λ h. ⊎_elim (λ y. rw y (z, chained e')) (λ y. absurd y) h) (in_either j R.keys (k ∷ []) h);
      found = λ j h. ⊎_elim (at_old j) (λ h. ⊎_elim (λ y. rw y (at_new (member s k) refl)) (λ y. absurd y) h) (in_either j R.keys (k ∷ []) h);
      queued = λ j h. queued j h (dec_lt j q.many);
      sized = rw length-set R.sized;
    };
    grown = rw A.result (within_added s k room);
    kept = λ j h. get_or-set_other q.keys q.many j k 0 (λ y. omega arith);
    longer = omega arith;
    done = λ y. inr (rw A.result (added_same s k room));
  }
    where
      room : k < length s * 8
      room = omega (arith, R.holds.whole)

      held : Holds s' (snoc R.keys k) × (distinct (snoc R.keys k) ≡ distinct R.keys + n)
      held = put_in s k small s' n A R.keys R.holds

      at_old : (j : Key) → In j R.keys → (y : ℕ) × (y < q.many + n) × (get_or (set q.keys q.many k) y 0 ≡ j)
      at_old j h = let v = R.found j h in (v.0, omega (arith, v.1), get_or-set_other q.keys q.many v.0 k 0 (λ y. omega (arith, v.1)) ∙ v.2)

      -- a key that is in the set already stands in the queue already
      at_new : (b : Bool) → member s k ≡ b → (y : ℕ) × (y < q.many + n) × (get_or (set q.keys q.many k) y 0 ≡ k)
      at_new true y = at_old k ((R.holds.exact k small).0 y)
      at_new false y = (q.many, omega (arith, A.gain ∙ ap (λ (b : Bool). cond b 0 1) y), get_or-set_same q.keys q.many k 0 g)

      queued : (j : ℕ) → j < q.many + n → Dec (j < q.many) → In (get_or (set q.keys q.many k) j 0) (snoc R.keys k)
      queued j h (yes v) = rw (get_or-set_other q.keys q.many j k 0 (λ y. omega (arith, v))) (in_left _ R.keys (k ∷ []) (R.queued j v))
      queued j h (no y) = let v : j ≡ q.many = omega (arith, gain_few A) in rw (v, get_or-set_same q.keys q.many k 0 g) (snoc_last k R.keys)
