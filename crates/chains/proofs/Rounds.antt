-- The keys of the queue one after the other, until the links from all of them were followed: then the set is closed.
use mathlib.Core.Path.{◌≡◌}
use mathlib.Core.Logic.{◌⊎◌, inl, inr, ⊎_elim}
use mathlib.Core.List.{List, []}
use mathlib.Core.Bool.{true}
use Prim.Native.Nat.{ℕ, suc, ◌+◌, ◌≤◌, ◌<◌}
use native.Mathlib.Decide.{ℕ_discrete}
use native.Mathlib.Omega.{arith}
use lib.ListN.{length, get_or}
use Rattle.ccsk.specs.Numbers.{distinct}
use Rattle.ccsk.specs.Term.{Key}
use Rattle.sound.specs.Sound.{Chain, one, more}
use Rattle.format.specs.Limits.{node_limit}
use Rattle.keyset.specs.Set.{member}
use Rattle.keyset.proofs.Small.{member_small}
use Rattle.keys.specs.Gather.{Holds}
use Rattle.filing.specs.declared.Cabinet.{Cabinet}
use Rattle.filing.specs.Cabinet.{Link, Filed}
use Rattle.chains.specs.declared.Queue.{Queue}
use Rattle.chains.proofs.Meeting.{queue_room}
use Rattle.chains.specs.Reach.{Reached, From, Followed, Follows, Closed}

pub none_reached : (x : Cabinet) (m : Key) (s : List ℕ) (q : Queue) → Holds s [] → q.many ≡ 0 → length q.keys ≡ suc node_limit → Reached x m s q
unfolding distinct
none_reached x m s q H z e = record {
  keys = [];
  holds = H;
  count = z;
  small = λ k i. absurd i;
  led = λ k i. absurd i;
  found = λ k i. absurd i;
  queued = λ i h. absurd (omega arith);
  sized = e;
}

-- The links from m and from the first `head` keys of the queue were followed.
pub record Round (x : Cabinet) (m : Key) (s : List ℕ) (q : Queue) (head : ℕ) : Type 0 where
  pub reached : Reached x m s q
  pub asked : Followed x m s m
  pub first : (i : ℕ) → i < head → Followed x m s (get_or q.keys i 0)
  pub few : head ≤ q.many
  pub room : q.many ≤ node_limit

pub first_round : {x : Cabinet} {m : Key} {s : List ℕ} {q : Queue} {s' : List ℕ} {q' : Queue} → Filed x → Follows x m m s q s' q' → Round x m s' q' 0
first_round D F = record { reached = F.reached; asked = F.followed; first = λ i h. absurd (omega arith); few = omega arith; room = omega (arith, queue_room _ D F.reached) }

module _ {x : Cabinet} {m : Key} {s : List ℕ} {q : Queue} {head : ℕ} (R : Round x m s q head) where
  -- the next key was reached
  pub next_from : head < q.many → From x m (get_or q.keys head 0)
  next_from h = inr (R.reached.led _ (R.reached.queued head h)).1

  pub next_round : {s' : List ℕ} {q' : Queue} → Filed x → head < q.many → Follows x m (get_or q.keys head 0) s q s' q' → Round x m s' q' (head + 1)
  next_round {s'} {q'} D h F = record {
    reached = F.reached;
    asked = λ n l. ⊎_elim inl (λ z. inr (F.grown n z)) (R.asked n l);
    first = λ i g. pick i g (ℕ_discrete i head);
    few = omega (arith, F.longer, R.few);
    room = omega (arith, queue_room _ D F.reached);
  }
    where
      pick : (i : ℕ) → i < head + 1 → Dec (i ≡ head) → Followed x m s' (get_or q'.keys i 0)
      pick i g (yes e) = rw (e, F.kept head h) F.followed
      pick i g (no e) = rw (F.kept i (omega arith)) (λ n l. ⊎_elim inl (λ z. inr (F.grown n z)) (R.first i (omega arith) n l))

  -- all were followed: what a chain leads to is m, or in the set
  pub closed : ¬ (head < q.many) → Closed x m s q.many
  closed h = record {
    keys = R.reached.keys;
    holds = R.reached.holds;
    small = R.reached.small;
    count = R.reached.count;
    exact = λ k. (R.reached.led k, λ w. ⊎_elim (λ e. absurd (w.0 e)) (λ z. (R.reached.holds.exact k (small k z)).0 z) (all w.1));
  }
    where
      small : (k : Key) → member s k ≡ true → k < 65536
      small = member_small s R.reached.holds.whole

      on : (j k : Key) → (j ≡ m) ⊎ (member s j ≡ true) → Link x j k → (k ≡ m) ⊎ (member s k ≡ true)
      on j k (inl e) l = R.asked k (rw e at l)
      on j k (inr z) l = let v = R.reached.found j ((R.reached.holds.exact j (small j z)).0 z) in R.first v.0 (omega (arith, v.1, R.few)) k (rw v.2 l)

      all : {k : Key} → Chain (Link x) m k → (k ≡ m) ⊎ (member s k ≡ true)
      all (one {n = k} b) = R.asked k b
      all (more {k = j} {n = k} c b) = on j k (all c) b
