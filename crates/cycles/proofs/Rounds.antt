-- One round of the cycle test: a number is taken from the queue, and what stands right above it is released, one after the other.
use mathlib.Core.Path.{◌≡◌, refl, sym, ap, ◌∙◌}
use mathlib.Core.Logic.{◌↔◌, ◌≢◌}
use mathlib.Core.List.{List, [], ◌∷◌, ◌++◌}
use Prim.Native.Nat.{ℕ, zero, suc, ◌+◌, ◌≤◌, ◌<◌}
use native.Mathlib.Decide.{ℕ_discrete}
use native.Mathlib.Omega.{arith}
use native.Mathlib.Numerals.{add-one}
use lib.ListN.{length, get_or, set, drop, length-set}
use lib.Seq.{drop-cons, get_or-set_same, get_or-set_other}
use Rattle.ccsk.specs.Numbers.{In}
use Rattle.sound.proofs.Peel.{Rowed}
use Rattle.causes.specs.Links.{Linked, NoCycle, times, pending}
use Rattle.causes.proofs.Taking.{linked?, take_next, emptied, stuck, pending_first, pending_take, times_same, times_other, times_none, times-append}
use Rattle.cycles.specs.Graph.{Acyclic, Columns}
use Rattle.cycles.specs.Queue.{taken, zeros, Queued}
use Rattle.cycles.specs.Counters.{Released, fell, free}
use Rattle.cycles.proofs.Queues.{zeros_le, zeros_less, zeros_find, zeros_fall, taken-set, in_taken, next_new, queued_fall, queued_free}
use Rattle.cycles.proofs.Columns.{lower, upper, in_lower, lower_upper, above_number, acyclic_over}

-- The first h numbers of the queue have been taken out, and rest is still to be released. A counter counts what is pending below its
-- number and how often the number stands in rest; nothing is above 0, which counts twice more and so never gets free.
pub record State (one two c q : List ℕ) (h t : ℕ) (rest : List ℕ) : Type 0 where
  pub columns : Columns one two
  pub queue : Queued (length one) c q t
  pub passed : h ≤ t
  pub rowed : Rowed (Linked (lower one two) (upper one two)) (linked? (lower one two) (upper one two)) (taken q h)
  pub counters : (m : ℕ) → m < length one → get_or c m 0 ≡ pending m (taken q h) (lower one two) (upper one two) + times m (rest ++ 0 ∷ (0 ∷ []))

-- a column whose first number is 0
times_root : (m : ℕ) (l : List ℕ) → 0 < length l → get_or l 0 0 ≡ 0 → times m l ≡ times m (0 ∷ []) + times m (drop 1 l)
times_root m l h e = ap (times m) (drop-cons l 0 0 h ∙ ap (λ (x : ℕ). x ∷ drop 1 l) e) ∙ times-append m (0 ∷ []) (drop 1 l)

-- nothing has been taken out
pub start : (one two c q : List ℕ) (t : ℕ) → Columns one two → Queued (length one) c q t → ((m : ℕ) → m < length one → get_or c m 0 ≡ times m one + times m two) → State one two c q 0 t []
unfolding taken Rowed
start one two c q t p w f = record { columns = p; queue = w; passed = omega arith; rowed = tt; counters = first }
  where
    first : (m : ℕ) → m < length one → get_or c m 0 ≡ pending m [] (lower one two) (upper one two) + times m (0 ∷ (0 ∷ []))
    first m h =
        let a = pending_first m (lower one two) (upper one two) (lower_upper one two) in let b = times-append m (drop 1 one) (drop 1 two) in
        let x = times_root m one p.some p.root_one in let y = times_root m two (let s = p.some in let e = p.alike in omega arith) p.root_two in
        let z = times-append m (0 ∷ []) (0 ∷ []) in let v = f m h in omega arith

root_counts : (rest : List ℕ) → 2 ≤ times 0 (rest ++ 0 ∷ (0 ∷ []))
root_counts rest = let a = times-append 0 rest (0 ∷ (0 ∷ [])) in let b = times_same 0 0 (0 ∷ []) refl in let d = times_same 0 0 [] refl in omega arith

-- the next number of the queue
pub next_below : (one two c q : List ℕ) (h t : ℕ) → State one two c q h t [] → h < t → get_or q h 0 < length one
next_below one two c q h t s l = ((s.queue.exact (get_or q h 0)).0 (in_taken q t h l)).0

-- it is taken out
pub next : (one two c q : List ℕ) (h t : ℕ) → State one two c q h t [] → h < t → State one two c q (suc h) t (get_or one (get_or q h 0) 0 ∷ (get_or two (get_or q h 0) 0 ∷ []))
unfolding taken
next one two c q h t s l = record { columns = s.columns; queue = s.queue; passed = omega arith; rowed = take_next (lower one two) (upper one two) (taken q h) m s.rowed new idle; counters = counters }
  where
    m : ℕ
    m = get_or q h 0

    new : ¬ In m (taken q h)
    new = next_new q t h l s.queue.distinct

    zero_counter : get_or c m 0 ≡ 0
    zero_counter = ((s.queue.exact m).0 (in_taken q t h l)).1

    below : m < length one
    below = next_below one two c q h t s l

    idle : pending m (taken q h) (lower one two) (upper one two) ≡ 0
    idle = let e = s.counters m below in let z = zero_counter in omega arith

    positive : 0 < m
    positive = pick m refl
      where
        pick : (k : ℕ) → m ≡ k → 0 < m
        pick zero e = let z : get_or c 0 0 ≡ 0 = rw e at zero_counter in let y = s.counters 0 s.columns.some in let x = root_counts [] in absurd (omega arith)
        pick (suc k) e = omega arith

    counters : (j : ℕ) → j < length one → get_or c j 0 ≡ pending j (m ∷ taken q h) (lower one two) (upper one two) + times j (get_or one m 0 ∷ (get_or two m 0 ∷ (0 ∷ (0 ∷ []))))
    counters j k =
        let e = s.counters j k in let a : pending j (taken q h) (lower one two) (upper one two) ≡ pending j (m ∷ taken q h) (lower one two) (upper one two) + times j (get_or one m 0 ∷ (get_or two m 0 ∷ [])) = rw (← above_number one two m s.columns positive below) (pending_take j m (taken q h) (lower one two) (upper one two) new) in
        let b = times-append j (get_or one m 0 ∷ (get_or two m 0 ∷ [])) (0 ∷ (0 ∷ [])) in omega arith

-- something is to be released: its counter is above 0, and the queue has room
pub room : (one two c q : List ℕ) (h t u : ℕ) (rest : List ℕ) → State one two c q h t (u ∷ rest) → u < length one → (0 < get_or c u 0) × (t < length one)
room one two c q h t u rest s l = (positive, less)
  where
    positive : 0 < get_or c u 0
    positive = let e = s.counters u l in let a = times_same u u (rest ++ 0 ∷ (0 ∷ [])) refl in omega arith

    less : t < length one
    less = let e = s.queue.counted in let z = zeros_less (length one) c u l (λ q. let p = positive in omega arith) in omega arith

module _ (one two c q : List ℕ) (h t u v : ℕ) (rest : List ℕ) (s : State one two c q h t (u ∷ rest)) (l : u < length one) (n : length one ≤ length c) (e : get_or c u 0 ≡ suc v) where
  fallen : (j : ℕ) → j < length one → get_or (set c u v) j 0 ≡ pending j (taken q h) (lower one two) (upper one two) + times j (rest ++ 0 ∷ (0 ∷ []))
  fallen j k = pick (ℕ_discrete j u)
    where
      pick : Dec (j ≡ u) → get_or (set c u v) j 0 ≡ pending j (taken q h) (lower one two) (upper one two) + times j (rest ++ 0 ∷ (0 ∷ []))
      pick (yes z) = rw (z, get_or-set_same c u v 0 (omega arith)) (let a = s.counters u l in let b = times_same u u (rest ++ 0 ∷ (0 ∷ [])) refl in omega arith)
      pick (no z) = rw (get_or-set_other c u j v 0 z) (let a = s.counters j k in let b = times_other j u (rest ++ 0 ∷ (0 ∷ [])) z in omega arith)

  -- its counter falls and stays above 0
  pub released : 0 < v → State one two (set c u v) q h t rest
  released p = record { columns = s.columns; queue = queued_fall (length one) c q t u v s.queue (omega arith) (λ z. omega arith) p; passed = s.passed; rowed = s.rowed; counters = fallen }

  -- its counter falls to 0, and it goes into the queue
  pub freed : v ≡ 0 → t < length q → State one two (set c u v) (set q t u) h (suc t) rest
  freed z r = record { columns = s.columns; queue = rw z (queued_free (length one) c q t u s.queue l (omega arith) (λ y. omega arith) r); passed = let p = s.passed in omega arith; rowed = rw (taken-set q t u h s.passed) s.rowed; counters = λ j k. rw (taken-set q t u h s.passed) (fallen j k) }

-- after either of the two
pub after : (one two c q : List ℕ) (h t u : ℕ) (rest c' q' : List ℕ) (t' : ℕ) → length one ≤ length c → length one ≤ length q → u < length one → State one two c q h t (u ∷ rest) → Released u c q t c' q' t'
    → (length c' ≡ length c) × (length q' ≡ length q) × State one two c' q' h t' rest
after one two c q h t u rest c' q' t' n r l s (fell v e p) = (length-set c u v, refl, released one two c q h t u v rest s l n e p)
after one two c q h t u rest c' q' t' n r l s (free v e z) = (length-set c u v, length-set q t u, rw (add-one t) (freed one two c q h t u v rest s l n e z (let x = room one two c q h t u rest s l in omega arith)))

-- as many as have come
pub in_order : (one two c q : List ℕ) (h t : ℕ) (rest : List ℕ) → State one two c q h t rest → (h ≤ t) × (t ≤ length one)
in_order one two c q h t rest s = (s.passed, let a = s.queue.counted in let b = zeros_le (length one) c in omega arith)

-- The queue has run empty: all but 0 have been taken out exactly if there is no cycle.
pub finish : (one two c q : List ℕ) (t : ℕ) → State one two c q t t [] → length one ≤ length c → (t + 1 ≡ length one) ↔ Acyclic one two
finish one two c q t s n = (λ e. (acyclic_over one two s.columns).0 (all e), λ a. last a)
  where
    p : Columns one two
    p = s.columns

    root : get_or c 0 0 ≢ 0
    root z = let y = s.counters 0 p.some in let x = root_counts [] in omega arith

    counted : zeros (length one) (set c 0 0) ≡ suc t
    counted = let z = zeros_fall (length one) c 0 p.some (let k = p.some in omega arith) root in let e = s.queue.counted in omega arith

    all : t + 1 ≡ length one → NoCycle (lower one two) (upper one two)
    all e = emptied (lower one two) (upper one two) (taken q t) s.rowed (λ k i. taken_out k ((in_lower one two k p).0 i))
      where
        taken_out : (k : ℕ) → (0 < k) × (k < length one) → In k (taken q t)
        taken_out k (a, b) = (s.queue.exact k).1 (b, pick (ℕ_discrete (get_or c k 0) 0))
          where
            pick : Dec (get_or c k 0 ≡ 0) → get_or c k 0 ≡ 0
            pick (yes z) = z
            pick (no z) = let y = zeros_less (length one) (set c 0 0) k b (λ x. z (sym (get_or-set_other c 0 k 0 0 (λ w. omega arith)) ∙ x)) in absurd (let x = counted in omega arith)

    last : Acyclic one two → t + 1 ≡ length one
    last a = pick (ℕ_discrete (t + 1) (length one))
      where
        cycle : (k : ℕ) × (k < length one) × (get_or (set c 0 0) k 0 ≢ 0) → ⊥
        cycle r = stuck (lower one two) (upper one two) (taken q t) held r.0 ((in_lower one two r.0 p).1 (positive, r.1)) (λ i. counter ((s.queue.exact r.0).0 i).1) ((acyclic_over one two p).1 a)
          where
            positive : 0 < r.0
            positive = above r.0 refl
              where
                above : (k : ℕ) → r.0 ≡ k → 0 < r.0
                above zero e = absurd (r.2 (ap (λ (x : ℕ). get_or (set c 0 0) x 0) e ∙ get_or-set_same c 0 0 0 (let k = p.some in omega arith)))
                above (suc k) e = omega arith

            counter : get_or c r.0 0 ≢ 0
            counter z = r.2 (get_or-set_other c 0 r.0 0 0 (λ w. let y = positive in omega arith) ∙ z)

            held : (k : ℕ) → In k (lower one two) → ¬ In k (taken q t) → (0 < k) × (0 < pending k (taken q t) (lower one two) (upper one two))
            held k i f = let b = (in_lower one two k p).0 i in (b.0, waiting b)
              where
                waiting : (0 < k) × (k < length one) → 0 < pending k (taken q t) (lower one two) (upper one two)
                waiting b = let e = s.counters k b.1 in let x = times_other k 0 (0 ∷ []) (λ z. omega arith) in let y = times_other k 0 [] (λ z. omega arith) in let v = times_none k in nonzero e x y v
                  where
                    nonzero : get_or c k 0 ≡ pending k (taken q t) (lower one two) (upper one two) + times k (0 ∷ (0 ∷ [])) → times k (0 ∷ (0 ∷ [])) ≡ times k (0 ∷ []) → times k (0 ∷ []) ≡ times k [] → times k [] ≡ 0 → 0 < pending k (taken q t) (lower one two) (upper one two)
                    nonzero e x y v = compare (ℕ_discrete (get_or c k 0) 0)
                      where
                        compare : Dec (get_or c k 0 ≡ 0) → 0 < pending k (taken q t) (lower one two) (upper one two)
                        compare (yes z) = absurd (f ((s.queue.exact k).1 (b.1, z)))
                        compare (no z) = omega arith

        pick : Dec (t + 1 ≡ length one) → t + 1 ≡ length one
        pick (yes e) = e
        pick (no e) = absurd (cycle (zeros_find (length one) (set c 0 0) (let x = counted in let y = zeros_le (length one) (set c 0 0) in omega arith)))
