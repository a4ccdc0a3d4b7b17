-- Laws of the loops: counting a column, gathering the free numbers, releasing one number.
use mathlib.Core.Path.{◌≡◌, refl}
use mathlib.Core.Logic.{◌≢◌}
use mathlib.Core.List.{List, [], ◌∷◌}
use Prim.Native.Nat.{ℕ, zero, suc, ◌+◌, ◌-◌, ◌≤◌, ◌<◌}
use native.Mathlib.Decide.{ℕ_discrete}
use native.Mathlib.Numerals.{add-one}
use native.Mathlib.Omega.{arith}
use lib.ListN.{length, get_or, set, take, length-take, length-set}
use lib.Seq.{take-suc, get_or-set_same, get_or-set_other}
use Rattle.causes.specs.Links.{times}
use Rattle.causes.specs.Columns.{Below}
use Rattle.causes.proofs.Taking.{times_same, times_other, times_none, times-append, times_le}
use Rattle.cycles.specs.declared.Pair.{Pair}
use Rattle.cycles.specs.Pair.{firsts, seconds}
use Rattle.cycles.specs.Counters.{Room, Counted, Released, fell, free}
use Rattle.cycles.specs.Queue.{Queued}
use Rattle.cycles.proofs.Pairs.{nothing, firsts-length, seconds-length, first_at, second_at}
use Rattle.cycles.proofs.Queues.{zeros_le, queued_push, queued_skip}

-- nothing of the columns has been counted
pub none_counted : (one two c : List ℕ) → Counted (take 0 one) (take 0 two) c c
none_counted one two c m = rw (times_none m) (omega arith)

times_one : (m : ℕ) (l : List ℕ) (i : ℕ) → i < length l → times m (take (i + 1) l) ≡ times m (take i l) + times m (get_or l i 0 ∷ [])
times_one m l i h = rw (add-one i, take-suc l i 0 h) (times-append m (take i l) (get_or l i 0 ∷ []))

-- the counter of u grows by one
abbrev pub more : List ℕ → ℕ → List ℕ
more c u = set c u (get_or c u 0 + 1)

more_is : (c : List ℕ) (u m : ℕ) → u < length c → get_or (more c u) m 0 ≡ get_or c m 0 + times m (u ∷ [])
more_is c u m h = pick (ℕ_discrete m u)
  where
    pick : Dec (m ≡ u) → get_or (more c u) m 0 ≡ get_or c m 0 + times m (u ∷ [])
    pick (yes q) = rw (q, get_or-set_same c u (get_or c u 0 + 1) 0 h) (let d = times_same u u [] refl in let z = times_none u in omega arith)
    pick (no q) = rw (get_or-set_other c u m (get_or c u 0 + 1) 0 q) (let d = times_other m u [] q in let z = times_none m in omega arith)

-- the columns of the pairs before place i have been counted; x and y stand there
module _ (over : List Pair) (c₀ c : List ℕ) (i x y : ℕ) (h : i < length over) (e : x ≡ (get_or over i nothing).first) (f : y ≡ (get_or over i nothing).second)
    (n : length c ≡ length c₀) (b : Below (length c₀) (firsts over) × Below (length c₀) (seconds over)) (w : Counted (take i (firsts over)) (take i (seconds over)) c₀ c) where
  pub first_in : x < length c
  first_in = let a = b.0 i (omega (arith, firsts-length over)) in omega (arith, first_at over i)

  pub second_in : y < length (more c x)
  second_in = let a = b.1 i (omega (arith, seconds-length over)) in rw length-set (omega (arith, second_at over i))

  -- both are counted
  pub one_counted : Counted (take (i + 1) (firsts over)) (take (i + 1) (seconds over)) c₀ (more (more c x) y)
  one_counted m = rw (more_is (more c x) y m second_in, more_is c x m first_in, e, f, ← first_at over i, ← second_at over i)
      (omega (arith, times_one m (firsts over) i (omega (arith, firsts-length over)), times_one m (seconds over) i (omega (arith, seconds-length over)), w m))

  module _ (r : Room (length over + length over) c₀) where
    little : (m : ℕ) → (times m (take i (firsts over)) ≤ i) × (times m (take i (seconds over)) ≤ i)
    little m = (omega (arith, times_le m (take i (firsts over)), length-take i (firsts over)), omega (arith, times_le m (take i (seconds over)), length-take i (seconds over)))

    -- and the counters still fit
    pub first_fits : get_or c x 0 + 1 < 65536
    first_fits = omega (arith, w x, r x (omega (arith, first_in)), little x)

    pub second_fits : get_or (more c x) y 0 + 1 < 65536
    second_fits = rw (more_is c x y first_in) (omega (arith, w y, r y (omega (arith, second_in, length-set c x (get_or c x 0 + 1))), little y, times_le y (x ∷ [])))

-- one counter more has been looked at
pub gather_free : (c q : List ℕ) (t k : ℕ) → Queued k c q t → get_or c k 0 ≡ 0 → t < length q → Queued (k + 1) c (set q t k) (t + 1)
gather_free c q t k w z n = rw (add-one k, add-one t) (queued_push k c q t w z n)

pub gather_skip : (c q : List ℕ) (t k : ℕ) → Queued k c q t → get_or c k 0 ≢ 0 → Queued (k + 1) c q t
gather_skip c q t k w z = rw (add-one k) (queued_skip k c q t w z)

pub gather_room : (c q : List ℕ) (t k : ℕ) → Queued k c q t → t ≤ k
gather_room c q t k w = let a = w.counted in let b = zeros_le k c in omega arith

-- release
pub release_fell : (u x : ℕ) (c q : List ℕ) (t : ℕ) → x ≡ u → 0 < get_or c u 0 → get_or c x 0 - 1 ≢ 0 → Released u c q t (set c x (get_or c x 0 - 1)) q t
release_fell u x c q t e h f = rw e (fell (get_or c u 0 - 1) (omega arith) (positive (get_or c u 0 - 1) (λ z. f (rw e z))))
  where
    positive : (v : ℕ) → v ≢ 0 → 0 < v
    positive zero g = absurd (g refl)
    positive (suc v) g = omega arith

pub release_free : (u x : ℕ) (c q : List ℕ) (t : ℕ) → x ≡ u → 0 < get_or c u 0 → get_or c x 0 - 1 ≡ 0 → Released u c q t (set c x (get_or c x 0 - 1)) (set q t u) (t + 1)
release_free u x c q t e h z = rw e (free (get_or c u 0 - 1) (omega arith) (rw e at z))
