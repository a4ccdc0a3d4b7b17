-- Ranks give small and faithful names to the keys of a set.
use mathlib.Core.Path.{◌≡◌, refl, sym, ◌∙◌}
use mathlib.Core.Logic.{◌⊎◌, inl, inr}
use mathlib.Core.List.{List, [], ◌∷◌}
use mathlib.Core.Bool.{true}
use Prim.Native.Nat.{ℕ, zero, suc, ◌+◌, ◌≤◌, ◌<◌}
use native.Mathlib.Omega.{arith}
use lib.ListN.{length, get_or}
use Rattle.ccsk.specs.Numbers.{In, distinct}
use Rattle.ccsk.proofs.Lists.{get_or_in}
use Rattle.causes.specs.Columns.{Faithful, Positive}
use Rattle.keyset.specs.Set.{member}
use Rattle.keyset.proofs.Counts.{Members}
use Rattle.keys.specs.Gather.{Holds}
use Rattle.keys.proofs.Marks.{holds_members}
use Rattle.rank.specs.Rank.{rank}
use Rattle.rank.proofs.Ranks.{rank_once, rank_less, rank_counts, rank_few}
use Rattle.slots.specs.Slot.{slot, KeysIn, Renamed, Numberable, Numbered}

-- what is in a column stands in one of its places
pub in_place : (k : ℕ) (l : List ℕ) → In k l → (i : ℕ) × (i < length l) × (k ≡ get_or l i 0)
in_place k [] i = absurd i
in_place k (a ∷ l) (inl e) = (0, omega arith, e)
in_place k (a ∷ l) (inr i) = let w = in_place k l i in (suc w.0, omega (arith, w.1), w.2)

pub slot-zero : (m : List ℕ) (k : ℕ) → k ≡ 0 → 0 ≡ slot m k
unfolding slot
slot-zero m zero e = refl
slot-zero m (suc k) e = absurd (omega arith)

pub slot_key : (m : List ℕ) (k r : ℕ) → (k ≡ 0 → ⊥) → r ≡ rank m k → r + 1 ≡ slot m k
unfolding slot
slot_key m zero r z e = absurd (z refl)
slot_key m (suc k) r z e = omega arith

module _ (m ks : List ℕ) (H : Holds m ks) (small : (i : ℕ) → get_or ks i 0 < 65536) (P : Positive ks) where
  key_small : (k : ℕ) → In k ks → k < 65536
  key_small k i = let w = in_place k ks i in omega (arith, small w.0, w.2)

  key_positive : (k : ℕ) → In k ks → 0 < k
  key_positive k i = let w = in_place k ks i in omega (arith, P w.0 w.1, w.2)

  key_member : (k : ℕ) → In k ks → member m k ≡ true
  key_member k i = (H.exact k (key_small k i)).1 i

  members : Members m 65536 ks
  members = holds_members m ks H key_small

  -- as many ranks as different keys
  pub ranks_count : (n : ℕ) → n ≡ distinct ks → n ≡ rank m 65536
  ranks_count n e = e ∙ sym (rank_counts m 65536 ks members)

  pub ranks_few : rank m 65536 ≤ length ks
  ranks_few = rank_few m 65536 ks members

  pub keys_in : KeysIn m ks
  keys_in i h z = key_member (get_or ks i 0) (get_or_in ks i h)

  slot_below : (k : ℕ) → In k ks → slot m k < rank m 65536 + 1
  unfolding slot
  slot_below zero i = omega (arith, key_positive zero i)
  slot_below (suc k) i = omega (arith, rank_less m (suc k) 65536 (key_member (suc k) i) (key_small (suc k) i))

  pub slot_faithful : Faithful (slot m) ks
  unfolding slot
  slot_faithful = record { keys = λ k i. (key_positive k i, positive k (key_positive k i)); apart = λ j k a b e. same j k (key_positive j a) (key_positive k b) (key_member j a) (key_member k b) e }
    where
      positive : (k : ℕ) → 0 < k → 0 < slot m k
      positive zero h = absurd (omega arith)
      positive (suc k) h = omega arith

      same : (j k : ℕ) → 0 < j → 0 < k → member m j ≡ true → member m k ≡ true → slot m j ≡ slot m k → j ≡ k
      same zero k a b p q e = absurd (omega arith)
      same (suc j) zero a b p q e = absurd (omega arith)
      same (suc j) (suc k) a b p q e = rank_once m (suc j) (suc k) p q (omega arith)

  -- the columns under their new names
  pub numbered : (us ks' us' : List ℕ) (n : ℕ) → Numberable ks us → n ≡ rank m 65536 → Renamed (slot m) ks ks' → Renamed (slot m) us us' → Numbered ks us ks' us' (n + 1)
  unfolding slot
  numbered us ks' us' n N e p q = record {
    name = slot m;
    root = refl;
    faithful = slot_faithful;
    keys = p;
    ups = q;
    keys_below = λ i h. rw (p.1 i (omega (arith, p.0)), e) (slot_below (get_or ks i 0) (get_or_in ks i (omega (arith, p.0))));
    ups_below = λ i h. rw (q.1 i (omega (arith, q.0)), e) (up_below (get_or us i 0) (N.ups i (omega (arith, q.0))));
    some = omega arith;
    few = omega (arith, ranks_few);
  }
    where
      up_below : (u : ℕ) → (u ≡ 0) ⊎ In u ks → slot m u < rank m 65536 + 1
      up_below u (inl z) = rw z (omega arith)
      up_below u (inr i) = slot_below u i
