-- Marked keys: the empty set, a set with one key more, and a set with the front of a column.
use mathlib.Core.Path.{◌≡◌, refl, sym, ◌∙◌}
use mathlib.Core.Logic.{◌↔◌}
use mathlib.Core.List.{List, [], ◌∷◌}
use mathlib.Core.Bool.{Bool, true, false, cond}
use Prim.Native.Nat.{ℕ, zero, suc, ◌+◌, ◌≤◌, ◌<◌}
use native.Mathlib.Decide.{ℕ_discrete}
use native.Mathlib.Numerals.{add-one}
use native.Mathlib.Omega.{arith}
use lib.ListN.{length, get_or, take, replicate, length-take, length-replicate}
use lib.Seq.{take-suc}
use Rattle.ccsk.specs.Numbers.{In, distinct}
use Rattle.ccsk.specs.Term.{Key, done}
use Rattle.ccsk.proofs.Lists.{in_left, distinct-length}
use Rattle.keyset.specs.Set.{member, added, Added}
use Rattle.keyset.proofs.Sets.{gain_few, empty_member, length_added, added_old, added_same, added_other}
use Rattle.keyset.proofs.Counts.{Members}
use Rattle.keys.specs.Gather.{Holds, Marked}
use Rattle.keys.proofs.Distinct.{snoc, in_snoc, snoc_last, distinct_snoc_new, distinct_snoc_old}

pub not_both : {b : Bool} → b ≡ true → b ≡ false → ⊥
not_both p q = let z : ◌≡◌ {A = ℕ} 0 1 = cc in omega arith

-- the array of zeros is the empty set
empty : (n : ℕ) → n ≡ 8192 → Holds (replicate n 0) []
empty n e = record {
  whole = length-replicate n 0 ∙ e;
  exact = λ k h. (λ q. not_both q (empty_member n k (omega arith)), λ i. absurd i);
}

pub holds_none : Holds (replicate 8192 0) []
holds_none = empty 8192 refl

-- the members of a set that holds a list of keys are the keys of the list
pub holds_members : (m : List ℕ) (l : List Key) → Holds m l → ((k : Key) → In k l → k < 65536) → Members m 65536 l
holds_members m l H small k = (λ i. (small k i, (H.exact k (small k i)).1 i), λ w. (H.exact k w.0).0 w.1)

-- a key above 0 is a list of one
done_one : (k : Key) → (k ≡ 0 → ⊥) → done k [] ≡ k ∷ []
done_one zero h = absurd (h refl)
done_one (suc k) h = refl

module _ (m : List ℕ) (l : List Key) (H : Holds m l) (k : Key) (h : k < 65536) where
  -- a key that is there already
  holds_old : In k l → Holds m (snoc l k)
  holds_old i = record {
    whole = H.whole;
    exact = λ j b. (λ e. in_left j l (k ∷ []) ((H.exact j b).0 e), λ e. (H.exact j b).1 (back j e (ℕ_discrete j k)));
  }
    where
      back : (j : ℕ) → In j (snoc l k) → Dec (j ≡ k) → In j l
      back j e (yes q) = rw q i
      back j e (no q) = in_snoc j k l q e

  -- a key more
  holds_new : Holds (added m k) (snoc l k)
  holds_new = record {
    whole = length_added m k ∙ H.whole;
    exact = λ j b. pick j b (ℕ_discrete j k);
  }
    where
      pick : (j : ℕ) → j < 65536 → Dec (j ≡ k) → (member (added m k) j ≡ true) ↔ In j (snoc l k)
      pick j b (yes q) = rw q (λ e. snoc_last k l, λ e. added_same m k (omega (arith, H.whole)))
      pick j b (no q) =
          let o = added_other m k j (omega (arith, H.whole)) q in
          (λ e. in_left j l (k ∷ []) ((H.exact j b).0 (sym o ∙ e)), λ e. o ∙ (H.exact j b).1 (in_snoc j k l q e))

-- a key was put in: the set holds it too, and it counts if it is new
module _ (m : List ℕ) (k : Key) (h : k < 65536) (m' : List ℕ) (r : ℕ) (A : Added m k m' r) where
  pub put_in : (l : List Key) → Holds m l → Holds m' (snoc l k) × (distinct (snoc l k) ≡ distinct l + r)
  put_in l H = rw (A.result, A.gain) (pick (member m k) refl)
    where
      pick : (b : Bool) → member m k ≡ b → Holds (added m k) (snoc l k) × (distinct (snoc l k) ≡ distinct l + cond b 0 1)
      pick true e = let i = (H.exact k h).0 e in rw (added_old m k e) (holds_old m l H k h i, omega (arith, distinct_snoc_old k l i))
      pick false e = (holds_new m l H k h, omega (arith, distinct_snoc_new k l (λ i. not_both ((H.exact k h).1 i) e)))

  pub mark_added : (k ≡ 0 → ⊥) → Marked m k m' r
  mark_added p = record { one = gain_few A; more = λ l H. rw (done_one k p) (put_in l H) }

-- The keys of a column before place i are in the set m, and n of them are different.
abbrev pub Front : List ℕ → ℕ → List ℕ → ℕ → Type 0
Front ks i m n = Holds m (take i ks) × (n ≡ distinct (take i ks))

pub front_none : (ks m : List ℕ) → Holds m [] → Front ks 0 m 0
unfolding distinct
front_none ks m H = (H, refl)

pub front_more : (ks : List ℕ) (i : ℕ) (m : List ℕ) (n : ℕ) → i < length ks → get_or ks i 0 < 65536 → (m' : List ℕ) (r : ℕ) → Added m (get_or ks i 0) m' r → Front ks i m n → Front ks (i + 1) m' (n + r)
front_more ks i m n l h m' r A F = let w = put_in m (get_or ks i 0) h m' r A (take i ks) F.0 in rw (add-one i, take-suc ks i 0 l) (w.0, omega (arith, w.1, F.1))

pub front_few : (ks : List ℕ) (i : ℕ) (m : List ℕ) (n : ℕ) → Front ks i m n → n ≤ i
front_few ks i m n F = omega (arith, F.1, distinct-length (take i ks), length-take i ks)
