-- From the marked keys of a record to the answers of the operations.
use mathlib.Core.Path.{◌≡◌, refl, sym, subst, ◌∙◌}
use mathlib.Core.Logic.{◌≢◌}
use mathlib.Core.List.{List}
use mathlib.Core.Bool.{Bool, true, false}
use Prim.Native.Nat.{ℕ, zero, suc, ◌<◌}
use native.Mathlib.Omega.{arith}
use Rattle.ccsk.specs.Numbers.{In}
use Rattle.ccsk.specs.Term.{Term, Key, keys}
use Rattle.ccsk.proofs.Lists.{distinct-length, least_free_lem}
use Rattle.ccsk.proofs.Keys.{keys_few}
use Rattle.format.specs.Read.{Reads}
use Rattle.operations.specs.Ask as ask
use Rattle.operations.specs.Change as change
use Rattle.keyset.specs.Set.{member, added, Missing, LeastMissing}
use Rattle.keyset.proofs.Sets.{added_same, added_other}
use Rattle.keyset.proofs.Steps.{within}
use Rattle.std.specs.Prelude.{Result, Ok, Err}
use Rattle.shared.specs.declared.Refusal.{Refusal}
use Rattle.shared.specs.Refusal.{refusal, value}
use Rattle.keys.specs.Gather.{Scanned, Gathered, Cleared}
use Rattle.keys.proofs.Marks.{not_both}

pub counted : (s m : List ℕ) (r : Result ℕ Refusal) → Gathered s m r → ask.KeyCount s (refusal r) (value r)
counted s m (Err r) g = ask.KeyCount.unreadable g
counted s m (Ok n) g = rw g.count (ask.KeyCount.done g.whole.reads)

module _ (s m : List ℕ) (n : ℕ) (S : Scanned s m n) where
  -- with 0 put in, a key above 0 is in the set if it stands in the record
  other : (k : Key) → k ≢ 0 → member (added m 0) k ≡ member m k
  other k h = added_other m 0 k (omega (arith, S.holds.whole)) h

  -- the record has fewer keys than there are
  pub some_missing : (m' : List ℕ) → m' ≡ added m 0 → Missing m'
  some_missing m' e =
      let f = least_free_lem (keys S.of) in
      let small : f.0 < 65536 = omega (arith, f.1, distinct-length (keys S.of), keys_few S.of, S.whole.fits.nodes) in
      rw e (f.0, small, other f.0 (λ z. omega (arith, f.2.pos, z)) ∙ absent f.0 small f.2.free)
    where
      absent : (k : Key) → k < 65536 → ¬ In k (keys S.of) → member m k ≡ false
      absent k h i = pick (member m k) refl
        where
          pick : (b : Bool) → member m k ≡ b → b ≡ false
          pick true e = absurd (i ((S.holds.exact k h).0 e))
          pick false e = refl

  pub freed : (m' : List ℕ) → m' ≡ added m 0 → (k : Key) → LeastMissing m' k → ask.FreeKey s 0 k
  freed m' e k L = ask.FreeKey.done S.whole.reads (record {
    pos = pos (subst (λ (x : List ℕ). LeastMissing x k) e L);
    free = free (subst (λ (x : List ℕ). LeastMissing x k) e L);
    least = least (subst (λ (x : List ℕ). LeastMissing x k) e L);
  })
    where
      h : k < 65536
      h = within m' k (some_missing m' e) L.least

      pos : LeastMissing (added m 0) k → 0 < k
      pos L = above k refl
        where
          above : (j : ℕ) → k ≡ j → 0 < k
          above zero q = absurd (not_both (added_same m 0 (omega (arith, S.holds.whole))) (rw q at L.missing))
          above (suc j) q = omega arith

      free : LeastMissing (added m 0) k → ¬ In k (keys S.of)
      free L i = not_both ((S.holds.exact k h).1 i) (sym (other k (λ z. omega (arith, pos L, z))) ∙ L.missing)

      least : LeastMissing (added m 0) k → (j : ℕ) → 0 < j → j < k → In j (keys S.of)
      least L j p b = (S.holds.exact j (omega (arith, h))).0 (sym (other j (λ z. omega arith)) ∙ L.least j b)

-- the record is cleared, and its term is the one that was counted
pub blanked : (s m : List ℕ) (n : ℕ) → Scanned s m n → (s' : List ℕ) → Cleared s s' → change.BlankForm s 0 n s'
blanked s m n S s' C =
    let e : S.of ≡ C.0 = same S.of C.0 S.whole.reads C.1.reads in
    rw (S.count, C.2, ← e) (change.BlankForm.done S.whole.reads)
  where
    same : (t u : Term) → Reads s t → Reads s u → t ≡ u
    same t u p q = cc
