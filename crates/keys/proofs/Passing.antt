-- Going through a record from node to node and marking its keys.
use mathlib.Core.Path.{◌≡◌, refl, sym, ap, subst, ◌∙◌}
use mathlib.Core.List.{List, [], ◌∷◌, ◌++◌, append_assoc, append-nil}
use Prim.Native.Nat.{ℕ, ◌+◌, ◌≤◌, ◌<◌}
use native.Mathlib.Omega.{arith}
use lib.ListN.{length, get_or}
use Rattle.ccsk.specs.Numbers.{distinct}
use Rattle.ccsk.specs.Term.{Term, Key, keys, done}
use Rattle.format.specs.Flat.{keys_of, after, Due, key_at}
use Rattle.format.specs.Kinds.{length_of_body}
use Rattle.format.proofs.Flat.{keys_head, key_here, ends_within, due_after, none_due, all_due, keys_one, keys_none}
use Rattle.keys.specs.Gather.{RecordOf, Readable, Holds, Marked, Scanned}

-- Up to the place `at` of the record s, the keys were marked in m, and n of them are different.
pub record Passed (s m : List ℕ) (at n : ℕ) : Type 0 where
  pub of : Term
  pub whole : RecordOf s of
  pub terms : List Term
  pub due : Due s at terms
  pub past : List Key
  pub all : past ++ keys_of terms ≡ keys of
  pub holds : Holds m past
  pub count : n ≡ distinct past
  pub few : n ≤ at
  pub reach : at ≤ length s

pub start : (s m : List ℕ) → Readable s → Holds m [] → Passed s m 0 0
unfolding distinct
start s m R H = record {
  of = R.0;
  whole = R.1;
  terms = R.0 ∷ [];
  due = all_due s R.0 R.1.bytes;
  past = [];
  all = keys_one R.0;
  holds = H;
  count = refl;
  few = omega arith;
  reach = omega arith;
}

module _ (s m : List ℕ) (at n : ℕ) (P : Passed s m at n) where
  pub onward : (h : at < length s) (k : Key) → k ≡ key_at s at → (m' : List ℕ) (r : ℕ) → Marked m k m' r → (b : ℕ) → b ≡ get_or s at 0
      → Passed s m' (at + (1 + length_of_body b)) (n + r)
  onward h k q m' r M b e =
      let w = M.more P.past P.holds in
      record {
        of = P.of;
        whole = P.whole;
        terms = after P.terms;
        due = due_after s at P.terms P.due h b e;
        past = P.past ++ done k [];
        all = rw (append_assoc, q ∙ key_here s at P.terms P.due h, ← keys_head P.terms) P.all;
        holds = w.0;
        count = omega (arith, w.1, P.count);
        few = omega (arith, P.few, M.one);
        reach = ends_within s at P.terms P.due h b e;
      }

  pub scanned : length s ≤ at → Scanned s m n
  scanned h =
      let e : P.past ≡ keys P.of = sym (rw (none_due s at P.terms h P.due, keys_none, append-nil) at (sym P.all)) in
      record { of = P.of; whole = P.whole; count = P.count ∙ ap distinct e; holds = subst (Holds m) e P.holds }
