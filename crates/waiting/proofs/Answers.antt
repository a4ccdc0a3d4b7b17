-- From the set of keys that links lead to, to the answer.
use mathlib.Core.Path.{◌≡◌, refl, subst}
use mathlib.Core.Logic.{◌↔◌}
use mathlib.Core.List.{List}
use mathlib.Core.Bool.{Bool, true, false}
use Prim.Native.Nat.{ℕ, ◌<◌}
use native.Mathlib.Omega.{arith}
use lib.ListN.{length}
use Rattle.ccsk.specs.Numbers.{Lists}
use Rattle.ccsk.specs.Term.{Term, Key, Has}
use Rattle.sound.proofs.Chains.{chain_map, final}
use Rattle.causes.proofs.Nearest.{chains_agree, right_keys}
use Rattle.format.specs.Read.{Reads}
use Rattle.operations.specs.Ask.{WaitingList, Filled}
use Rattle.operations.specs.Order.{WaitsFor}
use Rattle.keyset.specs.Set.{member, members_below}
use Rattle.keyset.proofs.Counts.{members_count}
use Rattle.keyset.proofs.Members.{members_list}
use Rattle.keys.proofs.Marks.{holds_members}
use Rattle.filing.specs.declared.Cabinet.{Cabinet}
use Rattle.filing.specs.Record.{Stands, AllFiled}
use Rattle.chains.specs.Reach.{LeadsTo, Closed}
use Rattle.waiting.specs.Listed.{ToKeys, Listed}

-- the set of the keys that were reached
module _ (x : Cabinet) (m : Key) (marks : List ℕ) (n : ℕ) (C : Closed x m marks n) where
  pub counted : n ≡ length (members_below marks 65536)
  counted = rw (members_count marks 65536 C.keys (holds_members marks C.keys C.holds C.small)) C.count

  module _ (K : ToKeys x) where
    key_reached : (k : Key) → LeadsTo x m k → 0 < k
    key_reached k w = let l = final w.1 in K l.0 k l.1

    pub no_zero : member marks 0 ≡ false
    no_zero = pick (member marks 0) refl
      where
        pick : (b : Bool) → member marks 0 ≡ b → b ≡ false
        pick true e = absurd (omega (arith, key_reached 0 ((C.exact 0).0 ((C.holds.exact 0 (omega arith)).0 e))))
        pick false e = refl

    pub listed : Lists (LeadsTo x m) (members_below marks 65536)
    listed = members_list marks no_zero 65536 (LeadsTo x m) each
      where
        each : (k : Key) → (k < 65536) × (member marks k ≡ true) ↔ (0 < k) × LeadsTo x m k
        each k = (
          λ w. let l = (C.exact k).0 ((C.holds.exact k w.0).0 w.1) in (key_reached k l, l),
          λ w. let i = (C.exact k).1 w.1 in (C.small k i, (C.holds.exact k (C.small k i)).1 i),
        )

    pub reached_listed : (row row' : List ℕ) (r y : ℕ) → Filled (members_below marks 65536) row r y row' → Listed x m row r y row'
    reached_listed row row' r y F = (members_below marks 65536, listed, F)

-- the links of a record
module _ (s : List ℕ) (x : Cabinet) (A : AllFiled s x) where
  abbrev of : Term
  of = A.1.0

  pub to_keys_lem : ToKeys x
  to_keys_lem m n l = (right_keys 0 of m n ((A.1.2 m n).0 l)).1

  -- chains of links are chains of the order
  pub waits : (m k : Key) → LeadsTo x m k ↔ WaitsFor of m k
  waits m k = (λ w. (w.0, (chains_agree of m k w.0).1 (chain_map (λ i j. (A.1.2 i j).0) w.1)), λ w. (w.0, chain_map (λ i j. (A.1.2 i j).1) ((chains_agree of m k w.0).0 w.1)))

  pub answered : (m : Key) (row row' : List ℕ) (r y : ℕ) → 0 < m → Stands s m true → Listed x m row r y row' → WaitingList s m row r y row'
  answered m row row' r y p S L =
      WaitingList.done A.1.1.reads p (subst (Has m) (same S.0 of S.1.reads A.1.1.reads) S.2)
      (L.1.0, λ k. (λ i. let w = (L.1.1 k).0 i in (w.0, (waits m k).0 w.1), λ w. (L.1.1 k).1 (w.0, (waits m k).1 w.1))) L.2
    where
      same : (t u : Term) → Reads s t → Reads s u → t ≡ u
      same t u p q = cc
