-- From the links of a sound record to the answer, for a key that stands there.
use mathlib.Core.Path.{◌≡◌, refl, sym, ap, subst, ◌∙◌}
use mathlib.Core.Logic.{inl, inr, ⊎_elim, ◌↔◌}
use mathlib.Core.List.{List, [], ◌∷◌, ◌++◌}
use mathlib.Core.Bool.{Bool, true, false, cond}
use Prim.Native.Nat.{ℕ, suc, ◌+◌, ◌≤◌, ◌<◌}
use native.Mathlib.Decide.{ℕ_discrete}
use native.Mathlib.Omega.{arith}
use lib.ListN.{length, set, length-append}
use Rattle.ccsk.specs.Numbers.{In, Lists}
use Rattle.ccsk.specs.Term.{Term, Key, Has}
use Rattle.ccsk.proofs.Lists.{in_either}
use Rattle.sound.specs.Run.{Undos}
use Rattle.sound.specs.Sound.{Chain, more, Sound, Verdict, sound}
use Rattle.sound.proofs.Chains.{chain_map}
use Rattle.causes.proofs.Nearest.{right_before}
use Rattle.causes.proofs.Chains.{right_apart}
use Rattle.format.specs.Limits.{node_limit}
use Rattle.format.specs.Read.{Reads}
use Rattle.format.specs.Encode.{encode}
use Rattle.operations.specs.Order.{WaitsFor}
use Rattle.operations.specs.TakeBack.{Goes, InTurn, TakeBack}
use Rattle.operations.proofs.Readable.{reads_one}
use Rattle.operations.proofs.Reachable.{sound_done}
use Rattle.operations.proofs.RowOnce.{waits_key}
use Rattle.operations.proofs.InTurn.{turn_goes}
use Rattle.operations.proofs.TakeBackOnce.{goes_key, turn_holds}
use Rattle.operations.proofs.Bounds.{listed_few}
use Rattle.keyset.specs.Set.{member, members_below, added, Added}
use Rattle.keyset.proofs.Sets.{added_same, added_other}
use Rattle.keyset.proofs.Members.{members_list}
use Rattle.keyset.proofs.Counts.{members_count}
use Rattle.keyset.proofs.Listing.{row_more}
use Rattle.keys.specs.Erase.{erase, Erased}
use Rattle.keys.proofs.Distinct.{snoc}
use Rattle.keys.proofs.Marks.{holds_members, put_in}
use Rattle.rank.proofs.Ranks.{rank-length}
use Rattle.filing.specs.declared.Cabinet.{Cabinet}
use Rattle.filing.specs.Cabinet.{Link}
use Rattle.chains.specs.Reach.{LeadsTo, Closed}
use Rattle.waiting.proofs.Answers.{counted, no_zero, listed, to_keys_lem, waits}
use Rattle.threads.specs.Rows.{Leads}
use Rattle.threads.specs.Threads.{Held, Sortable}
use Rattle.keyset.proofs.Small.{member_small}
use Rattle.order.specs.Setup.{Sorted}
use Rattle.linked.specs.Linked.{Linked}
use Rattle.linked.proofs.Turns.{in_turn}
use Rattle.linked.proofs.Undone.{erased}

module _ (s : List ℕ) (m : Key) (x : Cabinet) (links : ℕ) (L : Linked s m x links) where
  abbrev of : Term
  of = L.filed.1.0

  reads : Reads s of
  reads = L.filed.1.1.reads

  is_sound : Sound of
  is_sound = let w = sound_done L.sound in subst Sound (reads_one s w.1 reads) w.2

  stands : Has m of
  stands = subst (Has m) (reads_one s L.stands.1.reads reads) L.stands.2

  verdict : Verdict of 0
  verdict = sound is_sound

  -- no link leads back
  acyclic : (k : Key) → ¬ Chain (Link x) k k
  acyclic k c = is_sound.ordered k (chain_map (λ a b l. let i = (L.filed.1.2 a b).0 l in right_before of a b (right_apart of is_sound.twice is_sound.split a b i) i) c)

  -- the set of the keys that were reached: those that m waits for
  module _ (marks : List ℕ) (n : ℕ) (C : Closed x m marks n) where
    reached : (k : Key) → Held marks k ↔ LeadsTo x m k
    reached k = (
      λ h. (C.exact k).0 ((C.holds.exact k (member_small marks C.holds.whole k h)).0 h),
      λ l. let i = (C.exact k).1 l in (C.holds.exact k (C.small k i)).1 i,
    )

    held : (k : Key) → Held marks k ↔ WaitsFor of m k
    held k = let w = waits s x L.filed m k in ((λ h. w.0 ((reached k).0 h)), λ h. (reached k).1 (w.1 h))

    zero : member marks 0 ≡ false
    zero = no_zero x m marks n C (to_keys_lem s x L.filed)

    pub few : n ≤ node_limit
    few = omega (arith, counted x m marks n C, listed_few (LeadsTo x m) of (members_below marks 65536) L.filed.1.1.fits (listed x m marks n C (to_keys_lem s x L.filed)) (λ k p w. waits_key of m k p ((waits s x L.filed m k).0 w)))

    pub sortable : Sortable marks n links x.upper x.lower
    sortable = record {
      whole = C.holds.whole;
      count = counted x m marks n C ∙ sym (rank-length marks 65536);
      few = few;
      zero = zero;
      upper = L.filed.0.sized.upper;
      lower = L.filed.0.sized.lower;
      last = L.up_to.0;
      root = L.filed.0.zero;
      rest = L.up_to.1;
      closed = λ j k h l. let c = ((reached j).0 h).1 in (reached k).1 ((λ e. acyclic m (more c (subst (Link x j) e l))), more c l);
      acyclic = acyclic;
    }

    -- the set with m itself: all keys that go
    module _ (marks' : List ℕ) (g : ℕ) (A : Added marks m marks' g) (small : m < 65536) where
      with_key : (k : Key) → Held marks' k ↔ Goes of m k
      with_key k = rw A.result (pick (ℕ_discrete k m))
        where
          pick : Dec (k ≡ m) → Held (added marks m) k ↔ Goes of m k
          pick (yes e) = ((λ h. inl e), λ h. rw e (added_same marks m (omega (arith, C.holds.whole))))
          pick (no e) = rw (added_other marks m k (omega (arith, C.holds.whole)) e) ((λ h. inr ((held k).0 h)), λ w. ⊎_elim (λ z. absurd (e z)) (held k).1 w)

      whole : length marks' ≡ 8192
      whole = (put_in marks m small marks' g A C.keys C.holds).0.whole

      -- they are one more than those that m waits for
      goers_count : length (members_below marks' 65536) ≡ suc n
      goers_count = let w = put_in marks m small marks' g A C.keys C.holds in
          omega (arith, members_count marks' 65536 (snoc C.keys m) (holds_members marks' (snoc C.keys m) w.0 in_small), w.1, C.count, gain)
        where
          new : member marks m ≡ false
          new = not_held (member marks m) refl
            where
              not_held : (b : Bool) → member marks m ≡ b → b ≡ false
              not_held true e = absurd (((reached m).0 e).0 refl)
              not_held false e = refl

          gain : g ≡ 1
          gain = A.gain ∙ ap (λ (b : Bool). cond b 0 1) new

          in_small : (k : Key) → In k (snoc C.keys m) → k < 65536
          in_small k i = ⊎_elim (C.small k) (⊎_elim (λ e. rw e small) (λ z. absurd z)) (in_either k C.keys (m ∷ []) i)

      goers : Lists (Goes of m) (members_below marks' 65536)
      goers = members_list marks' no_key 65536 (Goes of m) each
        where
          no_key : member marks' 0 ≡ false
          no_key = rw A.result (added_other marks m 0 (omega (arith, C.holds.whole)) (λ e. omega (arith, L.key)) ∙ zero)

          positive : (k : Key) → Goes of m k → 0 < k
          positive k (inl e) = rw e L.key
          positive k (inr w) = (goes_key of m k L.key stands (inr w)).0

          each : (k : Key) → (k < 65536) × (member marks' k ≡ true) ↔ (0 < k) × Goes of m k
          each k = ((λ w. let z = (with_key k).0 w.1 in (positive k z, z)), λ w. let h = (with_key k).1 w.1 in (member_small marks' whole k h, h))

    -- the row is too short
    pub too_short : m < 65536 → (row : List ℕ) → length row ≤ n → TakeBack s m row 9 0 s row
    too_short h row g = let A : Added marks m (added marks m) (cond (member marks m) 0 1) = record { result = refl; gain = refl } in
        TakeBack.short (members_below (added marks m) 65536) reads L.key verdict stands (goers (added marks m) _ A h) (omega (arith, goers_count (added marks m) _ A h))

    -- all that goes is undone in turn, and the record is left without it
    module _ (row row₁ : List ℕ) (O : Sorted marks n x.upper x.lower row row₁) (h : n < length row) (marks' : List ℕ) (g : ℕ) (A : Added marks m marks' g) (small : m < 65536)
        (s' : List ℕ) (E : Erased (member marks') s s') where
      abbrev order : List Key
      order = O.order ++ (m ∷ [])

      turn : (u : Term) × InTurn (Goes of m) order of u × (u ≡ erase (member marks') of)
      turn = let w = in_turn of m is_sound L.key stands (Leads x.upper x.lower) L.filed.1.2 (Held marks) held O.order O.peels in
          (w.0, w.1, erased (member marks') w.2 (λ k i. (with_key marks' g A small k).1 (turn_goes k w.1 i)) (λ k p i. absent k (member marks' k) refl (w.3 k p i) p w))
        where
          absent : (k : Key) (b : Bool) → member marks' k ≡ b → ¬ In k order → 0 < k → (w : (u : Term) × InTurn (Goes of m) order of u × Undos order of u × ((k : ℕ) → 0 < k → Has k u → ¬ In k order)) → b ≡ false
          absent k true e f p w = absurd (f ((turn_holds L.key stands w.1 k).1 ((with_key marks' g A small k).0 e)))
          absent k false e f p w = refl

      many : n + 1 ≡ length order
      many = omega (arith, O.count, length-append O.order (m ∷ []))

      pub taken_back : TakeBack s m row 0 (n + 1) s' (set row₁ n m)
      taken_back = let w = turn in let e : s' ≡ encode w.0 = E.2 ∙ ap encode (ap (erase (member marks')) (reads_one s E.1.reads reads) ∙ sym w.2) in
          rw (e, row_more O.order row row₁ n m (sym O.count) h O.front, many) (TakeBack.done reads L.key verdict stands w.1 (omega (arith, many)))
