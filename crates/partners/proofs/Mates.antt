-- What a place meets at a node, from what it meets in one of its parts: one law for each form.
use mathlib.Core.Path.{◌≡◌, refl, sym, ◌∙◌}
use mathlib.Core.Logic.{◌⊎◌, inl, inr, ⊎_elim, ◌≢◌, ◌↔◌}
use mathlib.Core.List.{List}
use mathlib.Core.Bool.{Bool, true}
use Rattle.std.specs.Prelude.{Option, Some, None}
use Prim.Native.Nat.{ℕ, ◌+◌, ◌<◌, ◌≤◌}
use native.Mathlib.Omega.{arith}
use native.Mathlib.Decide.{ℕ_discrete}
use borrow.Author.Tests.{eq-eqb, ne_eqb}
use lib.Dec.{eqb}
use lib.ListN.{get_or}
use Rattle.std.specs.Bool.{then_some}
use Rattle.ccsk.specs.Term.{Term, Label, Node, Co, res, On, size}
use Rattle.ccsk.proofs.Basic.{co_sym}
use Rattle.labelset.specs.declared.Labels.{Labels}
use Rattle.labelset.specs.Set.{Shows, Exactly}
use Rattle.offers.specs.Offers.{Joins, Showing, At, OffersAt, JoinsAt}
use Rattle.offers.proofs.Places.{trans, flip, at_in, at_one, at_two_lem, at_own, Pair, pair_in}
use Rattle.offers.proofs.Parts.{Passes, Splits, Across, Meets, offers_under, joins_under, own_offers, own_joins, hidden_offers, hidden_joins}
use Rattle.offers.proofs.Forms.{Form, nothing, own, next, second, either, both, hidden, form, Two, choice, parallel, two_parts}
use Rattle.wanted.specs.Kept.{Covers}
use Rattle.index.specs.declared.Rows.{Rows}
use Rattle.index.specs.Whole.{PartAt}
use Rattle.showing.specs.declared.Places.{Places}
use Rattle.showing.specs.Listed.{Listed, Lists}
use Rattle.partners.specs.Met as met
use Rattle.partners.specs.Met.{Hides, Answers}
use Rattle.showing.proofs.Listing.{listed_none, listed_same, listed_both}

-- what is met in one part
record PartMet (R : Rows) (K : List Labels) (n i : Node) (listing : Bool) (L : Places) (t : Term) (L' : Places) (r : Option Label) : Type 0 where
  label : (l : Label) → OffersAt n t i l ↔ (r ≡ Some l)
  mates : listing ≡ true → Covers R K → Listed (JoinsAt n t i) L L'
  few : L'.count ≤ n + size t

-- two places of a node with two parts: both in one of them, or one in each
pairs_split : {X : Node → Node → Type 0} {t u v : Term} (n k i j : Node) → k ≡ n + 1 + size u → Splits X t u v → JoinsAt n t i j ↔ (JoinsAt (n + 1) u i j ⊎ (JoinsAt k v i j ⊎ Pair n n X i j))
pairs_split {X} {t} {u} {v} n k i j e P = (
  λ w. let z = w.2 in ⊎_elim (λ y. inl (left.0 (w.0, w.1, (z.0, z.1, y)))) (λ x. inr (⊎_elim (λ y. inl (right.0 (w.0, w.1, (z.0, z.1, y)))) (λ y. inr (w.0, w.1, (z.0, z.1, y))) x)) ((P.joins w.0 z.0).0 z.2),
  λ w. ⊎_elim (λ z. up (left.1 z) (λ p q y. inl y)) (λ x. ⊎_elim (λ z. up (right.1 z) (λ p q y. inr (inl y))) (λ z. up z (λ p q y. inr (inr y))) x) w,
)
  where
    left : Pair n n (JoinsAt 1 u) i j ↔ JoinsAt (n + 1) u i j
    left = pair_in (Joins u) n 1 1 (n + 1) (n + 1) i j refl refl (λ p q. (λ z. z, λ z. z))

    right : Pair n n (JoinsAt (1 + size u) v) i j ↔ JoinsAt k v i j
    right = pair_in (Joins v) n (1 + size u) (1 + size u) k k i j (omega arith) (omega arith) (λ p q. (λ z. z, λ z. z))

    up : {R : Node → Node → Type 0} → Pair n n R i j → ((p q : Node) → R p q → JoinsAt 1 u p q ⊎ (JoinsAt (1 + size u) v p q ⊎ X p q)) → JoinsAt n t i j
    up w f = let z = w.2 in (w.0, w.1, (z.0, z.1, (P.joins w.0 z.0).1 (f w.0 z.0 z.2)))

-- what is offered by a node with two parts, and on its left
offers_two : {X : Node → Node → Type 0} {t u v : Term} (n k i : Node) → k ≡ n + 1 + size u → Splits X t u v → (l : Label) → OffersAt n t i l ↔ (OffersAt (n + 1) u i l ⊎ OffersAt k v i l)
offers_two {u = u} n k i e P l = at_two_lem n 1 (1 + size u) (n + 1) k i refl (omega arith) (λ q. P.offers q l)

left_label : {X : Node → Node → Type 0} {t u v : Term} (n k i : Node) → k ≡ n + 1 + size u → Splits X t u v → i < k → (l : Label) → OffersAt n t i l ↔ OffersAt (n + 1) u i l
left_label n k i e P h l = trans (offers_two n k i e P l) (λ w. ⊎_elim (λ z. z) (λ z. absurd (omega (arith, z.1))) w, inl)

-- a place on the left of a parallel meets one on the right
across : (u v : Term) (n k i j : Node) → k ≡ n + 1 + size u → Pair n n (Across u v) i j ↔ Pair (n + 1) k (Meets u v) i j
across u v n k i j e = pair_in (Meets u v) n 1 (1 + size u) (n + 1) k i j refl (omega arith) (λ p q. (λ z. z, λ z. z))

past : {X Y : Type 0} → X ⊎ Y → ¬ X → Y
past w e = ⊎_elim (λ z. absurd (e z)) (λ z. z) w

module _ {R : Rows} {K : List Labels} {n i : Node} {listing : Bool} {L : Places} where
  meets : {L' : Places} {r : Option Label} {h : ℕ} → get_or R.forms n 0 ≡ h → ((t : Term) → Form R.forms R.args R.ends n h t → PartMet R K n i listing L t L' r) → met.Meets R K n i listing L L' r
  meets e f = record { label = λ t P. (f t (rw e at (form n t P))).label; mates = λ b C t P. (f t (rw e at (form n t P))).mates b C; few = λ t P. (f t (rw e at (form n t P))).few }

  -- nothing is met
  alone : {r : Option Label} {t : Term} → L.count ≡ 0 → ((l : Label) → OffersAt n t i l ↔ (r ≡ Some l)) → ((p q : Node) → ¬ Joins t p q) → PartMet R K n i listing L t L r
  alone {r} e l f = record { label = l; mates = λ b C. listed_none (λ j w. f _ _ w.2.2); few = omega arith }

  -- at the end of a way
  pub meets_nothing : L.count ≡ 0 → get_or R.forms n 0 ≡ 0 → met.Meets R K n i listing L L None
  meets_nothing z e = meets e of
    where
      of : (t : Term) → Form R.forms R.args R.ends n 0 t → PartMet R K n i listing L t L None
      of t (nothing s) = alone z (λ l. (λ w. absurd (s.offers w.0 l w.2), λ w. cc)) s.joins

  pub meets_own : {r : Option Label} → L.count ≡ 0 → get_or R.forms n 0 ≡ 1 → ((l : Label) → (r ≡ Some l) ↔ ((i ≡ n) × (l ≡ get_or R.args n 0))) → met.Meets R K n i listing L L r
  meets_own {r} z e f = meets e of
    where
      of : (t : Term) → Form R.forms R.args R.ends n 1 t → PartMet R K n i listing L t L r
      of t (own {a = x} q g s) = alone z (λ l. trans (at_own n i (λ p. own_offers s p l)) (rw q at (flip (f l)))) own_joins

  -- what is met in the one part that steps
  passed : {L' : Places} {r : Option Label} {t u : Term} {k : ℕ} (m : Node) → m ≡ n + k → Passes t k u → PartAt R m u → met.Meets R K m i listing L L' r → PartMet R K n i listing L t L' r
  passed {u = u} {k = k} m e P x M = record {
    label = λ l. trans (at_one n k m i e (λ q. P.offers q l)) (M.label u x l);
    mates = λ b C. listed_same (λ j. flip (pair_in (Joins u) n k k m m i j e e P.joins)) (M.mates b C u x);
    few = omega (arith, M.few u x, P.within);
  }

  pub meets_next : {L' : Places} {r : Option Label} → get_or R.forms n 0 ≡ 2 → met.Meets R K (n + 1) i listing L L' r → met.Meets R K n i listing L L' r
  meets_next {L'} {r} e M = meets e of
    where
      of : (t : Term) → Form R.forms R.args R.ends n 2 t → PartMet R K n i listing L t L' r
      of t (next P x) = passed (n + 1) refl P x M

  pub meets_hidden : {L' : Places} {below r : Option Label} → get_or R.forms n 0 ≡ 6 → met.Meets R K (n + 1) i listing L L' below → Hides (get_or R.args n 0) below r → met.Meets R K n i listing L L' r
  unfolding size
  meets_hidden {L'} {below} {r} e M H = meets e of
    where
      of : (t : Term) → Form R.forms R.args R.ends n 6 t → PartMet R K n i listing L t L' r
      of t (hidden {a = a} {t = u} d q x) = record {
        label = λ l. trans (through l) (trans (λ w. ((M.label u x l).0 w.0, w.1), λ w. ((M.label u x l).1 w.0, w.1)) (flip (rw d at (H.at l))));
        mates = λ b C. listed_same (λ j. flip (pair_in (Joins u) n 1 1 (n + 1) (n + 1) i j refl refl hidden_joins)) (M.mates b C u x);
        few = omega (arith, M.few u x);
      }
        where
          through : (l : Label) → OffersAt n (res a u) i l ↔ (OffersAt (n + 1) u i l × ¬ On a l)
          through l = (λ w. let z = (hidden_offers w.0 l).0 w.2 in ((at_in _ n 1 (n + 1) i refl).0 (w.0, w.1, z.0), z.1), λ w. let z = (at_in _ n 1 (n + 1) i refl).1 w.0 in (z.0, z.1, (hidden_offers z.0 l).1 (z.2, w.1)))

  -- two parts: what is met in the one where the place stands
  module _ {k : Node} (d : k ≡ get_or R.ends (n + 1) 0) where
    -- the two parts of a node, each where it begins
    module _ {X : Node → Node → Type 0} {t u v : Term} (P : Splits X t u v) (e : k ≡ n + 1 + size u) where
      -- the place stands on the right
      on_right : {L' : Places} {r : Option Label} → k ≤ i → ((j : Node) → ¬ Pair n n X i j) → PartAt R k v → met.Meets R K k i listing L L' r → PartMet R K n i listing L t L' r
      on_right h f y M = record {
        label = λ l. trans (offers_two n k i e P l) (trans (λ w. ⊎_elim (λ z. absurd (omega (arith, z.1, offers_under z.2))) (λ z. z) w, inr) (M.label v y l));
        mates = λ b C. listed_same (λ j. flip (trans (pairs_split n k i j e P) (
          λ w. ⊎_elim (λ z. absurd (omega (arith, z.1, joins_under z.2.2))) (λ x. ⊎_elim (λ z. z) (λ z. absurd (f j z)) x) w,
          λ w. inr (inl w),
        ))) (M.mates b C v y);
        few = omega (arith, M.few v y, P.within);
      }

      -- it stands on the left, and no partner on the right is listed
      on_left : {L' : Places} {r : Option Label} → i < k → (listing ≡ true → (j : Node) → ¬ Pair n n X i j) → PartAt R (n + 1) u → met.Meets R K (n + 1) i listing L L' r → PartMet R K n i listing L t L' r
      on_left h f x M = record {
        label = λ l. trans (left_label n k i e P h l) (M.label u x l);
        mates = λ b C. listed_same (λ j. flip (trans (pairs_split n k i j e P) (
          λ w. ⊎_elim (λ z. z) (λ y. ⊎_elim (λ z. absurd (omega (arith, z.1))) (λ z. absurd (f b j z)) y) w,
          inl,
        ))) (M.mates b C u x);
        few = omega (arith, M.few u x, P.within);
      }

    pub meets_second : {L' : Places} {r : Option Label} → 3 ≤ get_or R.forms n 0 → get_or R.forms n 0 ≢ 6 → (get_or R.forms n 0 ≡ 3) ⊎ (k ≤ i) → met.Meets R K k i listing L L' r → met.Meets R K n i listing L L' r
    meets_second {L'} {r} g h o M = meets refl (λ t w. of t w g h o)
      where
        of : {f : ℕ} (t : Term) → Form R.forms R.args R.ends n f t → 3 ≤ f → f ≢ 6 → (f ≡ 3) ⊎ (k ≤ i) → PartMet R K n i listing L t L' r
        of t (nothing s) g h o = absurd (omega arith)
        of t (own x y s) g h o = absurd (omega arith)
        of t (next P x) g h o = absurd (omega arith)
        of t (second m P q x) g h o = passed k (omega (arith, d, q)) P (rw (d ∙ q) x) M
        of t (either P q x y) g h o = on_right P (d ∙ q) (past o (λ e. omega (arith, e))) (λ j w. w.2.2) (rw (d ∙ q) y) M
        of t (both {u = u} {v = v} P q x y) g h o = let g : k ≤ i = past o (λ e. omega (arith, e)) in on_right P (d ∙ q) g (λ j w. let z = (across u v n k i j (d ∙ q)).0 w in omega (arith, z.1, offers_under z.2.2.3, d, q)) (rw (d ∙ q) y) M
        of t (hidden q c x) g h o = absurd (h refl)

    pub meets_left : {L' : Places} {r : Option Label} → 3 < get_or R.forms n 0 → get_or R.forms n 0 ≢ 6 → i < k → (get_or R.forms n 0 ≡ 5 → listing ≡ true → r ≡ None) → met.Meets R K (n + 1) i listing L L' r → met.Meets R K n i listing L L' r
    meets_left {L'} {r} a b h s M = meets refl (λ t w. of s (two_parts w a b))
      where
        of : {g : ℕ} {t : Term} → (g ≡ 5 → listing ≡ true → r ≡ None) → Two R.forms R.args R.ends n g t → PartMet R K n i listing L t L' r
        of s (choice P q x y) = on_left P (d ∙ q) h (λ b j w. w.2.2) x M
        of s (parallel {u = u} {v = v} P q x y) = on_left P (d ∙ q) h (λ b j w. mute j w (s refl b)) x M
          where
            mute : (j : Node) → Pair n n (Across u v) i j → r ≡ None → ⊥
            mute j w z = let y = (across u v n k i j (d ∙ q)).0 w in let m = y.2.2 in let o : r ≡ Some m.0 = (M.label u x m.0).0 (y.0, y.1, m.3) in cc

    -- the partners on the right are listed behind those on the left
    pub meets_both : {L' L'' : Places} {r : Option Label} → get_or R.forms n 0 ≡ 5 → i < k → met.Meets R K (n + 1) i listing L L' r → Lists R K k (Answers r) L' L'' → met.Meets R K n i listing L L'' r
    meets_both {L'' = L''} {r = r} e h M N = meets e of
      where
        of : (t : Term) → Form R.forms R.args R.ends n 5 t → PartMet R K n i listing L t L'' r
        of t (both {u = u} {v = v} P q x a) = record {
          label = λ m. trans (left_label n k i (d ∙ q) P h m) (M.label u x m);
          mates = λ b C. listed_same (λ j. flip (trans (pairs_split n k i j (d ∙ q) P) (
            λ g. ⊎_elim inl (λ y. ⊎_elim (λ f. absurd (omega (arith, f.1))) (λ f. inr (there j ((across u v n k i j (d ∙ q)).0 f))) y) g,
            λ g. ⊎_elim inl (λ f. inr (inr ((across u v n k i j (d ∙ q)).1 (back j f)))) g,
          ))) (listed_both (M.mates b C u x) (N.part C v y) (λ f j g m. omega (arith, g.2.1, m.1, joins_under g.2.2, d, q)));
          few = omega (arith, N.few v y, P.within, d, q);
        }
          where
            y : PartAt R k v
            y = rw (d ∙ q) a

            there : (j : Node) → Pair (n + 1) k (Meets u v) i j → At k (Showing (Answers r) v) j
            there j f = let b = f.2 in let m = b.2 in (b.0, b.1, (m.1, (m.0, (M.label u x m.0).0 (f.0, f.1, m.3), m.2), m.4))

            back : (j : Node) → At k (Showing (Answers r) v) j → Pair (n + 1) k (Meets u v) i j
            back j f = let g = f.2 in let w = g.1 in let m = (M.label u x w.0).1 w.1 in (m.0, m.1, (f.0, f.1, (w.0, g.0, w.2, m.2, g.2)))

-- the action of a prefix is shown if it is the place that is looked for
pub own_label : (n i a : ℕ) {r : Option Label} → r ≡ then_some (eqb n i) a → (l : Label) → (r ≡ Some l) ↔ ((i ≡ n) × (l ≡ a))
own_label n i a {r} e l = pick (ℕ_discrete n i)
  where
    pick : Dec (n ≡ i) → (r ≡ Some l) ↔ ((i ≡ n) × (l ≡ a))
    pick (yes z) = rw (e, eq-eqb n i z) (λ w. (sym z, let o : l ≡ a = cc in o), λ w. rw w.1 refl)
    pick (no z) = rw (e, ne_eqb n i z) (λ w. cc, λ w. absurd (z (sym w.0)))

-- the complements of the set with one label
pub answers : {one want : Labels} {r : Option Label} {a : Label} → r ≡ Some a → Exactly one (λ l. l ≡ a) → Exactly want (λ l. (m : ℕ) × Co l m × Shows one m) → (l : Label) → Shows want l ↔ Answers r l
answers {a = a} e o w l = (
  λ z. let y = (w.at l).0 z in (a, e, co_sym (rw ((o.at y.0).0 y.2) at y.1)),
  λ z. let q : z.0 ≡ a = cc in (w.at l).1 (a, co_sym (rw q at z.2), (o.at a).1 refl),
)
