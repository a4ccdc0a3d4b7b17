-- The places that show one of some labels, listed at a node from those of its parts: one law for each form.
use mathlib.Core.Path.{◌≡◌, refl, ◌∙◌}
use mathlib.Core.Logic.{◌≢◌, ◌↔◌}
use mathlib.Core.List.{List}
use Prim.Native.Nat.{ℕ, ◌+◌, ◌<◌, ◌≤◌}
use native.Mathlib.Omega.{arith}
use lib.ListN.{get_or}
use Rattle.ccsk.specs.Term.{Term, Label, Node, On, size}
use Rattle.labelset.specs.declared.Labels.{Labels}
use Rattle.labelset.specs.Set.{Shows, Exactly}
use Rattle.offers.specs.Offers.{Showing, At}
use Rattle.offers.proofs.Places.{trans, flip, at_same, at_one, at_two_lem, at_own}
use Rattle.offers.proofs.Parts.{Splits, offers_under}
use Rattle.offers.proofs.Forms.{Form, nothing, own, next, second, hidden, form, Two, choice, parallel, two_parts, part_end}
use Rattle.offers.proofs.Wanted.{showing_same, showing_silent, showing_own, showing_passed, showing_split, showing_hidden}
use Rattle.index.specs.declared.Rows.{Rows}
use Rattle.index.specs.Whole.{PartAt, SomePartAt}
use Rattle.wanted.specs.Kept.{Covers, NoneShown}
use Rattle.wanted.proofs.Noting.{none_shown}
use Rattle.showing.specs.declared.Places.{Places}
use Rattle.showing.specs.Listed.{Listed, Lists}
use Rattle.showing.proofs.Listing.{listed_none, listed_same, listed_both}

-- what is listed of one part, and up to where
abbrev PartListed : Rows → List Labels → Node → (Label → Type 0) → Places → Term → Places → Type 0
PartListed R K n W L t L' = (Covers R K → Listed (At n (Showing W t)) L L') × (L'.count ≤ n + size t)

pub lists_none : {R : Rows} {K : List Labels} {L : Places} {n : Node} (want : Labels) → NoneShown K n want → L.count ≤ n → Lists R K n (Shows want) L L
lists_none want a h = record { part = λ C t P. listed_none (λ i w. none_shown want C P a w.0 w.2); few = λ t P. omega arith }

-- no label is wanted
pub lists_unasked : {R : Rows} {K : List Labels} {L : Places} {n : Node} {W : Label → Type 0} → ((l : Label) → ¬ W l) → L.count ≤ n → Lists R K n W L L
lists_unasked f h = record { part = λ C t P. listed_none (λ i w. f w.2.0 w.2.1); few = λ t P. omega arith }

pub lists_same : {R : Rows} {K : List Labels} {L L' : Places} {n : Node} {W X : Label → Type 0} → ((l : Label) → W l ↔ X l) → Lists R K n W L L' → Lists R K n X L L'
lists_same {n = n} f l = record { part = λ C t P. listed_same (λ i. at_same n i (showing_same {t = t} f)) (l.part C t P); few = l.few }

module _ {R : Rows} {K : List Labels} {n : Node} {W : Label → Type 0} {L : Places} where
  lists : {L' : Places} {h : ℕ} → get_or R.forms n 0 ≡ h → ((t : Term) → Form R.forms R.args R.ends n h t → PartListed R K n W L t L') → Lists R K n W L L'
  lists e f = record { part = λ C t P. (f t (rw e at (form n t P))).0 C; few = λ t P. (f t (rw e at (form n t P))).1 }

  pub lists_nothing : get_or R.forms n 0 ≡ 0 → L.count ≤ n → Lists R K n W L L
  lists_nothing e h = lists e of
    where
      of : (t : Term) → Form R.forms R.args R.ends n 0 t → PartListed R K n W L t L
      of t (nothing s) = (λ C. listed_none (λ i w. showing_silent W s w.0 w.2), omega arith)

  pub lists_own : {L' : Places} → get_or R.forms n 0 ≡ 1 → Listed (λ i. (i ≡ n) × W (get_or R.args n 0)) L L' → L'.count ≤ n + 1 → Lists R K n W L L'
  unfolding size
  lists_own {L'} e l h = lists e of
    where
      of : (t : Term) → Form R.forms R.args R.ends n 1 t → PartListed R K n W L t L'
      of t (own d f s) = (λ C. listed_same (λ i. flip (at_own n i (λ q. rw d (showing_own W s q)))) l, omega arith)

  pub lists_next : {L' : Places} → get_or R.forms n 0 ≡ 2 → Lists R K (n + 1) W L L' → Lists R K n W L L'
  lists_next {L'} e l = lists e of
    where
      of : (t : Term) → Form R.forms R.args R.ends n 2 t → PartListed R K n W L t L'
      of t (next {u = u} P x) = (λ C. listed_same (λ i. flip (at_one n 1 (n + 1) i refl (showing_passed W P))) (l.part C u x), omega (arith, l.few u x, P.within))

  pub lists_second : {L' : Places} {k : ℕ} → get_or R.forms n 0 ≡ 3 → k ≡ get_or R.ends (n + 1) 0 → Lists R K k W L L' → Lists R K n W L L'
  lists_second {L'} {k} e d l = lists e of
    where
      of : (t : Term) → Form R.forms R.args R.ends n 3 t → PartListed R K n W L t L'
      of t (second {u = u} m P q x) = let y : PartAt R k u = rw (d ∙ q) x in (
        λ C. listed_same (λ i. flip (at_one n (1 + m) k i (omega (arith, d, q)) (showing_passed W P))) (l.part C u y),
        omega (arith, l.few u y, P.within, d, q),
      )

  pub lists_hidden : {L' : Places} {less : Labels} → get_or R.forms n 0 ≡ 6 → Exactly less (λ l. W l × ¬ On (get_or R.args n 0) l) → Lists R K (n + 1) (Shows less) L L' → Lists R K n W L L'
  unfolding size
  lists_hidden {L'} {less} e z l = lists e of
    where
      of : (t : Term) → Form R.forms R.args R.ends n 6 t → PartListed R K n W L t L'
      of t (hidden {t = u} d f x) = (
        λ C. listed_same (λ i. flip (at_one n 1 (n + 1) i refl (λ p. trans (showing_hidden W p) (at_same 1 p (showing_same {t = u} (λ l. flip (rw d at (z.at l)))))))) (l.part C u x),
        omega (arith, l.few u x),
      )

  -- the two parts, one after the other
  module _ {L' L'' : Places} {k : ℕ} (d : k ≡ get_or R.ends (n + 1) 0) (l : Lists R K (n + 1) W L L') (m : Lists R K k W L' L'') where
    pub lists_two : 3 < get_or R.forms n 0 → get_or R.forms n 0 ≢ 6 → Lists R K n W L L''
    lists_two h g = lists refl (λ t w. of (two_parts w h g))
      where
        of_two : {X : Node → Node → Type 0} {t u v : Term} → Splits X t u v → get_or R.ends (n + 1) 0 ≡ n + 1 + size u → PartAt R (n + 1) u → PartAt R (n + 1 + size u) v → PartListed R K n W L t L''
        of_two {u = u} {v = v} P q x z = let y : PartAt R k v = rw (d ∙ q) z in (
          λ C. listed_same (λ i. flip (at_two_lem n 1 (1 + size u) (n + 1) k i refl (omega (arith, d, q)) (showing_split W P)))
              (listed_both (l.part C u x) (m.part C v y) (λ i j a b. omega (arith, a.1, b.1, offers_under a.2.2, d, q))),
          omega (arith, m.few v y, P.within, d, q),
        )

        of : {h : ℕ} {t : Term} → Two R.forms R.args R.ends n h t → PartListed R K n W L t L''
        of (choice P i x y) = of_two P i x y
        of (parallel P i x y) = of_two P i x y

-- a part that is not entered, because it is noted that it shows nothing wanted: the first of two, or the second
module _ {R : Rows} {K : List Labels} {L L' : Places} {n k : Node} (want : Labels) (d : k ≡ get_or R.ends (n + 1) 0) (h : 3 < get_or R.forms n 0) (g : get_or R.forms n 0 ≢ 6) where
  pub lists_beyond : L.count ≤ n → NoneShown K (n + 1) want → Lists R K k (Shows want) L L' → Lists R K n (Shows want) L L'
  lists_beyond q z l = lists_two d (lists_none want z (omega arith)) l h g

  pub lists_before : NoneShown K k want → SomePartAt R (n + 1) → Lists R K (n + 1) (Shows want) L L' → Lists R K n (Shows want) L L'
  lists_before z S l = lists_two d l (lists_none want z (omega (arith, l.few S.0 S.1, part_end S.0 S.1, d))) h g
