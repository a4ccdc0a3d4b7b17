-- The labels shown and the places marked at a node, from those of its parts: one law for each form.
use mathlib.Core.Path.{◌≡◌, refl, ◌∙◌}
use mathlib.Core.Logic.Iff
use mathlib.Core.Logic.{◌⊎◌, inl, ⊎_elim, ◌↔◌}
use mathlib.Core.List.{List}
use Prim.Native.Nat.{ℕ, ◌+◌}
use native.Mathlib.Omega.{arith}
use lib.ListN.{length, get_or}
use Rattle.ccsk.specs.Term.{Term, Label, Node, Co, On, size}
use Rattle.labelset.specs.declared.Labels.{Labels}
use Rattle.labelset.specs.Set.{Shows, Exactly}
use Rattle.offers.specs.Offers.{Shown, Wanted, At}
use Rattle.offers.proofs.Places.{trans, flip, at_same, at_one, at_two_lem, at_own}
use Rattle.offers.proofs.Forms as part
use Rattle.offers.proofs.Forms.{nothing, own, next, second, hidden, choice, parallel}
use Rattle.offers.proofs.Wanted.{shown_silent, shown_own, shown_passed, shown_split, shown_hidden, wanted_same, wanted_silent, wanted_own, wanted_passed, wanted_choice, wanted_parallel, wanted_hidden}
use Rattle.offers.specs.Forms.{Part}
use Rattle.index.specs.declared.Form.{Form}
use Rattle.index.specs.declared.Form.TheVariants.{Both}
use Rattle.index.specs.declared.Rows.{Rows}
use Rattle.index.specs.Whole.{number_of, PartAt}
use Rattle.index.proofs.FormNumbers.{form_once}
use Rattle.wanted.specs.Kept.{shown_at, Noted, Covers}
use Rattle.wanted.specs.Pass.{Adds, Marked, Marks}
use Rattle.wanted.proofs.Adding.{one_of, adds_none, adds_same, adds_both}
use Rattle.wanted.proofs.Noting.{covers_more}

-- the same labels
exactly : {s : Labels} {P Q : Label → Type 0} → Exactly s P → ((l : Label) → Q l ↔ P l) → Exactly s Q
exactly e f = record { at = λ l. trans (e.at l) (flip (f l)) }

module _ {F A E : List ℕ} {n : Node} {told : Labels} {M : List ℕ} where
  pub marked_nothing : {t : Term} {r : Labels} → part.Form F A E n 0 t → Exactly r (λ l. ⊥) → Marked n t told M M r
  marked_nothing (nothing s) e = record { shows = exactly e (λ l. (shown_silent s l, λ w. absurd w)); adds = adds_none (λ i w. wanted_silent (Shows told) s w.0 w.2) }

  pub marked_own : {t : Term} {r : Labels} {M' : List ℕ} → part.Form F A E n 1 t → Exactly r (λ l. l ≡ get_or A n 0) → Adds (λ i. (i ≡ n) × Shows told (get_or A n 0)) M M' → Marked n t told M M' r
  marked_own (own e f s) x d = record { shows = exactly x (λ l. rw e (shown_own s l)); adds = adds_same (λ i. flip (at_own n i (λ q. rw e (wanted_own (Shows told) s q)))) d }

  pub marked_next : {t : Term} {r : Labels} {M' : List ℕ} → part.Form F A E n 2 t → ((u : Term) → Part F A E (n + 1) u → Marked (n + 1) u told M M' r) → Marked n t told M M' r
  marked_next (next {u = u} P x) f = let m = f u x in record { shows = exactly m.shows (shown_passed P); adds = adds_same (λ i. flip (at_one n 1 (n + 1) i refl (wanted_passed (Shows told) P))) m.adds }

  pub marked_second : {t : Term} {r : Labels} {M' : List ℕ} {k : Node} → part.Form F A E n 3 t → k ≡ get_or E (n + 1) 0 → ((u : Term) → Part F A E k u → Marked k u told M M' r) → Marked n t told M M' r
  marked_second {k = k} (second {u = u} m P e x) d f = let z : k ≡ n + 1 + m = d ∙ e in let y = f u (rw z x) in
      record { shows = exactly y.shows (shown_passed P); adds = adds_same (λ i. flip (at_one n (1 + m) k i (omega arith) (wanted_passed (Shows told) P))) y.adds }

  pub marked_hidden : {t : Term} {r less below : Labels} {M' : List ℕ} → part.Form F A E n 6 t → Exactly less (λ l. Shows told l × ¬ On (get_or A n 0) l)
      → ((u : Term) → Part F A E (n + 1) u → Marked (n + 1) u less M M' below) → Exactly r (λ l. Shows below l × ¬ On (get_or A n 0) l) → Marked n t told M M' r
  marked_hidden (hidden {t = t} e c x) q f z = let m = f t x in record {
    shows = exactly (rw e at z) (λ l. trans (shown_hidden l) (Iff.and (flip (m.shows.at l)) Iff.rfl));
    adds = adds_same (λ i. flip (at_one n 1 (n + 1) i refl (λ p. trans (wanted_hidden (Shows told) p) (at_same 1 p (wanted_same {t = t} (λ l. flip (rw e at (q.at l)))))))) m.adds;
  }

  -- the two parts, the right one first
  module _ {left right more r : Labels} {M' M'' : List ℕ} {k : Node} (b : Form) (d : k ≡ get_or E (n + 1) 0) (f : (v : Term) → Part F A E k v → Marked k v told M M' right)
      (q : Exactly more (λ l. Shows told l ⊎ ((b ≡ Both) × ((j : ℕ) × Co l j × Shows right j)))) (g : (u : Term) → Part F A E (n + 1) u → Marked (n + 1) u more M' M'' left) (z : Exactly r (λ l. Shows left l ⊎ Shows right l)) where
    of_two : {t u v : Term} {U : Label → Type 0} → ((l : Label) → Shown t l ↔ (Shown u l ⊎ Shown v l)) → ((p : Node) → Wanted (Shows told) t p ↔ (At 1 (Wanted U u) p ⊎ At (1 + size u) (Wanted (Shows told) v) p))
        → ((l : Label) → U l ↔ Shows more l) → get_or E (n + 1) 0 ≡ n + 1 + size u → Part F A E (n + 1) u → Part F A E k v → Marked n t told M M'' r
    of_two {t} {u} {v} s w o e x y = let one = g u x in let two = f v y in record {
      shows = exactly z (λ l. trans (s l) (one_of (flip (one.shows.at l)) (flip (two.shows.at l))));
      adds = adds_same (λ i. flip (at_two_lem n 1 (1 + size u) (n + 1) k i refl (omega (arith, d, e)) (λ p. trans (w p) (one_of (at_same 1 p (wanted_same {t = u} o)) Iff.rfl)))) (adds_both two.adds one.adds);
    }

    pub marked_two : {t : Term} {h : ℕ} → part.Two F A E n h t → number_of b ≡ h → Marked n t told M M'' r
    marked_two (choice P i x y) e = of_two (shown_split P) (wanted_choice (Shows told) P) (λ l. flip (trans (q.at l) (λ w. ⊎_elim (λ a. a) (λ a. let z : ◌≡◌ {A = ℕ} 5 4 = rw a.0 at e in absurd (omega arith)) w, inl))) i x (rw (d ∙ i) y)
    marked_two (parallel {v = v} P i x y) e = let y' : Part F A E k v = rw (d ∙ i) y in let s = (f v y').shows in of_two (shown_split P) (wanted_parallel (Shows told) P)
        (λ l. flip (trans (q.at l) (one_of Iff.rfl (λ a. (a.1.0, a.1.1, (s.at a.1.0).0 a.1.2), λ a. (form_once b Both e, (a.0, a.1, (s.at a.0).1 a.2)))))) i x y'

-- what is marked and shown at a node is told and noted for it
pub marks_noted : {R : Rows} {n : Node} {told x : Labels} {M M' : List ℕ} {K₀ K K' : List Labels} → ((t : Term) → PartAt R n t → Marked n t told M M' x) → (Covers R K₀ → Covers R K) → length M' ≡ length M → length K ≡ length K₀
    → Noted n x K K' → Marks R n told M K₀ M' K'
marks_noted f c m k w = record { part = λ t P. rw w.told (f t P); covers = λ z. covers_more w (λ t P. (f t P).shows) (c z); room = m; long = w.long ∙ k }

-- where one part alone steps, what it leaves is what the node leaves
pub marks_passed : {R : Rows} {n m : Node} {told : Labels} {M M' : List ℕ} {K K' : List Labels} → ((t : Term) → PartAt R n t → Marked n t told M M' (shown_at K' 0)) → Marks R m told M K M' K' → Marks R n told M K M' K'
marks_passed f m = record { part = f; covers = m.covers; room = m.room; long = m.long }
