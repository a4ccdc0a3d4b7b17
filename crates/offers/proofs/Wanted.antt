-- Which labels a term shows and which of its places are wanted, from what its parts show and are asked for.
use mathlib.Core.Path.{◌≡◌, refl}
use mathlib.Core.Logic.{◌⊎◌, inl, inr, ⊎_elim, ◌↔◌}
use Prim.Native.Nat.{ℕ, ◌+◌}
use Rattle.ccsk.specs.Term.{Term, Name, Label, Node, pre, res, Std, On, size}
use Rattle.offers.specs.Offers.{Shown, Answered, Showing, Wanted, At}
use Rattle.offers.proofs.Parts.{Silent, Passes, Splits, Never, Across, own_offers, own_joins, hidden_offers, hidden_joins}

-- The labels that are shown.
pub shown_silent : {t : Term} → Silent t → (l : Label) → ¬ Shown t l
shown_silent s l w = s.offers w.0 l w.1

pub shown_own : {a : Label} {t : Term} → Std t → (l : Label) → Shown (pre a 0 t) l ↔ (l ≡ a)
shown_own s l = (λ w. ((own_offers s w.0 l).0 w.1).1, λ e. (0, (own_offers s 0 l).1 (refl, e)))

pub shown_passed : {t u : Term} {k : ℕ} → Passes t k u → (l : Label) → Shown t l ↔ Shown u l
shown_passed {k = k} P l = (λ w. let z = (P.offers w.0 l).0 w.1 in (z.0, z.2), λ w. (k + w.0, (P.offers (k + w.0) l).1 (w.0, refl, w.1)))

pub shown_split : {X : Node → Node → Type 0} {t u v : Term} → Splits X t u v → (l : Label) → Shown t l ↔ (Shown u l ⊎ Shown v l)
shown_split {u = u} P l = (
  λ w. ⊎_elim (λ z. inl (z.0, z.2)) (λ z. inr (z.0, z.2)) ((P.offers w.0 l).0 w.1),
  λ w. ⊎_elim (λ z. (1 + z.0, (P.offers (1 + z.0) l).1 (inl (z.0, refl, z.1)))) (λ z. (1 + size u + z.0, (P.offers (1 + size u + z.0) l).1 (inr (z.0, refl, z.1)))) w,
)

pub shown_hidden : {a : Name} {t : Term} (l : Label) → Shown (res a t) l ↔ (Shown t l × ¬ On a l)
shown_hidden l = (λ w. let z = (hidden_offers w.0 l).0 w.1 in ((z.0.0, z.0.2), z.1), λ w. (1 + w.0.0, (hidden_offers (1 + w.0.0) l).1 ((w.0.0, refl, w.0.1), w.1)))

-- The places that show one of the labels W.
module _ (W : Label → Type 0) where
  pub showing_silent : {t : Term} → Silent t → (q : Node) → ¬ Showing W t q
  showing_silent s q w = s.offers q w.0 w.2

  pub showing_own : {a : Label} {t : Term} → Std t → (q : Node) → Showing W (pre a 0 t) q ↔ ((q ≡ 0) × W a)
  showing_own {a = a} s q = (λ w. let z = (own_offers s q w.0).0 w.2 in (z.0, rw z.1 at w.1), λ w. (a, w.1, (own_offers s q a).1 (w.0, refl)))

  pub showing_passed : {t u : Term} {k : ℕ} → Passes t k u → (q : Node) → Showing W t q ↔ At k (Showing W u) q
  showing_passed P q = (λ w. let z = (P.offers q w.0).0 w.2 in (z.0, z.1, (w.0, w.1, z.2)), λ w. let z = w.2 in (z.0, z.1, (P.offers q z.0).1 (w.0, w.1, z.2)))

  pub showing_split : {X : Node → Node → Type 0} {t u v : Term} → Splits X t u v → (q : Node) → Showing W t q ↔ (At 1 (Showing W u) q ⊎ At (1 + size u) (Showing W v) q)
  showing_split P q = (
    λ w. ⊎_elim (λ z. inl (z.0, z.1, (w.0, w.1, z.2))) (λ z. inr (z.0, z.1, (w.0, w.1, z.2))) ((P.offers q w.0).0 w.2),
    λ w. ⊎_elim (λ y. let z = y.2 in (z.0, z.1, (P.offers q z.0).1 (inl (y.0, y.1, z.2)))) (λ y. let z = y.2 in (z.0, z.1, (P.offers q z.0).1 (inr (y.0, y.1, z.2)))) w,
  )

  pub showing_hidden : {a : Name} {t : Term} (q : Node) → Showing W (res a t) q ↔ At 1 (Showing (λ l. W l × ¬ On a l) t) q
  showing_hidden q = (
    λ w. let z = (hidden_offers q w.0).0 w.2 in (z.0.0, z.0.1, (w.0, (w.1, z.1), z.0.2)),
    λ w. let z = w.2 in (z.0, z.1.0, (hidden_offers q z.0).1 ((w.0, w.1, z.2), z.1.1)),
  )

-- Of what is asked for only the labels count.
pub showing_same : {U W : Label → Type 0} {t : Term} → ((l : Label) → U l ↔ W l) → (q : Node) → Showing U t q ↔ Showing W t q
showing_same f q = (λ w. (w.0, (f w.0).0 w.1, w.2), λ w. (w.0, (f w.0).1 w.1, w.2))

pub wanted_same : {U W : Label → Type 0} {t : Term} → ((l : Label) → U l ↔ W l) → (q : Node) → Wanted U t q ↔ Wanted W t q
wanted_same {t = t} f q = (λ w. ⊎_elim (λ z. inl ((showing_same {t = t} f q).0 z)) inr w, λ w. ⊎_elim (λ z. inl ((showing_same {t = t} f q).1 z)) inr w)

-- The places that are wanted.
module _ (W : Label → Type 0) where
  pub wanted_silent : {t : Term} → Silent t → (q : Node) → ¬ Wanted W t q
  wanted_silent s q w = ⊎_elim (λ z. showing_silent W s q z) (λ z. s.joins q z.0 z.1) w

  pub wanted_own : {a : Label} {t : Term} → Std t → (q : Node) → Wanted W (pre a 0 t) q ↔ ((q ≡ 0) × W a)
  wanted_own s q = (λ w. ⊎_elim (λ z. (showing_own W s q).0 z) (λ z. absurd (own_joins q z.0 z.1)) w, λ w. inl ((showing_own W s q).1 w))

  pub wanted_passed : {t u : Term} {k : ℕ} → Passes t k u → (q : Node) → Wanted W t q ↔ At k (Wanted W u) q
  wanted_passed {k = k} P q = (
    λ w. ⊎_elim (λ z. let y = (showing_passed W P q).0 z in (y.0, y.1, inl y.2)) (λ z. let y = (P.joins q z.0).0 z.1 in (y.0, y.1, inr (y.2.0, y.2.2))) w,
    λ w. ⊎_elim (λ z. inl ((showing_passed W P q).1 (w.0, w.1, z))) (λ z. inr (k + z.0, (P.joins q (k + z.0)).1 (w.0, w.1, (z.0, refl, z.1)))) w.2,
  )

  -- a wanted place of one of two parts is one of the whole, and the whole has no others but those that X joins
  module _ {X : Node → Node → Type 0} {t u v : Term} (P : Splits X t u v) (q : Node) where
    wanted_parts : Wanted W t q → At 1 (Wanted W u) q ⊎ (At (1 + size u) (Wanted W v) q ⊎ ((j : Node) × X q j))
    wanted_parts (inl s) = ⊎_elim (λ z. inl (z.0, z.1, inl z.2)) (λ z. inr (inl (z.0, z.1, inl z.2))) ((showing_split W P q).0 s)
    wanted_parts (inr (j, z)) = ⊎_elim (λ y. inl (y.0, y.1, inr (y.2.0, y.2.2))) (λ x. inr (⊎_elim (λ y. inl (y.0, y.1, inr (y.2.0, y.2.2))) (λ y. inr (j, y)) x)) ((P.joins q j).0 z)

    wanted_left : At 1 (Wanted W u) q → Wanted W t q
    wanted_left (p, e, inl s) = inl ((showing_split W P q).1 (inl (p, e, s)))
    wanted_left (p, e, inr (j, z)) = inr (1 + j, (P.joins q (1 + j)).1 (inl (p, e, (j, refl, z))))

    wanted_right : At (1 + size u) (Wanted W v) q → Wanted W t q
    wanted_right (p, e, inl s) = inl ((showing_split W P q).1 (inr (p, e, s)))
    wanted_right (p, e, inr (j, z)) = inr (1 + size u + j, (P.joins q (1 + size u + j)).1 (inr (inl (p, e, (j, refl, z)))))

  pub wanted_choice : {t u v : Term} → Splits Never t u v → (q : Node) → Wanted W t q ↔ (At 1 (Wanted W u) q ⊎ At (1 + size u) (Wanted W v) q)
  wanted_choice P q = (λ w. ⊎_elim inl (λ x. ⊎_elim inr (λ y. absurd y.1) x) (wanted_parts P q w), λ w. ⊎_elim (wanted_left P q) (wanted_right P q) w)

  -- a parallel asks its left side also for the complements of what its right side shows
  pub wanted_parallel : {t u v : Term} → Splits (Across u v) t u v → (q : Node) → Wanted W t q ↔ (At 1 (Wanted (λ l. W l ⊎ Answered v l) u) q ⊎ At (1 + size u) (Wanted W v) q)
  wanted_parallel {t} {u} {v} P q = (λ w. ⊎_elim (λ z. inl (z.0, z.1, more z.2)) (λ x. ⊎_elim inr (λ y. inl (met y.0 y.1)) x) (wanted_parts P q w), λ w. ⊎_elim left (wanted_right P q) w)
    where
      more : {p : Node} → Wanted W u p → Wanted (λ l. W l ⊎ Answered v l) u p
      more (inl (l, w, o)) = inl (l, inl w, o)
      more (inr z) = inr z

      met : (j : Node) → Across u v q j → At 1 (Wanted (λ l. W l ⊎ Answered v l) u) q
      met j (p, e, (i, d, (l, k, c, o, z))) = (p, e, inl (l, inr (k, c, (i, z)), o))

      left : At 1 (Wanted (λ l. W l ⊎ Answered v l) u) q → Wanted W t q
      left (p, e, inl (l, inl w, o)) = wanted_left P q (p, e, inl (l, w, o))
      left (p, e, inl (l, inr (k, c, (j, z)), o)) = inr (1 + size u + j, (P.joins q (1 + size u + j)).1 (inr (inr (p, e, (j, refl, (l, k, c, o, z))))))
      left (p, e, inr z) = wanted_left P q (p, e, inr z)

  -- a restriction takes its name and its co-name away from what is asked for
  pub wanted_hidden : {a : Name} {t : Term} (q : Node) → Wanted W (res a t) q ↔ At 1 (Wanted (λ l. W l × ¬ On a l) t) q
  wanted_hidden q = (
    λ w. ⊎_elim (λ z. let y = (showing_hidden W q).0 z in (y.0, y.1, inl y.2)) (λ z. let y = (hidden_joins q z.0).0 z.1 in (y.0, y.1, inr (y.2.0, y.2.2))) w,
    λ w. ⊎_elim (λ z. inl ((showing_hidden W q).1 (w.0, w.1, z))) (λ z. inr (1 + z.0, (hidden_joins q (1 + z.0)).1 (w.0, w.1, (z.0, refl, z.1)))) w.2,
  )
