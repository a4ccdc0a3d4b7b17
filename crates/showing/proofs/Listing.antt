-- Rows of nodes in rising order: nothing listed, one node, one list after another.
use mathlib.Core.Path.{refl, ◌∙◌}
use mathlib.Core.Logic.{◌⊎◌, inl, inr, ⊎_elim, ◌↔◌}
use Prim.Native.Nat.{ℕ, ◌<◌, ◌≤◌}
use native.Mathlib.Decide.{dec_lt}
use native.Mathlib.Omega.{arith}
use lib.ListN.{get_or}
use Rattle.ccsk.specs.Term.{Node}
use Rattle.showing.specs.declared.Places.{Places}
use Rattle.showing.specs.Listed.{Listed}

pub listed_none : {P : Node → Type 0} {L : Places} → ((i : Node) → ¬ P i) → Listed P L L
listed_none f = record { more = omega arith; kept = λ k h. refl; each = λ k a b. absurd (omega arith); all = λ i p. absurd (f i p); rising = λ j k a b d. absurd (omega arith) }

pub listed_same : {P Q : Node → Type 0} {L L' : Places} → ((i : Node) → P i ↔ Q i) → Listed P L L' → Listed Q L L'
listed_same f l = record { more = l.more; kept = l.kept; each = λ k a b. (f _).0 (l.each k a b); all = λ i p. l.all i ((f i).1 p); rising = l.rising }

-- the nodes of the second list come after those of the first
module _ {P Q : Node → Type 0} {L L' L'' : Places} (l : Listed P L L') (m : Listed Q L' L'') (o : (i j : Node) → P i → Q j → i < j) where
  pub listed_both : Listed (λ i. P i ⊎ Q i) L L''
  listed_both = record {
    more = omega (arith, l.more, m.more);
    kept = λ k h. m.kept k (omega (arith, l.more)) ∙ l.kept k h;
    each = λ k a b. each k a b (dec_lt k L'.count);
    all = λ i p. ⊎_elim (λ z. let w = l.all i z in (w.0, w.1, omega (arith, w.2, m.more), m.kept w.0 w.2 ∙ w.3)) (λ z. let w = m.all i z in (w.0, omega (arith, w.1, l.more), w.2, w.3)) p;
    rising = λ j k a b d. rising j k a b d (dec_lt k L'.count) (dec_lt j L'.count);
  }
    where
      first : (k : ℕ) → L.count ≤ k → k < L'.count → P (get_or L''.row k 0)
      first k a h = rw (m.kept k h) (l.each k a h)

      each : (k : ℕ) → L.count ≤ k → k < L''.count → Dec (k < L'.count) → P (get_or L''.row k 0) ⊎ Q (get_or L''.row k 0)
      each k a b (yes h) = inl (first k a h)
      each k a b (no h) = inr (m.each k (omega arith) b)

      rising : (j k : ℕ) → L.count ≤ j → j < k → k < L''.count → Dec (k < L'.count) → Dec (j < L'.count) → get_or L''.row j 0 < get_or L''.row k 0
      rising j k a b d (yes h) g = rw (m.kept k h, m.kept j (omega arith)) (l.rising j k a b h)
      rising j k a b d (no h) (yes g) = o _ _ (first j a g) (m.each k (omega arith) d)
      rising j k a b d (no h) (no g) = m.rising j k (omega arith) b d
