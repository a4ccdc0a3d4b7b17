-- First forward step at or after (p, q): for every input exactly one answer fits the promise, and it can be computed.
use mathlib.Core.Path.{◌≡◌, refl, ap, sym, ◌∙◌}
use mathlib.Core.Logic.{inl, inr}
use mathlib.Core.List.{List}
use Prim.Native.Nat.{ℕ, zero, suc, ◌<◌}
use native.Mathlib.Omega.{arith}
use Rattle.ccsk.specs.Numbers.{LeastFree}
use Rattle.ccsk.specs.Term.{Term, Label, Key, Node, keys, size}
use Rattle.ccsk.specs.Place.{ForwardAt}
use Rattle.ccsk.proofs.Place.{Under, places_under}
use Rattle.ccsk.proofs.ForwardDec.{forward?, label}
use Rattle.format.specs.Read.{Reads, decode, Opened, Opened.refused, opened}
use Rattle.operations.specs.Order.{pair, FreeStep, NoFreeStep, FirstFrom}
use Rattle.operations.specs.Ask.{FirstStep}
use Rattle.operations.proofs.Choose.{on_read}
use Rattle.operations.proofs.Lists.{least_free_key, least_free_once}
use Rattle.operations.proofs.Search.{first?, Outcome, same_pair}

-- refusal, the mark 'found', p, q and label
abbrev pub Found : Type 0
Found = ℕ × ℕ × Node × Node × Label

abbrev pub FitFound : (ℕ → ℕ → Node → Node → Label → Type 0) → Found → Type 0
FitFound P x = P x.0 x.1 x.2 x.3 x.4

abbrev pub SameFound : Found → Found → Type 0
SameFound x y = (x.0 ≡ y.0) × (x.1 ≡ y.1) × (x.2 ≡ y.2) × (x.3 ≡ y.3) × (x.4 ≡ y.4)

same_found : {x y z : Found} → z ≡ x → z ≡ y → SameFound x y
same_found e f = let g = sym e ∙ f in (ap (λ v. v.0) g, ap (λ v. v.1) g, ap (λ v. v.2) g, ap (λ v. v.3) g, ap (λ v. v.4) g)

-- the places of a step are nodes of the term
under_pair : (n : ℕ) (p q : Node) → Under n (pair p q) → (p < n) × (q < n)
under_pair n p zero h = (h.0, omega (arith, h.0))
under_pair n p (suc q) h = (h.0, h.1.0)

pub place_bound : (t : Term) (m : Key) (p q : Node) → ForwardAt t m (pair p q) → (p < size t) × (q < size t)
place_bound t m p q w = under_pair (size t) p q (rw w.3 at (places_under w.2))

-- a step with the least free key at (p, q)
unfoldable pub free : Term → Key
free t = (least_free_key (keys t)).0

abbrev pub Step : Term → Node → Node → Type 0
Step t p q = ForwardAt t (free t) (pair p q)

unfoldable pub search : (t : Term) (p q : Node) → Outcome (Step t) p q
search t p q = first? (Step t) (λ p q. forward? t (free t) (pair p q)) (size t) (place_bound t (free t)) p q

free_right : (t : Term) → LeastFree (keys t) (free t)
unfolding free
free_right t = (least_free_key (keys t)).1

-- the step of a promise is the step that was searched
to_step : (t : Term) (p q : Node) (l : Label) → FreeStep t p q l → Step t p q
to_step t p q l f = rw (least_free_once (free_right t) f.1) f.2.0

label_same : (t : Term) (m k : Key) (x y : List Node) → m ≡ k → x ≡ y → (v : ForwardAt t m x) (w : ForwardAt t k y) → v.0 ≡ w.0
label_same t m k x y e f = rw (e, f) (λ v w. label v w)

from_step : (t : Term) (p q : Node) (w : Step t p q) → FreeStep t p q w.0
from_step t p q w = (free t, free_right t, (w, refl))

step_label : (t : Term) (p q p' q' : Node) (l : Label) (w : Step t p q) → FreeStep t p' q' l → p ≡ p' → q ≡ q' → w.0 ≡ l
step_label t p q p' q' l w f a b = label_same t (free t) f.0 (pair p q) (pair p' q') (least_free_once (free_right t) f.1) (rw (a, b)) w f.2.0 ∙ f.2.1

abbrev shown : {t : Term} (p q : Node) → Outcome (Step t) p q → Found
shown p q (inl r) = (0, 1, r.0, r.1, r.2.holds.0)
shown p q (inr f) = (0, 0, 0, 0, 0)

unfoldable pub first_answer : List ℕ → Node → Node → Found
first_answer s p q = on_read (decode s) (λ c. (c, 0, 0, 0, 0)) (λ t. shown p q (search t p q))

found_same : (p q p' q' : Node) (l l' : Label) → p ≡ p' → q ≡ q' → l ≡ l' → ◌≡◌ {A = Found} (0, 1, p, q, l) (0, 1, p', q', l')
found_same p q p' q' l l' a b c = rw (a, b, c)

module _ (t : Term) (p q : Node) where
  none_shown : (o : Outcome (Step t) p q) → NoFreeStep t p q → shown p q o ≡ (0, 0, 0, 0, 0)
  none_shown (inl r) f = let w = r.2.holds in absurd (f r.0 r.1 w.0 r.2.after (from_step t r.0 r.1 w))
  none_shown (inr g) f = refl

  found_shown : (p' q' : Node) (l : Label) (o : Outcome (Step t) p q) → FirstFrom t p q p' q' l → shown p q o ≡ (0, 1, p', q', l)
  found_shown p' q' l (inl r) f =
      let w = r.2.holds in
      let e = same_pair r.0 r.1 p' q' (r.2.least p' q' f.after (to_step t p' q' l f.step)) (f.least r.0 r.1 w.0 r.2.after (from_step t r.0 r.1 w)) in
      found_same r.0 r.1 p' q' w.0 l e.0 e.1 (step_label t r.0 r.1 p' q' l w f.step e.0 e.1)
  found_shown p' q' l (inr g) f = absurd (g p' q' f.after (to_step t p' q' l f.step))

pub first_only : {s : List ℕ} {p q p' q' : Node} {r n : ℕ} {l : Label} → FirstStep s p q r n p' q' l → first_answer s p q ≡ (r, n, p', q', l)
unfolding first_answer
first_only (FirstStep.unreadable e) = rw e
first_only {p = p} {q = q} (FirstStep.none {t = t} e f) = rw e (none_shown t p q (search t p q) f)
first_only {p = p} {q = q} (FirstStep.found {t = t} {p' = p'} {q' = q'} {l = l} e f) = rw e (found_shown t p q p' q' l (search t p q) f)

pub first_some : (s : List ℕ) (p q : Node) → FitFound (FirstStep s p q) (first_answer s p q)
unfolding first_answer
first_some s p q = read (decode s) refl
  where
    tests : (t : Term) → Reads s t → (o : Outcome (Step t) p q) → FitFound (FirstStep s p q) (shown p q o)
    tests t e (inl r) = FirstStep.found e (record { step = from_step t r.0 r.1 r.2.holds; after = r.2.after; least = λ p'' q'' l'' a f. r.2.least p'' q'' a (to_step t p'' q'' l'' f) })
    tests t e (inr g) = FirstStep.none e (λ p' q' l a f. g p' q' a (to_step t p' q' l f))

    read : (o : Opened) → decode s ≡ o → FitFound (FirstStep s p q) (on_read o (λ c. (c, 0, 0, 0, 0)) (λ t. shown p q (search t p q)))
    read (refused c) e = FirstStep.unreadable e
    read (opened t) e = tests t e (search t p q)

-- only one answer fits the promise of the first forward step
pub first_once : {s : List ℕ} {p q p' q' p'' q'' : Node} {r n r' n' : ℕ} {l l' : Label} → FirstStep s p q r n p' q' l → FirstStep s p q r' n' p'' q'' l' → SameFound (r, n, p', q', l) (r', n', p'', q'', l')
first_once d e = same_found (first_only d) (first_only e)
