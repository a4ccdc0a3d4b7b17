-- Laws of the counted rows.
use mathlib.Core.Path.{◌≡◌, refl, sym, ap, ◌∙◌}
use mathlib.Core.Logic.{◌⊎◌, inl, inr, ⊎_elim, ◌≢◌}
use mathlib.Core.List.{List, ◌∷◌}
use Prim.Native.Nat.{ℕ, zero, suc, ◌+◌, ◌≤◌, ◌<◌}
use native.Mathlib.Decide.{ℕ_discrete, dec_lt}
use native.Mathlib.Omega.{arith}
use lib.ListN.{length, get_or, get_or-eq_default}
use Rattle.ccsk.specs.Numbers.{In, in?}
use Rattle.causes.specs.Links.{one_if}
use Rattle.threads.specs.Rows.{owing, between, one_both}

-- a number above 0 stands inside its list
pub stands_inside : (l : List ℕ) (i : ℕ) → 0 < get_or l i 0 → i < length l
stands_inside l i h = pick (dec_lt i (length l))
  where
    pick : Dec (i < length l) → i < length l
    pick (yes z) = z
    pick (no z) = absurd (omega (arith, get_or-eq_default l 0 {n = i} (omega arith)))

if_yes : {A B : Type 0} (d : Dec A) (e : Dec B) (n : ℕ) → A → ¬ B → one_if d e n ≡ suc n
if_yes (yes a) (no b) n x y = refl
if_yes (yes a) (yes b) n x y = absurd (y b)
if_yes (no a) e n x y = absurd (a x)

if_no : {A B : Type 0} (d : Dec A) (e : Dec B) (n : ℕ) → (A → B) → one_if d e n ≡ n
if_no (yes a) (no b) n x = absurd (b (x a))
if_no (yes a) (yes b) n x = refl
if_no (no a) e n x = refl

both_yes : {A B : Type 0} (d : Dec A) (e : Dec B) (n : ℕ) → A → B → one_both d e n ≡ suc n
both_yes (yes a) (yes b) n x y = refl
both_yes (yes a) (no b) n x y = absurd (b y)
both_yes (no a) e n x y = absurd (a x)

both_no : {A B : Type 0} (d : Dec A) (e : Dec B) (n : ℕ) → (A → ¬ B) → one_both d e n ≡ n
both_no (yes a) (yes b) n x = absurd (x a b)
both_no (yes a) (no b) n x = refl
both_no (no a) e n x = refl

module _ (us ls : List ℕ) where
  pub owing_none : (m : ℕ) (out : List ℕ) → owing us ls m out 0 ≡ 0
  unfolding owing
  owing_none m out = refl

  pub owing_yes : (m : ℕ) (out : List ℕ) (i : ℕ) → m ≡ get_or us i 0 → ¬ In (get_or ls i 0) out → owing us ls m out (suc i) ≡ suc (owing us ls m out i)
  unfolding owing
  owing_yes m out i e f = if_yes (ℕ_discrete m (get_or us i 0)) (in? (get_or ls i 0) out) (owing us ls m out i) e f

  pub owing_no : (m : ℕ) (out : List ℕ) (i : ℕ) → (m ≡ get_or us i 0 → In (get_or ls i 0) out) → owing us ls m out (suc i) ≡ owing us ls m out i
  unfolding owing
  owing_no m out i f = if_no (ℕ_discrete m (get_or us i 0)) (in? (get_or ls i 0) out) (owing us ls m out i) f

  pub between_yes : (m k i : ℕ) → m ≡ get_or us i 0 → k ≡ get_or ls i 0 → between us ls m k (suc i) ≡ suc (between us ls m k i)
  unfolding between
  between_yes m k i e f = both_yes (ℕ_discrete m (get_or us i 0)) (ℕ_discrete k (get_or ls i 0)) (between us ls m k i) e f

  pub between_no : (m k i : ℕ) → (m ≡ get_or us i 0 → k ≢ get_or ls i 0) → between us ls m k (suc i) ≡ between us ls m k i
  unfolding between
  between_no m k i f = both_no (ℕ_discrete m (get_or us i 0)) (ℕ_discrete k (get_or ls i 0)) (between us ls m k i) f

  pub between_none : (m k : ℕ) → between us ls m k 0 ≡ 0
  unfolding between
  between_none m k = refl

  -- a row is counted or it is not
  owing_cases : (m : ℕ) (out : List ℕ) (i : ℕ)
      → ((m ≡ get_or us i 0) × (¬ In (get_or ls i 0) out) × (owing us ls m out (suc i) ≡ suc (owing us ls m out i))) ⊎ (owing us ls m out (suc i) ≡ owing us ls m out i)
  owing_cases m out i = pick (ℕ_discrete m (get_or us i 0)) (in? (get_or ls i 0) out)
    where
      pick : Dec (m ≡ get_or us i 0) → Dec (In (get_or ls i 0) out)
          → ((m ≡ get_or us i 0) × (¬ In (get_or ls i 0) out) × (owing us ls m out (suc i) ≡ suc (owing us ls m out i))) ⊎ (owing us ls m out (suc i) ≡ owing us ls m out i)
      pick (yes e) (no f) = inl (e, f, owing_yes m out i e f)
      pick (yes e) (yes f) = inr (owing_no m out i (λ z. f))
      pick (no e) d = inr (owing_no m out i (λ z. absurd (e z)))

  -- no more rows are counted than there are
  pub owing_few : (m : ℕ) (out : List ℕ) (i : ℕ) → owing us ls m out i ≤ i
  owing_few m out zero = omega (arith, owing_none m out)
  owing_few m out (suc i) = ⊎_elim (λ z. omega (arith, z.2, owing_few m out i)) (λ z. omega (arith, z, owing_few m out i)) (owing_cases m out i)

  -- nothing is counted: each row from m leads to a key that is out
  pub owing_nothing : (m : ℕ) (out : List ℕ) (n : ℕ) → owing us ls m out n ≡ 0 → (i : ℕ) → i < n → m ≡ get_or us i 0 → In (get_or ls i 0) out
  owing_nothing m out zero e i h q = absurd (omega arith)
  owing_nothing m out (suc n) e i h q = ⊎_elim (λ z. absurd (omega (arith, z.2))) (λ z. pick (ℕ_discrete i n) (owing_nothing m out n (omega (arith, z)) i)) (owing_cases m out n)
    where
      pick : Dec (i ≡ n) → (i < n → m ≡ get_or us i 0 → In (get_or ls i 0) out) → In (get_or ls i 0) out
      pick (no d) f = f (omega arith) q
      pick (yes d) f = inside (in? (get_or ls i 0) out)
        where
          inside : Dec (In (get_or ls i 0) out) → In (get_or ls i 0) out
          inside (yes z) = z
          inside (no z) = absurd (omega (arith, owing_yes m out n (rw (← d) q) (λ y. z (rw d y))))

  -- every row from m leads to a key that is out: nothing is counted
  pub owing-zero : (m : ℕ) (out : List ℕ) (n : ℕ) → ((i : ℕ) → i < n → m ≡ get_or us i 0 → In (get_or ls i 0) out) → owing us ls m out n ≡ 0
  owing-zero m out zero f = owing_none m out
  owing-zero m out (suc n) f = owing_no m out n (f n (omega arith)) ∙ owing-zero m out n (λ i h. f i (omega arith))

  -- once k is out, the rows to it count no more
  pub owing_take : (m k : ℕ) (out : List ℕ) (n : ℕ) → ¬ In k out → owing us ls m out n ≡ owing us ls m (k ∷ out) n + between us ls m k n
  owing_take m k out zero f = omega (arith, owing_none m out, owing_none m (k ∷ out), between_none m k)
  owing_take m k out (suc n) f = pick (ℕ_discrete m (get_or us n 0)) (ℕ_discrete k (get_or ls n 0)) (in? (get_or ls n 0) out) (owing_take m k out n f)
    where
      pick : Dec (m ≡ get_or us n 0) → Dec (k ≡ get_or ls n 0) → Dec (In (get_or ls n 0) out) → owing us ls m out n ≡ owing us ls m (k ∷ out) n + between us ls m k n
          → owing us ls m out (suc n) ≡ owing us ls m (k ∷ out) (suc n) + between us ls m k (suc n)
      pick (no e) b c q = omega (arith, q, owing_no m out n (λ z. absurd (e z)), owing_no m (k ∷ out) n (λ z. absurd (e z)), between_no m k n (λ z. absurd (e z)))
      pick (yes e) (yes b) c q = omega (arith, q, owing_yes m out n e (λ i. f (rw b i)), owing_no m (k ∷ out) n (λ z. inl (sym b)), between_yes m k n e b)
      pick (yes e) (no b) (yes c) q = omega (arith, q, owing_no m out n (λ z. c), owing_no m (k ∷ out) n (λ z. inr c), between_no m k n (λ z. b))
      pick (yes e) (no b) (no c) q = omega (arith, q, owing_yes m out n e c, owing_yes m (k ∷ out) n e (λ i. ⊎_elim (λ z. b (sym z)) c i), between_no m k n (λ z. b))

  -- rows that do not lead from m to k are passed
  pub between_skip : (m k i d : ℕ) → ((j : ℕ) → i ≤ j → j < i + d → m ≡ get_or us j 0 → k ≢ get_or ls j 0) → between us ls m k (i + d) ≡ between us ls m k i
  between_skip m k i zero f = ap (between us ls m k) (let z : i + 0 ≡ i = omega arith in z)
  between_skip m k i (suc d) f = let z : i + suc d ≡ suc (i + d) = omega arith in
      rw z (between_no m k (i + d) (f (i + d) (omega arith) (omega arith)) ∙ between_skip m k i d (λ j h g. f j h (omega arith)))

  -- a row leads from m to k exactly if it is counted
  pub between_some : (m k n : ℕ) → 0 < between us ls m k n → (i : ℕ) × (m ≡ get_or us i 0) × (k ≡ get_or ls i 0)
  between_some m k zero h = absurd (omega (arith, between_none m k))
  between_some m k (suc n) h = pick (ℕ_discrete m (get_or us n 0)) (ℕ_discrete k (get_or ls n 0)) (between_some m k n)
    where
      pick : Dec (m ≡ get_or us n 0) → Dec (k ≡ get_or ls n 0) → (0 < between us ls m k n → (i : ℕ) × (m ≡ get_or us i 0) × (k ≡ get_or ls i 0)) → (i : ℕ) × (m ≡ get_or us i 0) × (k ≡ get_or ls i 0)
      pick (yes e) (yes b) f = (n, e, b)
      pick (yes e) (no b) f = f (omega (arith, between_no m k n (λ z. b)))
      pick (no e) b f = f (omega (arith, between_no m k n (λ z. absurd (e z))))

  pub between_counts : (m k n i : ℕ) → i < n → m ≡ get_or us i 0 → k ≡ get_or ls i 0 → 0 < between us ls m k n
  between_counts m k zero i h e b = absurd (omega arith)
  between_counts m k (suc n) i h e b = pick (ℕ_discrete i n) (ℕ_discrete m (get_or us n 0)) (ℕ_discrete k (get_or ls n 0)) (between_counts m k n i)
    where
      pick : Dec (i ≡ n) → Dec (m ≡ get_or us n 0) → Dec (k ≡ get_or ls n 0) → (i < n → m ≡ get_or us i 0 → k ≡ get_or ls i 0 → 0 < between us ls m k n) → 0 < between us ls m k (suc n)
      pick z (yes p) (yes q) f = omega (arith, between_yes m k n p q)
      pick (yes z) (no p) q f = absurd (p (rw (← z) e))
      pick (yes z) (yes p) (no q) f = absurd (q (rw (← z) b))
      pick (no z) (no p) q f = omega (arith, f (omega arith) e b, between_no m k n (λ y. absurd (p y)))
      pick (no z) (yes p) (no q) f = omega (arith, f (omega arith) e b, between_no m k n (λ y. q))

  -- rows that do not lead from m are passed
  pub owing_skip : (m : ℕ) (out : List ℕ) (i d : ℕ) → ((j : ℕ) → i ≤ j → m ≢ get_or us j 0) → owing us ls m out (i + d) ≡ owing us ls m out i
  owing_skip m out i zero f = ap (owing us ls m out) (let z : i + 0 ≡ i = omega arith in z)
  owing_skip m out i (suc d) f = let z : i + suc d ≡ suc (i + d) = omega arith in rw z (owing_no m out (i + d) (λ e. absurd (f (i + d) (omega arith) e)) ∙ owing_skip m out i d f)
