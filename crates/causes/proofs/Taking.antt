-- Taking out keys, one by one, that nothing right below holds back: it empties the columns exactly if there is no cycle.
use mathlib.Core.Path.{◌≡◌, refl, sym, ap}
use mathlib.Core.Logic.{◌⊎◌, inl, inr, ⊎_elim, ◌↔◌, ◌≢◌}
use mathlib.Core.List.{List, [], ◌∷◌, ◌++◌}
use mathlib.Core.Bool.{Bool, true, false}
use Prim.Native.Nat.{ℕ, suc, ◌+◌, ◌≤◌, ◌<◌}
use native.Mathlib.Decide.{ℕ_discrete, dec_lt}
use native.Mathlib.Omega.{arith}
use borrow.Author.Tests.{eq-eqb, ne_eqb}
use lib.Dec.{eqb}
use lib.ListN.{length}
use Rattle.ccsk.specs.Numbers.{In, in?, either}
use Rattle.ccsk.proofs.Decide.{three}
use Rattle.sound.specs.Sound.{Chain}
use Rattle.sound.proofs.Chains.{final}
use Rattle.sound.proofs.Peel.{Peak, peak, Rowed, rowed_free}
use Rattle.ccsk.specs.Term.{tick}
use Rattle.causes.specs.Links.{Linked, NoCycle, one_when, one_if, times, pending, right_above}

unfoldable pub linked? : (ks us : List ℕ) (m n : ℕ) → Dec (Linked ks us m n)
linked? [] us m n = no (λ b. b)
linked? (k ∷ ks) [] m n = no (λ b. b)
linked? (k ∷ ks) (u ∷ us) m n = either (three (dec_lt 0 m) (ℕ_discrete m u) (ℕ_discrete n k)) (linked? ks us m n)

-- the lower key of a link stands in the column of keys, the upper is a key
pub linked_low : (ks us : List ℕ) (m n : ℕ) → Linked ks us m n → In n ks
linked_low [] us m n i = i
linked_low (k ∷ ks) [] m n i = absurd i
linked_low (k ∷ ks) (u ∷ us) m n (inl i) = inl i.2
linked_low (k ∷ ks) (u ∷ us) m n (inr i) = inr (linked_low ks us m n i)

if_yes : {A B : Type 0} (d : Dec A) (e : Dec B) (n : ℕ) → A → ¬ B → one_if d e n ≡ suc n
if_yes (yes a) (no b) n x y = refl
if_yes (yes a) (yes b) n x y = absurd (y b)
if_yes (no a) e n x y = absurd (a x)

if_out : {A B : Type 0} (d : Dec A) (e : Dec B) (n : ℕ) → B → one_if d e n ≡ n
if_out (yes a) (no b) n x = absurd (b x)
if_out (yes a) (yes b) n x = refl
if_out (no a) e n x = refl

-- nothing is pending below m: all right below it has been taken out
pub pending_none : (m : ℕ) (o ks us : List ℕ) → pending m o ks us ≡ 0 → (n : ℕ) → Linked ks us m n → In n o
unfolding pending
pending_none m o [] us e n i = absurd i
pending_none m o (k ∷ ks) [] e n i = absurd i
pending_none m o (k ∷ ks) (u ∷ us) e n i = pick (ℕ_discrete m u) (in? k o) e i (pending_none m o ks us)
  where
    pick : (d : Dec (m ≡ u)) (q : Dec (In k o)) → one_if d q (pending m o ks us) ≡ 0 → ((0 < m) × (m ≡ u) × (n ≡ k)) ⊎ Linked ks us m n
        → (pending m o ks us ≡ 0 → (n : ℕ) → Linked ks us m n → In n o) → In n o
    pick (yes d) (yes q) e (inl i) f = rw i.2 q
    pick (yes d) (yes q) e (inr i) f = f e n i
    pick (yes d) (no q) e i f = absurd (omega arith)
    pick (no d) q e (inl i) f = absurd (d i.1)
    pick (no d) q e (inr i) f = f e n i

-- something is pending below m: something right below it has not been taken out
pub pending_some : (m : ℕ) (o ks us : List ℕ) → 0 < m → 0 < pending m o ks us → (n : ℕ) × Linked ks us m n × (¬ In n o)
unfolding pending
pending_some m o [] us h p = absurd (omega arith)
pending_some m o (k ∷ ks) [] h p = absurd (omega arith)
pending_some m o (k ∷ ks) (u ∷ us) h p = pick (ℕ_discrete m u) (in? k o) p (pending_some m o ks us h)
  where
    pick : (d : Dec (m ≡ u)) (q : Dec (In k o)) → 0 < one_if d q (pending m o ks us) → (0 < pending m o ks us → (n : ℕ) × Linked ks us m n × (¬ In n o))
        → (n : ℕ) × (((0 < m) × (m ≡ u) × (n ≡ k)) ⊎ Linked ks us m n) × (¬ In n o)
    pick (yes d) (no q) p f = (k, inl (h, d, refl), q)
    pick (yes d) (yes q) p f = let r = f p in (r.0, inr r.1, r.2)
    pick (no d) q p f = let r = f p in (r.0, inr r.1, r.2)

-- a key below which nothing is pending may be taken out next
pub take_next : (ks us o : List ℕ) (m : ℕ) → Rowed (Linked ks us) (linked? ks us) o → ¬ In m o → pending m o ks us ≡ 0 → Rowed (Linked ks us) (linked? ks us) (m ∷ o)
unfolding Rowed
take_next ks us o m w f e = (f, pending_none m o ks us e, w)

chain_end : (ks us : List ℕ) {m n : ℕ} → Chain (Linked ks us) m n → In n ks
chain_end ks us {n = n} c = let l = final c in linked_low ks us l.0 n l.1

-- all keys are taken out, each after those right below it: there is no cycle
pub emptied : (ks us o : List ℕ) → Rowed (Linked ks us) (linked? ks us) o → ((k : ℕ) → In k ks → In k o) → NoCycle ks us
emptied ks us o w f m c = rowed_free (Linked ks us) (linked? ks us) o w m (f m (chain_end ks us c)) c

-- the numbers of l that are not in o
abbrev put : {A : Type 0} → Dec A → ℕ → List ℕ → List ℕ
put (yes d) x r = r
put (no d) x r = x ∷ r

unfoldable apart : List ℕ → List ℕ → List ℕ
apart o [] = []
apart o (x ∷ l) = put (in? x o) x (apart o l)

in_apart : (o l : List ℕ) (k : ℕ) → In k (apart o l) ↔ (In k l × (¬ In k o))
unfolding apart
in_apart o [] k = (λ i. absurd i, λ i. i.0)
in_apart o (x ∷ l) k = pick (in? x o) (in_apart o l k)
  where
    pick : (d : Dec (In x o)) → In k (apart o l) ↔ (In k l × (¬ In k o)) → In k (put d x (apart o l)) ↔ (In k (x ∷ l) × (¬ In k o))
    pick (yes d) i = (λ z. (inr (i.0 z).0, (i.0 z).1), λ z. ⊎_elim (λ e. absurd (z.1 (rw e d))) (λ j. i.1 (j, z.1)) z.0)
    pick (no d) i = (⊎_elim (λ e. (inl e, λ j. d (rw e at j))) (λ j. (inr (i.0 j).0, (i.0 j).1)), λ z. ⊎_elim inl (λ j. inr (i.1 (j, z.1))) z.0)

-- a key remains, and below each that remains something is pending: there is a cycle
pub stuck : (ks us o : List ℕ) → ((k : ℕ) → In k ks → ¬ In k o → (0 < k) × (0 < pending k o ks us)) → (k : ℕ) → In k ks → ¬ In k o → ¬ NoCycle ks us
stuck ks us o f k i j free = out (peak (Linked ks us) (linked? ks us) (apart o ks) free k ((in_apart o ks k).1 (i, j)))
  where
    out : Peak (Linked ks us) (apart o ks) → ⊥
    out r =
        let i = (in_apart o ks r.key).0 r.has in
        let h = f r.key i.0 i.1 in
        let n = pending_some r.key o ks us h.0 h.1 in
        r.free n.0 ((in_apart o ks n.0).1 (linked_low ks us r.key n.0 n.1, n.2)) n.1

-- Laws of the counters.
pub when_yes : {A : Type 0} (d : Dec A) (n : ℕ) → A → one_when d n ≡ suc n
when_yes (yes a) n x = refl
when_yes (no a) n x = absurd (a x)

pub when_no : {A : Type 0} (d : Dec A) (n : ℕ) → ¬ A → one_when d n ≡ n
when_no (yes a) n x = absurd (x a)
when_no (no a) n x = refl

pub times_same : (m k : ℕ) (ks : List ℕ) → m ≡ k → times m (k ∷ ks) ≡ suc (times m ks)
unfolding times
times_same m k ks e = when_yes (ℕ_discrete m k) (times m ks) e

pub times_other : (m k : ℕ) (ks : List ℕ) → m ≢ k → times m (k ∷ ks) ≡ times m ks
unfolding times
times_other m k ks e = when_no (ℕ_discrete m k) (times m ks) e

pub times_none : (m : ℕ) → times m [] ≡ 0
unfolding times
times_none m = refl

-- at first all is pending
pub pending_first : (m : ℕ) (ks us : List ℕ) → length ks ≡ length us → pending m [] ks us ≡ times m us
unfolding pending times in?
pending_first m [] [] e = refl
pending_first m [] (u ∷ us) e = absurd (omega arith)
pending_first m (k ∷ ks) [] e = absurd (omega arith)
pending_first m (k ∷ ks) (u ∷ us) e = pick (ℕ_discrete m u) (pending_first m ks us (omega arith))
  where
    pick : (d : Dec (m ≡ u)) → pending m [] ks us ≡ times m us → one_if d (in? k []) (pending m [] ks us) ≡ one_when d (times m us)
    pick (yes d) q = ap suc q
    pick (no d) q = q

-- to take out m releases what is right above it
pub pending_take : (j m : ℕ) (o ks us : List ℕ) → ¬ In m o → pending j o ks us ≡ pending j (m ∷ o) ks us + times j (right_above m ks us)
unfolding pending right_above
pending_take j m o [] us f = rw (times_none j) (omega arith)
pending_take j m o (k ∷ ks) [] f = rw (times_none j) (omega arith)
pending_take j m o (k ∷ ks) (u ∷ us) f = pick (ℕ_discrete j u) (ℕ_discrete m k) (pending_take j m o ks us f)
  where
    pick : (d : Dec (j ≡ u)) → Dec (m ≡ k) → pending j o ks us ≡ pending j (m ∷ o) ks us + times j (right_above m ks us)
        → one_if d (in? k o) (pending j o ks us) ≡ one_if d (in? k (m ∷ o)) (pending j (m ∷ o) ks us) + times j (tick (eqb m k) u (right_above m ks us))
    pick (yes d) (yes e) q = rw (eq-eqb m k e, times_same j u (right_above m ks us) d, if_yes (yes d) (in? k o) (pending j o ks us) d (λ i. f (rw e i)), if_out (yes d) (in? k (m ∷ o)) (pending j (m ∷ o) ks us) (inl (sym e))) (omega arith)
    pick (no d) (yes e) q = rw (eq-eqb m k e, times_other j u (right_above m ks us) d) q
    pick (no d) (no e) q = rw (ne_eqb m k e) q
    pick (yes d) (no e) q = rw (ne_eqb m k e) (other (in? k o) (in? k (m ∷ o)))
      where
        other : (a : Dec (In k o)) (b : Dec (In k (m ∷ o))) → one_if (yes d) a (pending j o ks us) ≡ one_if (yes d) b (pending j (m ∷ o) ks us) + times j (right_above m ks us)
        other (yes a) b = rw (if_out (yes d) b (pending j (m ∷ o) ks us) (inr a)) q
        other (no a) b = rw (if_yes (yes d) b (pending j (m ∷ o) ks us) d (λ i. ⊎_elim (λ z. e (sym z)) a i)) (omega arith)

pub times-append : (m : ℕ) (x y : List ℕ) → times m (x ++ y) ≡ times m x + times m y
times-append m [] y = rw (times_none m) (omega arith)
times-append m (k ∷ x) y = pick (ℕ_discrete m k) (times-append m x y)
  where
    pick : Dec (m ≡ k) → times m (x ++ y) ≡ times m x + times m y → times m (k ∷ (x ++ y)) ≡ times m (k ∷ x) + times m y
    pick (yes e) q = rw (times_same m k (x ++ y) e, times_same m k x e) (omega arith)
    pick (no e) q = rw (times_other m k (x ++ y) e, times_other m k x e) q

pub times_le : (m : ℕ) (l : List ℕ) → times m l ≤ length l
times_le m [] = rw (times_none m) (omega arith)
times_le m (k ∷ l) = pick (ℕ_discrete m k) (times_le m l)
  where
    pick : Dec (m ≡ k) → times m l ≤ length l → times m (k ∷ l) ≤ suc (length l)
    pick (yes e) q = rw (times_same m k l e) (omega arith)
    pick (no e) q = rw (times_other m k l e) (omega arith)

-- a link to n is one of the keys right above n
pub linked_above : (ks us : List ℕ) (m n : ℕ) → Linked ks us m n ↔ ((0 < m) × In m (right_above n ks us))
unfolding right_above
linked_above [] us m n = (λ i. absurd i, λ i. i.1)
linked_above (k ∷ ks) [] m n = (λ i. absurd i, λ i. i.1)
linked_above (k ∷ ks) (u ∷ us) m n = pick (ℕ_discrete n k) (linked_above ks us m n)
  where
    pick : Dec (n ≡ k) → Linked ks us m n ↔ ((0 < m) × In m (right_above n ks us)) → ((0 < m) × (m ≡ u) × (n ≡ k)) ⊎ Linked ks us m n ↔ ((0 < m) × In m (tick (eqb n k) u (right_above n ks us)))
    pick (yes e) r = rw (eq-eqb n k e) (⊎_elim (λ i. (i.0, inl i.1)) (λ i. ((r.0 i).0, inr (r.0 i).1)), λ i. ⊎_elim (λ z. inl (i.0, z, e)) (λ z. inr (r.1 (i.0, z))) i.1)
    pick (no e) r = rw (ne_eqb n k e) (⊎_elim (λ i. absurd (e i.2)) r.0, λ i. inr (r.1 i))

pub above-append : (m : ℕ) (ks us js vs : List ℕ) → length ks ≡ length us → right_above m (ks ++ js) (us ++ vs) ≡ right_above m ks us ++ right_above m js vs
unfolding right_above
above-append m [] [] js vs e = refl
above-append m [] (u ∷ us) js vs e = absurd (omega arith)
above-append m (k ∷ ks) [] js vs e = absurd (omega arith)
above-append m (k ∷ ks) (u ∷ us) js vs e = rw (above-append m ks us js vs (omega arith)) (pull (eqb m k))
  where
    pull : (b : Bool) → tick b u (right_above m ks us ++ right_above m js vs) ≡ tick b u (right_above m ks us) ++ right_above m js vs
    pull true = refl
    pull false = refl
