-- A relation on numbers, decidable and without a cycle: every list of numbers has one from which the relation leads to none of the list.
-- So: taking such numbers out, one by one, empties the list exactly if there is no cycle.
use mathlib.Core.Path.{◌≡◌, refl, ap}
use mathlib.Core.Logic.{◌⊎◌, inl, inr, ⊎_elim}
use mathlib.Core.List.{List, [], ◌∷◌}
use Prim.Native.Nat.{ℕ, zero, suc, ◌≤◌}
use native.Mathlib.Decide.{ℕ_discrete}
use native.Mathlib.Omega.{arith}
use lib.ListN.{length}
use Rattle.ccsk.specs.Numbers.{In}
use Rattle.ccsk.specs.Without.{without}
use Rattle.sound.specs.Sound.{Chain, one, more}
use Rattle.ccsk.proofs.Lists.{in_without, gone, without_shorter}
use Rattle.sound.proofs.Chains.{first}

-- a number of L to which R leads from m, and the rest of L; or none
pub data Next (R : ℕ → ℕ → Type 0) (m : ℕ) (L : List ℕ) : Type 0 where
  next : (n : ℕ) (M : List ℕ) → In n L → R m n → length L ≡ suc (length M) → ((k : ℕ) → In k L → (k ≡ n) ⊎ In k M) → ((k : ℕ) → In k M → In k L) → Next R m L
  none : ((n : ℕ) → In n L → ¬ R m n) → Next R m L

-- a number of S from which R leads to none of S
pub record Peak (R : ℕ → ℕ → Type 0) (S : List ℕ) : Type 0 where
  pub key : ℕ
  pub has : In key S
  pub free : (n : ℕ) → In n S → ¬ R key n

-- no number of S stands in front of itself
abbrev pub Acyclic : (ℕ → ℕ → Type 0) → Type 0
Acyclic R = (m : ℕ) → ¬ Chain R m m

module _ (R : ℕ → ℕ → Type 0) (R? : (m n : ℕ) → Dec (R m n)) where
  unfoldable pub find : (m : ℕ) (L : List ℕ) → Next R m L
  find m [] = none (λ n i b. i)
  find m (x ∷ L) = pick (R? m x) (find m L)
    where
      pick : Dec (R m x) → Next R m L → Next R m (x ∷ L)
      pick (yes b) r = next x L (inl refl) b refl (λ k i. i) (λ k i. inr i)
      pick (no f) (next n M j b e g h) = next n (x ∷ M) (inr j) b (ap suc e) other (λ k i. ⊎_elim inl (λ z. inr (h k z)) i)
        where
          other : (k : ℕ) → In k (x ∷ L) → (k ≡ n) ⊎ In k (x ∷ M)
          other k (inl q) = inr (inl q)
          other k (inr i) = ⊎_elim inl (λ j. inr (inr j)) (g k i)
      pick (no f) (none g) = none other
        where
          other : (n : ℕ) → In n (x ∷ L) → ¬ R m n
          other n (inl q) b = f (rw q at b)
          other n (inr i) b = g n i b

  -- walking along R from m inside S: L is what the walk has not met, all else stands before m
  module _ (S : List ℕ) (o : Acyclic R) where
    stop : (m : ℕ) (L : List ℕ) → In m S → ((k : ℕ) → In k S → In k L ⊎ ((k ≡ m) ⊎ Chain R k m)) → ((n : ℕ) → In n L → ¬ R m n) → Peak R S
    stop m L h s g = record { key = m; has = h; free = λ n i b. out n b (s n i) }
      where
        out : (n : ℕ) → R m n → In n L ⊎ ((n ≡ m) ⊎ Chain R n m) → ⊥
        out n b (inl i) = g n i b
        out n b (inr (inl q)) = o m (one (rw q at b))
        out n b (inr (inr c)) = o n (more c b)

    move : (m n k : ℕ) (L M : List ℕ) → R m n → ((k : ℕ) → In k L → (k ≡ n) ⊎ In k M) → In k L ⊎ ((k ≡ m) ⊎ Chain R k m) → In k M ⊎ ((k ≡ n) ⊎ Chain R k n)
    move m n k L M b g (inl i) = ⊎_elim (λ z. inr (inl z)) inl (g k i)
    move m n k L M b g (inr (inl z)) = inr (inr (one {m = k} {n = n} (rw z b)))
    move m n k L M b g (inr (inr c)) = inr (inr (more c b))

    walk : (f m : ℕ) (L : List ℕ) → length L ≡ f → In m S → ((k : ℕ) → In k S → In k L ⊎ ((k ≡ m) ⊎ Chain R k m)) → ((k : ℕ) → In k L → In k S) → Peak R S
    walk zero m L e h s w = pick (find m L)
      where
        pick : Next R m L → Peak R S
        pick (next n M j b q g z) = absurd (omega arith)
        pick (none g) = stop m L h s g
    walk (suc f) m L e h s w = pick (find m L) (walk f)
      where
        pick : Next R m L → ((m : ℕ) (L : List ℕ) → length L ≡ f → In m S → ((k : ℕ) → In k S → In k L ⊎ ((k ≡ m) ⊎ Chain R k m)) → ((k : ℕ) → In k L → In k S) → Peak R S) → Peak R S
        pick (next n M j b q g z) r = r n M (omega arith) (w n j) (λ k i. move m n k L M b g (s k i)) (λ k i. w k (z k i))
        pick (none g) r = stop m L h s g

    pub peak : (m : ℕ) → In m S → Peak R S
    peak m h = walk (length S) m S refl h (λ k i. inl i) (λ k i. i)

  -- the numbers of O come one after the other, each only leading to later ones
  unfoldable pub Rowed : List ℕ → Type 0
  Rowed [] = Unit {0}
  Rowed (m ∷ O) = ¬ In m O × ((n : ℕ) → R m n → In n O) × Rowed O

  closed : (O : List ℕ) → Rowed O → (x y : ℕ) → In x O → R x y → In y O
  unfolding Rowed
  closed [] w x y i b = i
  closed (m ∷ O) w x y (inl e) b = inr (w.1 y (rw e at b))
  closed (m ∷ O) w x y (inr i) b = inr (closed O w.2 x y i b)

  after : (m : ℕ) (O : List ℕ) → Rowed O → ((n : ℕ) → R m n → In n O) → {z : ℕ} → Chain R m z → In z O
  after m O w f (one {n = y} b) = f y b
  after m O w f (more {k = x} {n = y} c b) = closed O w x y (after m O w f c) b

  -- numbers in a row are in no cycle
  pub rowed_free : (O : List ℕ) → Rowed O → (m : ℕ) → In m O → ¬ Chain R m m
  unfolding Rowed
  rowed_free [] w m i c = i
  rowed_free (x ∷ O) w m (inl e) c = w.0 (after x O w.2 w.1 (rw e at c))
  rowed_free (x ∷ O) w m (inr i) c = rowed_free O w.2 m i c

  -- one of S that leads to none of T, if there is one
  unfoldable pub look : (T S : List ℕ) → ((m : ℕ) × In m S × ((n : ℕ) → In n T → ¬ R m n)) ⊎ ((m : ℕ) → In m S → ¬ ((n : ℕ) → In n T → ¬ R m n))
  look T [] = inr (λ m i f. i)
  look T (x ∷ S) = pick (find x T) (look T S)
    where
      pick : Next R x T → ((m : ℕ) × In m S × ((n : ℕ) → In n T → ¬ R m n)) ⊎ ((m : ℕ) → In m S → ¬ ((n : ℕ) → In n T → ¬ R m n)) → ((m : ℕ) × In m (x ∷ S) × ((n : ℕ) → In n T → ¬ R m n)) ⊎ ((m : ℕ) → In m (x ∷ S) → ¬ ((n : ℕ) → In n T → ¬ R m n))
      pick (none g) r = inl (x, inl refl, g)
      pick (next n M j b q g z) (inl r) = inl (r.0, inr r.1, r.2)
      pick (next n M j b q g z) (inr r) = inr other
        where
          other : (m : ℕ) → In m (x ∷ S) → ¬ ((n : ℕ) → In n T → ¬ R m n)
          other m (inl e) f = f n j (rw e b)
          other m (inr i) f = r m i f

  -- taking out, one by one, numbers that lead to none that is left; K holds whatever R relates
  module _ (K : List ℕ) (low : (m n : ℕ) → R m n → In n K) (high : (m n : ℕ) → R m n → In m K) where
    unfoldable pub empty : (O : List ℕ) → Rowed O → ((k : ℕ) → In k K → In k [] ⊎ In k O) → Dec (Acyclic R)
    empty O w s = yes (λ m c. rowed_free O w m (⊎_elim (λ z. absurd z) (λ z. z) (s m (high m (first c).0 (first c).1))) c)

    unfoldable pub peel : (f : ℕ) (S O : List ℕ) → length S ≤ f → Rowed O → ((k : ℕ) → In k K → In k S ⊎ In k O) → ((k : ℕ) → In k S → ¬ In k O) → Dec (Acyclic R)
    unfolding Rowed
    peel zero [] O e w s d = empty O w s
    peel zero (x ∷ S) O e w s d = absurd (omega arith)
    peel (suc f) [] O e w s d = empty O w s
    peel (suc f) (x ∷ S) O e w s d = pick (look (x ∷ S) (x ∷ S)) (peel f)
      where
        T : List ℕ
        T = x ∷ S

        pick : ((m : ℕ) × In m T × ((n : ℕ) → In n T → ¬ R m n)) ⊎ ((m : ℕ) → In m T → ¬ ((n : ℕ) → In n T → ¬ R m n))
            → ((S O : List ℕ) → length S ≤ f → Rowed O → ((k : ℕ) → In k K → In k S ⊎ In k O) → ((k : ℕ) → In k S → ¬ In k O) → Dec (Acyclic R)) → Dec (Acyclic R)
        pick (inr g) r = no (λ o. let p = peak T o x (inl refl) in g p.key p.has p.free)
        pick (inl p) r = r (without m T) (m ∷ O) (omega (arith, without_shorter m T p.1)) row cover apart
          where
            m : ℕ
            m = p.0

            row : Rowed (m ∷ O)
            row = (d m p.1, (λ n b. ⊎_elim (λ i. absurd (p.2 n i b)) (λ i. i) (s n (low m n b))), w)

            cover : (k : ℕ) → In k K → In k (without m T) ⊎ In k (m ∷ O)
            cover k i = choose (ℕ_discrete k m) (s k i)
              where
                choose : Dec (k ≡ m) → In k T ⊎ In k O → In k (without m T) ⊎ In k (m ∷ O)
                choose (yes e) j = inr (inl e)
                choose (no e) (inl j) = inl ((in_without k m T e).1 j)
                choose (no e) (inr j) = inr (inr j)

            apart : (k : ℕ) → In k (without m T) → ¬ In k (m ∷ O)
            apart k i (inl e) = gone m T (rw e at i)
            apart k i (inr j) = choose (ℕ_discrete k m)
              where
                choose : Dec (k ≡ m) → ⊥
                choose (yes e) = gone m T (rw e at i)
                choose (no e) = d k ((in_without k m T e).0 i) j

    unfoldable pub acyclic? : Dec (Acyclic R)
    unfolding Rowed
    acyclic? = peel (length K) K [] (omega arith) tt (λ k i. inl i) (λ k i j. j)
