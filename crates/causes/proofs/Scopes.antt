-- The test for condition 6: where keys stand at most twice, on complementary actions, every restriction holds what it hides
-- exactly if a key's two entries have the same nearest restriction, and a single entry has none.
use mathlib.Core.Path.{◌≡◌, refl, sym, ◌∙◌}
use mathlib.Core.Logic.Iff
use mathlib.Core.Logic.{◌⊎◌, inl, inr, ◌↔◌}
use mathlib.Core.List.{List, [], ◌∷◌, ◌++◌}
use Prim.Native.Nat.{ℕ, zero, suc, ◌+◌, ◌≤◌, ◌<◌}
use native.Mathlib.Decide.{ℕ_discrete}
use native.Mathlib.Omega.{arith}
use lib.ListN.{length}
use Rattle.ccsk.specs.Numbers.{In}
use Rattle.ccsk.specs.Term.{Term, nil, pre, cho, par, res, Co, On, labels, size}
use Rattle.ccsk.proofs.Basic.{co_sym}
use Rattle.ccsk.specs.Decide.{on?}
use Rattle.sound.specs.Sound.{Twice, Paired, Hidden}
use Rattle.causes.specs.Entry.{Entry, Scopes, nearest, under, open_scopes, marked, entries, all, only}
use Rattle.causes.specs.Tests.{EachKey, AtMostTwo, Complements, Enclosed}
use Rattle.causes.proofs.Entries.{Every, every_append, every_map, every_only, only-append, only_same, only_other, actions, labels_entries}
use Rattle.causes.proofs.Pairs.{twice_by_entries, paired_by_entries}

-- What is known of the scope of an entry below the scopes s, in a term whose root is node n and that ends before node b:
-- it comes from s, or from a restriction inside the term.
abbrev Reach : ℕ → ℕ → Scopes → Entry → Type 0
Reach n b s e = ((e.scope ≡ s e.action) ⊎ (n < e.scope)) × (e.scope ≤ b)

-- scopes that come from nodes before n, the same for an action and its complement
pub record Proper (n : ℕ) (s : Scopes) : Type 0 where
  pub past : (l : ℕ) → s l ≤ n
  pub fair : (l k : ℕ) → Co l k → s l ≡ s k

later : {n : ℕ} {s : Scopes} (c : ℕ) → n ≤ c → Proper n s → Proper c s
later c k p = record { past = λ l. let h = p.past l in omega arith; fair = p.fair }

on_co : (a l k : ℕ) → Co l k → On a l → On a k
on_co a l k (inl c) (p, inl e) = (p, inr (omega arith))
on_co a l k (inl c) (p, inr e) = (p, absurd (omega arith))
on_co a l k (inr c) (p, inl e) = (p, absurd (omega arith))
on_co a l k (inr c) (p, inr e) = (p, inl (omega arith))

nearest_yes : {A : Type 0} (d : Dec A) (n m : ℕ) → A → nearest d n m ≡ n
nearest_yes (yes a) n m x = refl
nearest_yes (no a) n m x = absurd (a x)

nearest_no : {A : Type 0} (d : Dec A) (n m : ℕ) → ¬ A → nearest d n m ≡ m
nearest_no (yes a) n m x = absurd (x a)
nearest_no (no a) n m x = refl

pub under_on : (a n : ℕ) (s : Scopes) (l : ℕ) → On a l → under a n s l ≡ suc n
unfolding under
under_on a n s l o = nearest_yes (on? a l) (suc n) (s l) o

pub under_off : (a n : ℕ) (s : Scopes) (l : ℕ) → ¬ On a l → under a n s l ≡ s l
unfolding under
under_off a n s l o = nearest_no (on? a l) (suc n) (s l) o

deeper : {n : ℕ} {s : Scopes} (a : ℕ) → Proper n s → Proper (suc n) (under a n s)
deeper {n} {s} a p = record { past = λ l. low l (on? a l); fair = λ l k c. same l k c (on? a l) }
  where
    low : (l : ℕ) → Dec (On a l) → under a n s l ≤ suc n
    low l (yes o) = rw (under_on a n s l o) (omega arith)
    low l (no o) = rw (under_off a n s l o) (let h = p.past l in omega arith)

    same : (l k : ℕ) → Co l k → Dec (On a l) → under a n s l ≡ under a n s k
    same l k c (yes o) = under_on a n s l o ∙ sym (under_on a n s k (on_co a l k c o))
    same l k c (no o) = under_off a n s l o ∙ p.fair l k c ∙ sym (under_off a n s k (λ z. o (on_co a k l (co_sym c) z)))

widen : (n c b d : ℕ) (s : Scopes) (l : List Entry) → n ≤ c → b ≤ d → Every (Reach c b s) l → Every (Reach n d s) l
widen n c b d s l h k p = every_map (Reach c b s) (Reach n d s) l wider p
  where
    wider : (e : Entry) → Reach c b s e → Reach n d s e
    wider e (inl q, z) = (inl q, omega arith)
    wider e (inr q, z) = (inr (omega arith), omega arith)

leave : (n b a : ℕ) (s : Scopes) (l : List Entry) → Every (Reach (suc n) b (under a n s)) l → Every (Reach n b s) l
leave n b a s l p = every_map (Reach (suc n) b (under a n s)) (Reach n b s) l (λ e. out e (on? a e.action)) p
  where
    out : (e : Entry) → Dec (On a e.action) → Reach (suc n) b (under a n s) e → Reach n b s e
    out e (yes o) (inl q, z) = let y = under_on a n s e.action o in (inr (omega arith), z)
    out e (no o) (inl q, z) = (inl (q ∙ under_off a n s e.action o), z)
    out e d (inr q, z) = (inr (omega arith), z)

reach : (n row u b : ℕ) (s : Scopes) (t : Term) → Proper n s → n + size t ≤ b → Every (Reach n b s) (entries n row u s t)
unfolding entries size
reach n row u b s nil p h = tt
reach n row u b s (pre a zero t) p h = widen n (suc n) b b s (entries (suc n) row u s t) (omega arith) (omega arith) (reach (suc n) row u b s t (later (suc n) (omega arith) p) (omega arith))
reach n row u b s (pre a (suc k) t) p h = ((inl refl, let z = p.past a in omega arith), widen n (suc n) b b s (entries (suc n) (suc row) (suc k) s t) (omega arith) (omega arith) (reach (suc n) (suc row) (suc k) b s t (later (suc n) (omega arith) p) (omega arith)))
reach n row u b s (cho t r) p h = every_append (Reach n b s) (entries (suc n) row u s t) (entries (suc n + size t) (row + marked t) u s r)
    (widen n (suc n) (suc n + size t) b s (entries (suc n) row u s t) (omega arith) (omega arith) (reach (suc n) row u (suc n + size t) s t (later (suc n) (omega arith) p) (omega arith)))
    (widen n (suc n + size t) b b s (entries (suc n + size t) (row + marked t) u s r) (omega arith) (omega arith) (reach (suc n + size t) (row + marked t) u b s r (later (suc n + size t) (omega arith) p) (omega arith)))
reach n row u b s (par t r) p h = every_append (Reach n b s) (entries (suc n) row u s t) (entries (suc n + size t) (row + marked t) u s r)
    (widen n (suc n) (suc n + size t) b s (entries (suc n) row u s t) (omega arith) (omega arith) (reach (suc n) row u (suc n + size t) s t (later (suc n) (omega arith) p) (omega arith)))
    (widen n (suc n + size t) b b s (entries (suc n + size t) (row + marked t) u s r) (omega arith) (omega arith) (reach (suc n + size t) (row + marked t) u b s r (later (suc n + size t) (omega arith) p) (omega arith)))
reach n row u b s (res a t) p h = leave n b a s (entries (suc n) row u (under a n s) t) (reach (suc n) row u b (under a n s) t (deeper a p) (omega arith))

-- what is asked of the entries of a key inside a term whose root is node n
abbrev Scoped : ℕ → List Entry → Type 0
Scoped n [] = Unit {0}
Scoped n (e ∷ []) = e.scope ≤ n
Scoped n (e ∷ (f ∷ [])) = e.scope ≡ f.scope
Scoped n (e ∷ (f ∷ (g ∷ l))) = Unit {0}

-- at most two entries, and if two then of complementary actions
abbrev Fit : List Entry → Type 0
Fit [] = Unit {0}
Fit (e ∷ []) = Unit {0}
Fit (e ∷ (f ∷ [])) = Co e.action f.action
Fit (e ∷ (f ∷ (g ∷ l))) = ⊥

fit : (l : List Entry) → AtMostTwo l → Complements l → Fit l
fit [] h c = tt
fit (e ∷ []) h c = tt
fit (e ∷ (f ∷ [])) h c = c
fit (e ∷ (f ∷ (g ∷ l))) h c = omega arith

fit_left : (x y : List Entry) → Fit (x ++ y) → Fit x
fit_left [] y f = tt
fit_left (e ∷ []) y f = tt
fit_left (e ∷ (g ∷ [])) [] f = f
fit_left (e ∷ (g ∷ [])) (i ∷ y) f = absurd f
fit_left (e ∷ (g ∷ (i ∷ x))) y f = f

fit_right : (x y : List Entry) → Fit (x ++ y) → Fit y
fit_right [] y f = f
fit_right (e ∷ []) [] f = tt
fit_right (e ∷ []) (g ∷ []) f = tt
fit_right (e ∷ []) (g ∷ (i ∷ y)) f = absurd f
fit_right (e ∷ (g ∷ [])) [] f = tt
fit_right (e ∷ (g ∷ [])) (i ∷ y) f = absurd f
fit_right (e ∷ (g ∷ (i ∷ x))) y f = absurd f

-- the scope of an entry is at most n exactly if it is at most c, where nothing lies between
settle : (n c b : ℕ) (s : Scopes) (e : Entry) → Proper n s → n ≤ c → Reach c b s e → (e.scope ≤ c) ↔ (e.scope ≤ n)
settle n c b s e p h (inl q, k) = (λ z. let y = p.past e.action in omega arith, λ z. omega arith)
settle n c b s e p h (inr q, k) = (λ z. absurd (omega arith), λ z. omega arith)

lower : (n c b : ℕ) (s : Scopes) (l : List Entry) → Proper n s → n ≤ c → Every (Reach c b s) l → Scoped c l ↔ Scoped n l
lower n c b s [] p h r = (λ z. z, λ z. z)
lower n c b s (e ∷ []) p h r = settle n c b s e p h r.0
lower n c b s (e ∷ (f ∷ [])) p h r = (λ z. z, λ z. z)
lower n c b s (e ∷ (f ∷ (g ∷ l))) p h r = (λ z. z, λ z. z)

-- two entries of complementary actions, of which the first has its scope from above: the second has the same exactly if it has it from above, too
match : (n c b : ℕ) (s : Scopes) (e f : Entry) → Proper n s → n ≤ c → e.scope ≡ s e.action → Co e.action f.action → Reach c b s f → (f.scope ≤ c) ↔ (e.scope ≡ f.scope)
match n c b s e f p h q k (inl z, y) = (λ v. q ∙ p.fair e.action f.action k ∙ sym z, λ v. let w = p.past f.action in omega arith)
match n c b s e f p h q k (inr z, y) = (λ v. absurd (omega arith), λ v. let w = p.past e.action in omega arith)

-- below a prefix that holds the key
front : (n b : ℕ) (s : Scopes) (e : Entry) (l : List Entry) → Proper n s → e.scope ≡ s e.action → Fit (e ∷ l) → Every (Reach (suc n) b s) l → Scoped (suc n) l ↔ Scoped n (e ∷ l)
front n b s e [] p q f r = (λ z. let y = p.past e.action in omega arith, λ z. tt)
front n b s e (g ∷ []) p q f r = match n (suc n) b s e g p (omega arith) q f r.0
front n b s e (g ∷ (i ∷ l)) p q f r = absurd f

-- on the two sides of a choice or a parallel
sides : (n c b : ℕ) (s : Scopes) (x y : List Entry) → Proper n s → n < c → Fit (x ++ y) → Every (Reach (suc n) c s) x → Every (Reach c b s) y → Scoped (suc n) x × Scoped c y ↔ Scoped n (x ++ y)
sides n c b s [] y p h f q r = let i = lower n c b s y p (omega arith) r in (λ z. i.0 z.1, λ z. (tt, i.1 z))
sides n c b s (e ∷ []) [] p h f q r = let i = settle n (suc n) c s e p (omega arith) q.0 in (λ z. i.0 z.0, λ z. (i.1 z, tt))
sides n c b s (e ∷ []) (g ∷ []) p h f q r = pick q.0.0
  where
    pick : (e.scope ≡ s e.action) ⊎ (suc n < e.scope) → (e.scope ≤ suc n) × (g.scope ≤ c) ↔ (e.scope ≡ g.scope)
    pick (inl o) = let i = match n c b s e g p (omega arith) o f r.0 in let w = p.past e.action in (λ z. i.0 z.1, λ z. (omega arith, i.1 z))
    pick (inr o) = (λ z. absurd (omega arith), λ z. absurd (out r.0.0 z))
      where
        out : (g.scope ≡ s g.action) ⊎ (c < g.scope) → e.scope ≡ g.scope → ⊥
        out (inl k) z = let w = p.past g.action in omega arith
        out (inr k) z = let w = q.0.1 in omega arith
sides n c b s (e ∷ []) (g ∷ (i ∷ y)) p h f q r = absurd f
sides n c b s (e ∷ (g ∷ [])) [] p h f q r = (λ z. z.0, λ z. (z, tt))
sides n c b s (e ∷ (g ∷ [])) (i ∷ y) p h f q r = absurd f
sides n c b s (e ∷ (g ∷ (i ∷ x))) y p h f q r = absurd f

-- a key with the actions x below a restriction on a, as condition 6 has it
abbrev Held : ℕ → List ℕ → Type 0
Held a x = (l : ℕ) → In l x → On a l → length x ≡ 2

-- below a restriction
inner : (n b a : ℕ) (s : Scopes) (x : List Entry) → Proper n s → Fit x → Every (Reach (suc n) b (under a n s)) x → Held a (actions x) × Scoped (suc n) x ↔ Scoped n x
unfolding actions
inner n b a s [] p f r = (λ z. tt, λ z. ((λ l i o. absurd i), tt))
inner n b a s (e ∷ []) p f r = pick (on? a e.action) r.0.0
  where
    pick : Dec (On a e.action) → (e.scope ≡ under a n s e.action) ⊎ (suc n < e.scope) → Held a (e.action ∷ []) × (e.scope ≤ suc n) ↔ (e.scope ≤ n)
    pick (yes o) (inl q) = let w = under_on a n s e.action o in (λ z. let v = z.0 e.action (inl refl) o in absurd (omega arith), λ z. absurd (omega arith))
    pick (no o) (inl q) = let w = under_off a n s e.action o in let v = p.past e.action in (λ z. omega arith, λ z. (free, omega arith))
      where
        free : Held a (e.action ∷ [])
        free l (inl i) k = absurd (o (rw i at k))
        free l (inr i) k = absurd i
    pick d (inr q) = (λ z. absurd (let v = z.1 in omega arith), λ z. absurd (omega arith))
inner n b a s (e ∷ (g ∷ [])) p f r = (λ z. z.1, λ z. ((λ l i o. refl), z))
inner n b a s (e ∷ (g ∷ (i ∷ x))) p f r = absurd f

each : {P Q : ℕ → Type 0} → ((m : ℕ) → 0 < m → P m ↔ Q m) → ((m : ℕ) → 0 < m → P m) ↔ ((m : ℕ) → 0 < m → Q m)
each f = (λ p m h. (f m h).0 (p m h), λ q m h. (f m h).1 (q m h))

module _ (n row u : ℕ) (s : Scopes) (p : Proper n s) where
  -- one side of a term that has two
  two_sides : (t r : Term) → ((m : ℕ) → 0 < m → Fit (only m (entries (suc n) row u s t ++ entries (suc n + size t) (row + marked t) u s r)))
      → (((m : ℕ) → 0 < m → Fit (only m (entries (suc n) row u s t))) → Hidden t ↔ ((m : ℕ) → 0 < m → Scoped (suc n) (only m (entries (suc n) row u s t))))
      → (((m : ℕ) → 0 < m → Fit (only m (entries (suc n + size t) (row + marked t) u s r))) → Hidden r ↔ ((m : ℕ) → 0 < m → Scoped (suc n + size t) (only m (entries (suc n + size t) (row + marked t) u s r))))
      → Hidden t × Hidden r ↔ ((m : ℕ) → 0 < m → Scoped n (only m (entries (suc n) row u s t ++ entries (suc n + size t) (row + marked t) u s r)))
  two_sides t r f i j = (λ z m h. (joined m h).0 ((i x_fit).0 z.0 m h, (j y_fit).0 z.1 m h), λ z. ((i x_fit).1 (λ m h. ((joined m h).1 (z m h)).0), (j y_fit).1 (λ m h. ((joined m h).1 (z m h)).1)))
    where
      c : ℕ
      c = suc n + size t

      x : List Entry
      x = entries (suc n) row u s t

      y : List Entry
      y = entries c (row + marked t) u s r

      fits : (m : ℕ) → 0 < m → Fit (only m x ++ only m y)
      fits m h = rw (only-append m x y) at (f m h)

      x_fit : (m : ℕ) → 0 < m → Fit (only m x)
      x_fit m h = fit_left (only m x) (only m y) (fits m h)

      y_fit : (m : ℕ) → 0 < m → Fit (only m y)
      y_fit m h = fit_right (only m x) (only m y) (fits m h)

      joined : (m : ℕ) → 0 < m → Scoped (suc n) (only m x) × Scoped c (only m y) ↔ Scoped n (only m (x ++ y))
      joined m h = rw (only-append m x y) (sides n c (c + size r) s (only m x) (only m y) p (omega arith) (fits m h)
          (every_only (Reach (suc n) c s) m x (reach (suc n) row u c s t (later (suc n) (omega arith) p) (omega arith)))
          (every_only (Reach c (c + size r) s) m y (reach c (row + marked t) u (c + size r) s r (later c (omega arith) p) (omega arith))))

-- the entries of each key of a term are scoped exactly if condition 6 holds in the term
hidden_scoped : (n row u : ℕ) (s : Scopes) (t : Term) → Proper n s → ((m : ℕ) → 0 < m → Fit (only m (entries n row u s t))) → Hidden t ↔ ((m : ℕ) → 0 < m → Scoped n (only m (entries n row u s t)))
unfolding entries only
hidden_scoped n row u s nil p f = (λ z m h. tt, λ z. tt)
hidden_scoped n row u s (pre a zero t) p f = Iff.trans (hidden_scoped (suc n) row u s t (later (suc n) (omega arith) p) f)
    (each (λ m h. lower n (suc n) (suc n + size t) s (only m (entries (suc n) row u s t)) p (omega arith) (every_only (Reach (suc n) (suc n + size t) s) m (entries (suc n) row u s t) (reach (suc n) row u (suc n + size t) s t (later (suc n) (omega arith) p) (omega arith)))))
hidden_scoped n row u s (pre a (suc k) t) p f = Iff.trans (hidden_scoped (suc n) (suc row) (suc k) s t (later (suc n) (omega arith) p) rest) (each (λ m h. pick m h (ℕ_discrete m (suc k))))
  where
    e : Entry
    e = record { key = suc k; action = a; row = row; end = suc row + marked t; scope = s a; up = u }

    l : List Entry
    l = entries (suc n) (suc row) (suc k) s t

    reached : (m : ℕ) → Every (Reach (suc n) (suc n + size t) s) (only m l)
    reached m = every_only (Reach (suc n) (suc n + size t) s) m l (reach (suc n) (suc row) (suc k) (suc n + size t) s t (later (suc n) (omega arith) p) (omega arith))

    rest : (m : ℕ) → 0 < m → Fit (only m l)
    rest m h = without (ℕ_discrete m (suc k))
      where
        without : Dec (m ≡ suc k) → Fit (only m l)
        without (yes q) = fit_right (e ∷ []) (only m l) (rw (only_same m e l q) at (f m h))
        without (no q) = rw (only_other m e l q) at (f m h)

    pick : (m : ℕ) → 0 < m → Dec (m ≡ suc k) → Scoped (suc n) (only m l) ↔ Scoped n (only m (e ∷ l))
    pick m h (yes q) = rw (only_same m e l q) (front n (suc n + size t) s e (only m l) p refl (rw (only_same m e l q) at (f m h)) (reached m))
    pick m h (no q) = rw (only_other m e l q) (lower n (suc n) (suc n + size t) s (only m l) p (omega arith) (reached m))
hidden_scoped n row u s (cho t r) p f = two_sides n row u s p t r f (hidden_scoped (suc n) row u s t (later (suc n) (omega arith) p)) (hidden_scoped (suc n + size t) (row + marked t) u s r (later (suc n + size t) (omega arith) p))
hidden_scoped n row u s (par t r) p f = two_sides n row u s p t r f (hidden_scoped (suc n) row u s t (later (suc n) (omega arith) p)) (hidden_scoped (suc n + size t) (row + marked t) u s r (later (suc n + size t) (omega arith) p))
hidden_scoped n row u s (res a t) p f = both (hidden_scoped (suc n) row u (under a n s) t (deeper a p) f)
  where
    l : List Entry
    l = entries (suc n) row u (under a n s) t

    one : (m : ℕ) → 0 < m → Held a (labels m t) × Scoped (suc n) (only m l) ↔ Scoped n (only m l)
    one m h = rw (labels_entries m (suc n) row u (under a n s) t h) (inner n (suc n + size t) a s (only m l) p (f m h) (every_only (Reach (suc n) (suc n + size t) (under a n s)) m l (reach (suc n) row u (suc n + size t) (under a n s) t (deeper a p) (omega arith))))

    both : Hidden t ↔ ((m : ℕ) → 0 < m → Scoped (suc n) (only m l)) → Hidden (res a t) ↔ ((m : ℕ) → 0 < m → Scoped n (only m l))
    both i = (λ z m h. (one m h).0 (z.0 m h, i.0 z.1 m h), λ z. ((λ m h. ((one m h).1 (z m h)).0), i.1 (λ m h. ((one m h).1 (z m h)).1)))

enclosed : (l : List Entry) → Scoped 0 l ↔ Enclosed l
enclosed [] = (λ z. z, λ z. z)
enclosed (e ∷ []) = (λ z. omega arith, λ z. omega arith)
enclosed (e ∷ (f ∷ [])) = (λ z. z, λ z. z)
enclosed (e ∷ (f ∷ (g ∷ l))) = (λ z. z, λ z. z)

-- condition 6
pub hidden_by_entries : (t : Term) → Twice t → Paired t → Hidden t ↔ EachKey Enclosed (all t)
hidden_by_entries t w c = Iff.trans (hidden_scoped 0 0 0 open_scopes t (record { past = λ l. omega arith; fair = λ l k z. refl })
    (λ m h. fit (only m (all t)) ((twice_by_entries t).0 w m h) ((paired_by_entries t).0 c m h))) (each (λ m h. enclosed (only m (all t))))
