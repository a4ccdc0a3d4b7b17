-- What a term offers and joins, from what its parts do: one law for each kind of node and what it lets through.
use mathlib.Core.Path.{◌≡◌, refl}
use mathlib.Core.Logic.{◌⊎◌, inl, inr, ⊎_elim, ◌↔◌}
use Prim.Native.Nat.{ℕ, suc, ◌+◌, ◌<◌, ◌≤◌}
use native.Mathlib.Omega.{arith}
use Rattle.ccsk.specs.Term.{Term, Name, Label, Key, Node, nil, pre, cho, par, res, Std, Co, On, size}
use Rattle.format.specs.Encode.{InRange}
use Rattle.offers.specs.Offers.{Offers, Offers.top, Offers.prefix, Offers.choice₁, Offers.choice₂, Offers.par₁, Offers.par₂, Offers.restrict, Joins, Joins.prefix, Joins.choice₁, Joins.choice₂, Joins.par₁, Joins.par₂, Joins.synch, Joins.restrict, At, OffersAt, JoinsAt}

-- places stand in the term, and the first before the second
pub offers_under : {t : Term} {p : Node} {l : Label} → Offers t p l → p < size t
unfolding size
offers_under (Offers.top s) = omega arith
offers_under (Offers.prefix h o) = omega (arith, offers_under o)
offers_under (Offers.choice₁ s o) = omega (arith, offers_under o)
offers_under (Offers.choice₂ e s o) = omega (arith, offers_under o)
offers_under (Offers.par₁ o) = omega (arith, offers_under o)
offers_under (Offers.par₂ e o) = omega (arith, offers_under o)
offers_under (Offers.restrict f o) = omega (arith, offers_under o)

pub joins_under : {t : Term} {p q : Node} → Joins t p q → (p < q) × (q < size t)
unfolding size
joins_under (Joins.prefix h j) = let r = joins_under j in (omega arith, omega arith)
joins_under (Joins.choice₁ s j) = let r = joins_under j in (omega arith, omega arith)
joins_under (Joins.choice₂ e f s j) = let r = joins_under j in (omega arith, omega arith)
joins_under (Joins.par₁ j) = let r = joins_under j in (omega arith, omega arith)
joins_under (Joins.par₂ e f j) = let r = joins_under j in (omega arith, omega arith)
joins_under (Joins.synch e c o w) = let r = offers_under o in let z = offers_under w in (omega arith, omega arith)
joins_under (Joins.restrict j) = let r = joins_under j in (omega arith, omega arith)

-- a label that is shown is a byte
pub offers_low : {t : Term} {p : Node} {l : Label} → InRange t → Offers t p l → l < 256
offers_low g (Offers.top s) = omega (arith, g.0)
offers_low g (Offers.prefix h o) = offers_low g.3 o
offers_low g (Offers.choice₁ s o) = offers_low g.0 o
offers_low g (Offers.choice₂ e s o) = offers_low g.1 o
offers_low g (Offers.par₁ o) = offers_low g.0 o
offers_low g (Offers.par₂ e o) = offers_low g.1 o
offers_low g (Offers.restrict f o) = offers_low g.1 o

-- the labels that the two show complement each other
abbrev pub Meets : Term → Term → Node → Node → Type 0
Meets u v i j = (l : Label) × (k : Label) × Co l k × Offers u i l × Offers v j k

-- p stands on the left of a parallel, q on the right, and they meet
abbrev pub Across : Term → Term → Node → Node → Type 0
Across u v p q = At 1 (λ i. At (1 + size u) (Meets u v i) q) p

abbrev pub Never : Node → Node → Type 0
Never p q = ⊥

-- no place of t steps
pub record Silent (t : Term) : Type 0 where
  pub offers : (p : Node) (l : Label) → ¬ Offers t p l
  pub joins : (p q : Node) → ¬ Joins t p q

-- the steps of t are those of its part u
pub record Passes (t : Term) (k : ℕ) (u : Term) : Type 0 where
  pub offers : (p : Node) (l : Label) → Offers t p l ↔ OffersAt k u p l
  pub joins : (p q : Node) → Joins t p q ↔ JoinsAt k u p q
  pub within : k + size u ≤ size t

-- the steps of t are those of its parts u and v, and those of X, from one to the other
pub record Splits (X : Node → Node → Type 0) (t u v : Term) : Type 0 where
  pub offers : (p : Node) (l : Label) → Offers t p l ↔ (OffersAt 1 u p l ⊎ OffersAt (1 + size u) v p l)
  pub joins : (p q : Node) → Joins t p q ↔ (JoinsAt 1 u p q ⊎ (JoinsAt (1 + size u) v p q ⊎ X p q))
  pub within : 1 + size u + size v ≤ size t

-- where an offer of each kind of node comes from
offers_pre : {a l : Label} {k : Key} {q : Node} {t : Term} → Offers (pre a k t) q l → ((k ≡ 0) × (q ≡ 0) × Std t × (l ≡ a)) ⊎ ((0 < k) × OffersAt 1 t q l)
offers_pre (Offers.top s) = inl (refl, refl, s, refl)
offers_pre (Offers.prefix {p = p} h o) = inr (h, (p, omega arith, o))

offers_cho : {l : Label} {q : Node} {t u : Term} → Offers (cho t u) q l → (Std u × OffersAt 1 t q l) ⊎ (Std t × OffersAt (1 + size t) u q l)
offers_cho (Offers.choice₁ {p = p} s o) = inl (s, (p, omega arith, o))
offers_cho (Offers.choice₂ {p = p} e s o) = inr (s, (p, omega arith, o))

offers_par : {l : Label} {q : Node} {t u : Term} → Offers (par t u) q l → OffersAt 1 t q l ⊎ OffersAt (1 + size t) u q l
offers_par (Offers.par₁ {p = p} o) = inl (p, omega arith, o)
offers_par (Offers.par₂ {p = p} e o) = inr (p, omega arith, o)

offers_res : {a : Name} {l : Label} {q : Node} {t : Term} → Offers (res a t) q l → ¬ On a l × OffersAt 1 t q l
offers_res (Offers.restrict {p = p} f o) = (f, (p, omega arith, o))

-- and where two places that step together come from
joins_pre : {a : Label} {k : Key} {p q : Node} {t : Term} → Joins (pre a k t) p q → (0 < k) × JoinsAt 1 t p q
joins_pre (Joins.prefix {p = p} {q = q} h j) = (h, (p, omega arith, (q, omega arith, j)))

joins_cho : {p q : Node} {t u : Term} → Joins (cho t u) p q → (Std u × JoinsAt 1 t p q) ⊎ (Std t × JoinsAt (1 + size t) u p q)
joins_cho (Joins.choice₁ {p = p} {q = q} s j) = inl (s, (p, omega arith, (q, omega arith, j)))
joins_cho (Joins.choice₂ {p = p} {q = q} e f s j) = inr (s, (p, omega arith, (q, omega arith, j)))

joins_par : {p q : Node} {t u : Term} → Joins (par t u) p q → JoinsAt 1 t p q ⊎ (JoinsAt (1 + size t) u p q ⊎ Across t u p q)
joins_par (Joins.par₁ {p = p} {q = q} j) = inl (p, omega arith, (q, omega arith, j))
joins_par (Joins.par₂ {p = p} {q = q} e f j) = inr (inl (p, omega arith, (q, omega arith, j)))
joins_par (Joins.synch {p = p} {q = q} e c o w) = inr (inr (p, omega arith, (q, omega arith, (_, _, c, o, w))))

joins_res : {a : Name} {p q : Node} {t : Term} → Joins (res a t) p q → JoinsAt 1 t p q
joins_res (Joins.restrict {p = p} {q = q} j) = (p, omega arith, (q, omega arith, j))

-- one node up, by each rule
pub offers_up : {t w : Term} {q : Node} {l : Label} → ((p : Node) → Offers t p l → Offers w (suc p) l) → OffersAt 1 t q l → Offers w q l
offers_up {w = w} {q = q} {l = l} f (p, e, o) = let g : q ≡ suc p = omega arith in rw g (f p o)

pub joins_up : {t w : Term} {p q : Node} → ((i j : Node) → Joins t i j → Joins w (suc i) (suc j)) → JoinsAt 1 t p q → Joins w p q
joins_up {w = w} {p = p} {q = q} f (i, e, (j, d, o)) = let g : p ≡ suc i = omega arith in let h : q ≡ suc j = omega arith in rw (g, h) (f i j o)

pub offers_over : (t : Term) {u w : Term} {q : Node} {l : Label} → ((p : Node) → q ≡ suc (size t + p) → Offers u p l → Offers w q l) → OffersAt (1 + size t) u q l → Offers w q l
offers_over t f (p, e, o) = f p (omega arith) o

pub joins_over : (t : Term) {u w : Term} {p q : Node} → ((i j : Node) → p ≡ suc (size t + i) → q ≡ suc (size t + j) → Joins u i j → Joins w p q) → JoinsAt (1 + size t) u p q → Joins w p q
joins_over t f (i, e, (j, d, o)) = f i j (omega arith) (omega arith) o

-- nothing steps: nil, a prefix that is not done over a key, a choice with keys on both sides
pub silent_nil : Silent nil
silent_nil = record { offers = λ p l o. none o; joins = λ p q j. apart j }
  where
    none : {p : Node} {l : Label} → Offers nil p l → ⊥
    none = elim [ ]

    apart : {p q : Node} → Joins nil p q → ⊥
    apart = elim [ ]

pub silent_shut : {a : Label} {t : Term} → ¬ Std t → Silent (pre a 0 t)
silent_shut f = record { offers = λ p l o. ⊎_elim (λ r. f r.2) (λ r. absurd (omega (arith, r.0))) (offers_pre o); joins = λ p q j. absurd (omega (arith, (joins_pre j).0)) }

pub silent_barred : {t u : Term} → ¬ Std t → ¬ Std u → Silent (cho t u)
silent_barred f g = record { offers = λ p l o. ⊎_elim (λ r. g r.0) (λ r. f r.0) (offers_cho o); joins = λ p q j. ⊎_elim (λ r. g r.0) (λ r. f r.0) (joins_cho j) }

-- a prefix with key 0 over no key: itself, and nothing below it
pub own_offers : {a : Label} {t : Term} → Std t → (p : Node) (l : Label) → Offers (pre a 0 t) p l ↔ ((p ≡ 0) × (l ≡ a))
own_offers s p l = (λ o. ⊎_elim (λ r. (r.1, r.3)) (λ r. absurd (omega (arith, r.0))) (offers_pre o), λ r. rw (r.0, r.1) (Offers.top s))

pub own_joins : {a : Label} {t : Term} (p q : Node) → ¬ Joins (pre a 0 t) p q
own_joins p q j = absurd (omega (arith, (joins_pre j).0))

-- a prefix that is done passes what is below it, a choice the side that holds keys
pub passes_done : {a : Label} {k : Key} {t : Term} → 0 < k → Passes (pre a k t) 1 t
unfolding size
passes_done h = record {
  offers = λ p l. (λ o. ⊎_elim (λ r. absurd (omega (arith, r.0))) (λ r. r.1) (offers_pre o), offers_up (λ i o. Offers.prefix h o));
  joins = λ p q. (λ j. (joins_pre j).1, joins_up (λ i k j. Joins.prefix h j));
  within = omega arith;
}

pub passes_first : {t u : Term} → ¬ Std t → Std u → Passes (cho t u) 1 t
unfolding size
passes_first f s = record {
  offers = λ p l. (λ o. ⊎_elim (λ r. r.1) (λ r. absurd (f r.0)) (offers_cho o), offers_up (λ i o. Offers.choice₁ s o));
  joins = λ p q. (λ j. ⊎_elim (λ r. r.1) (λ r. absurd (f r.0)) (joins_cho j), joins_up (λ i k j. Joins.choice₁ s j));
  within = omega arith;
}

pub passes_second : {t u : Term} → Std t → ¬ Std u → Passes (cho t u) (1 + size t) u
unfolding size
passes_second {t} s f = record {
  offers = λ p l. (λ o. ⊎_elim (λ r. absurd (f r.0)) (λ r. r.1) (offers_cho o), offers_over t (λ i e o. Offers.choice₂ e s o));
  joins = λ p q. (λ j. ⊎_elim (λ r. absurd (f r.0)) (λ r. r.1) (joins_cho j), joins_over t (λ i k e d j. Joins.choice₂ e d s j));
  within = omega arith;
}

-- a choice without keys splits into its sides, a parallel also joins them
pub splits_choice : {t u : Term} → Std t → Std u → Splits Never (cho t u) t u
unfolding size
splits_choice {t} s z = record {
  offers = λ p l. (λ o. ⊎_elim (λ r. inl r.1) (λ r. inr r.1) (offers_cho o), λ w. ⊎_elim (offers_up (λ i o. Offers.choice₁ z o)) (offers_over t (λ i e o. Offers.choice₂ e s o)) w);
  joins = λ p q. (
    λ j. ⊎_elim (λ r. inl r.1) (λ r. inr (inl r.1)) (joins_cho j),
    λ w. ⊎_elim (joins_up (λ i k j. Joins.choice₁ z j)) (λ v. ⊎_elim (joins_over t (λ i k e d j. Joins.choice₂ e d s j)) (λ x. absurd x) v) w,
  );
  within = omega arith;
}

pub splits_parallel : {t u : Term} → Splits (Across t u) (par t u) t u
unfolding size
splits_parallel {t} {u} = record {
  offers = λ p l. (offers_par, λ w. ⊎_elim (offers_up (λ i o. Offers.par₁ o)) (offers_over t (λ i e o. Offers.par₂ e o)) w);
  joins = λ p q. (joins_par, λ w. ⊎_elim (joins_up (λ i k j. Joins.par₁ j)) (λ v. ⊎_elim (joins_over t (λ i k e d j. Joins.par₂ e d j)) met v) w);
  within = omega arith;
}
  where
    met : {p q : Node} → Across t u p q → Joins (par t u) p q
    met {p} {q} (i, e, (j, d, m)) = let g : p ≡ suc i = omega arith in let h : q ≡ suc (size t + j) = omega arith in rw g (Joins.synch h m.2 m.3 m.4)

-- a restriction passes what is not on its name, and joins what is joined below it
pub hidden_offers : {a : Name} {t : Term} (p : Node) (l : Label) → Offers (res a t) p l ↔ (OffersAt 1 t p l × ¬ On a l)
hidden_offers p l = (λ o. let r = offers_res o in (r.1, r.0), λ w. offers_up (λ i o. Offers.restrict w.1 o) w.0)

pub hidden_joins : {a : Name} {t : Term} (p q : Node) → Joins (res a t) p q ↔ JoinsAt 1 t p q
hidden_joins p q = (joins_res, joins_up (λ i k j. Joins.restrict j))
