-- Steps by their places, for a key that stands nowhere in the term: one constructor for each rule (01, Rules of a step), and no key.
use Rattle.std.specs.Prelude.{◌≡◌, ◌⊎◌, suc, ◌+◌, ◌<◌}
use Rattle.ccsk.specs.Term.{Term, Name, Label, Key, Node, pre, cho, par, res, Std, Co, On, size}

-- The prefix at node p steps alone, and the label l is seen at the root of the term.
pub data Offers : Term → Node → Label → Type 0 where
  top : {a : Label} {t : Term} → Std t → Offers (pre a 0 t) 0 a
  prefix : {a l : Label} {k : Key} {p : Node} {t : Term} → 0 < k → Offers t p l → Offers (pre a k t) (suc p) l
  choice₁ : {l : Label} {p : Node} {t u : Term} → Std u → Offers t p l → Offers (cho t u) (suc p) l
  choice₂ : {l : Label} {p i : Node} {t u : Term} → i ≡ suc (size t + p) → Std t → Offers u p l → Offers (cho t u) i l
  par₁ : {l : Label} {p : Node} {t u : Term} → Offers t p l → Offers (par t u) (suc p) l
  par₂ : {l : Label} {p i : Node} {t u : Term} → i ≡ suc (size t + p) → Offers u p l → Offers (par t u) i l
  restrict : {a : Name} {l : Label} {p : Node} {t : Term} → ¬ On a l → Offers t p l → Offers (res a t) (suc p) l

-- The prefixes at the nodes p and q, p before q, step together.
pub data Joins : Term → Node → Node → Type 0 where
  prefix : {a : Label} {k : Key} {p q : Node} {t : Term} → 0 < k → Joins t p q → Joins (pre a k t) (suc p) (suc q)
  choice₁ : {p q : Node} {t u : Term} → Std u → Joins t p q → Joins (cho t u) (suc p) (suc q)
  choice₂ : {p q i j : Node} {t u : Term} → i ≡ suc (size t + p) → j ≡ suc (size t + q) → Std t → Joins u p q → Joins (cho t u) i j
  par₁ : {p q : Node} {t u : Term} → Joins t p q → Joins (par t u) (suc p) (suc q)
  par₂ : {p q i j : Node} {t u : Term} → i ≡ suc (size t + p) → j ≡ suc (size t + q) → Joins u p q → Joins (par t u) i j
  synch : {l k : Label} {p q j : Node} {t u : Term} → j ≡ suc (size t + q) → Co l k → Offers t p l → Offers u q k → Joins (par t u) (suc p) j
  restrict : {a : Name} {p q : Node} {t : Term} → Joins t p q → Joins (res a t) (suc p) (suc q)

-- Some prefix of the term shows the label l at its root.
abbrev pub Shown : Term → Label → Type 0
Shown t l = (p : Node) × Offers t p l

-- The label finds its complement among those that the term shows.
abbrev pub Answered : Term → Label → Type 0
Answered t l = (k : Label) × Co l k × Shown t k

-- The place p shows one of the labels W at the root of the term.
abbrev pub Showing : (Label → Type 0) → Term → Node → Type 0
Showing W t p = (l : Label) × W l × Offers t p l

-- The place p is wanted, where the labels W are asked for around the term: it shows one of them, or steps together with a later place.
abbrev pub Wanted : (Label → Type 0) → Term → Node → Type 0
Wanted W t p = Showing W t p ⊎ ((q : Node) × Joins t p q)

-- Node i is a place with P of the part that begins at node n.
abbrev pub At : Node → (Node → Type 0) → Node → Type 0
At n P i = (p : Node) × (i ≡ n + p) × P p

-- Node i offers the label l, as a place of the part t that begins at node n. The nodes i and j step together, as places of it.
abbrev pub OffersAt : Node → Term → Node → Label → Type 0
OffersAt n t i l = At n (λ p. Offers t p l) i

abbrev pub JoinsAt : Node → Term → Node → Node → Type 0
JoinsAt n t i j = At n (λ p. At n (Joins t p) j) i
