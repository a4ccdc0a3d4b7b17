-- What small terms offer and join. a is the name 1, b the name 2, a' the co-name 129.
use mathlib.Core.Path.{refl}
use mathlib.Core.Logic.{inl, ⊎_elim}
use native.Mathlib.Omega.{arith}
use Rattle.ccsk.specs.Term.{Term, Node, nil, pre, cho, par, res, size}
use Rattle.offers.specs.Offers.{Offers, Offers.top, Offers.prefix, Offers.choice₁, Joins, Joins.synch, Joins.restrict}
use Rattle.offers.proofs.Parts.{own_joins, splits_choice, hidden_offers}

-- a.0 | a'.0 under a restriction on a: nodes 2 and 4 step together, and node 2 does not step alone
restricted : Term
restricted = res 1 (par (pre 1 0 nil) (pre 129 0 nil))

restricted_joins : Joins restricted 2 4
unfolding restricted size
restricted_joins = Joins.restrict (Joins.synch {l = 1} refl (inl ((omega arith, omega arith), refl)) (Offers.top tt) (Offers.top tt))

restricted_stops : ¬ Offers restricted 2 1
unfolding restricted
restricted_stops o = ((hidden_offers 2 1).0 o).1 ((omega arith, omega arith), inl refl)

-- a.0 + a'.0: the two sides never step together
choice_apart : (p q : Node) → ¬ Joins (cho (pre 1 0 nil) (pre 129 0 nil)) p q
choice_apart p q j = ⊎_elim (λ z. own_joins _ _ z.2.2) (λ w. ⊎_elim (λ z. own_joins _ _ z.2.2) (λ z. absurd z) w) (((splits_choice tt tt).joins p q).0 j)

-- a[1].b.0 + b.0: a is done, so b below it shows at the root
taken_offers : Offers (cho (pre 1 1 (pre 2 0 nil)) (pre 2 0 nil)) 2 2
taken_offers = Offers.choice₁ tt (Offers.prefix {k = 1} (omega arith) (Offers.top tt))
