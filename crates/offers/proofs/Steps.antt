-- Offers and joins are the steps that the rules derive, for every key that stands nowhere in the term.
use mathlib.Core.Path.{◌≡◌, refl, sym}
use mathlib.Core.Logic.{inl, inr, ◌↔◌}
use mathlib.Core.List.{List, [], ◌∷◌, ◌++◌}
use Prim.Native.Nat.{ℕ, zero, suc, ◌+◌, ◌<◌}
use native.Mathlib.Omega.{arith}
use Rattle.ccsk.specs.Numbers.{LeastFree}
use Rattle.ccsk.specs.Term.{Term, Label, Key, Node, Fsh, Co, keys, par, size}
use Rattle.ccsk.specs.Step.{Forward, Forward.top, Forward.prefix, Forward.choice₁, Forward.choice₂, Forward.par₁, Forward.par₂, Forward.synch, Forward.restrict}
use Rattle.ccsk.specs.Place.{shift, places, ForwardAt}
use Rattle.ccsk.proofs.Basic.{tau_open}
use Rattle.ccsk.proofs.Lists.{least_free_lem}
use Rattle.ccsk.proofs.Keys.{has_in}
use Rattle.ccsk.proofs.Place.{co_pos}
use Rattle.operations.specs.Order.{FreeStep}
use Rattle.offers.specs.Offers.{Offers, Offers.top, Offers.prefix, Offers.choice₁, Offers.choice₂, Offers.par₁, Offers.par₂, Offers.restrict, Joins, Joins.prefix, Joins.choice₁, Joins.choice₂, Joins.par₁, Joins.par₂, Joins.synch, Joins.restrict, OffersAt, JoinsAt}
use Rattle.offers.proofs.Parts.{offers_up, joins_up, offers_over, joins_over, splits_parallel}

-- the places of a derived step: one that offers the label, or two that join, with tau
data Made (t : Term) (l : Label) : List Node → Type 0 where
  one : {p : Node} → Offers t p l → Made t l (p ∷ [])
  two : {p q : Node} → l ≡ 0 → Joins t p q → Made t l (p ∷ (q ∷ []))

lifted : {t w : Term} {l : Label} {x : List Node} (k : ℕ) → ((q : Node) → OffersAt k t q l → Offers w q l) → ((p q : Node) → JoinsAt k t p q → Joins w p q) → Made t l x → Made w l (shift k x)
unfolding shift
lifted k f g (one {p = p} o) = one (f (k + p) (p, refl, o))
lifted k f g (two {p = p} {q = q} z j) = two z (g (k + p) (k + q) (p, refl, (q, refl, j)))

met : {l k : Label} {t u : Term} {x y : List Node} → Co l k → Made t l x → Made u k y → Made (par t u) 0 (shift 1 x ++ shift (1 + size t) y)
unfolding shift
met {t = t} {u = u} c (one {p = p} o) (one {p = q} w) = two refl (((splits_parallel {t = t} {u = u}).joins (1 + p) (1 + size t + q)).1 (inr (inr (p, refl, (q, refl, (_, _, c, o, w))))))
met c (one o) (two z j) = absurd (omega (arith, co_pos c))
met c (two z j) w = absurd (omega (arith, co_pos c))

made : {t u : Term} {m : Key} {l : Label} (d : Forward t m l u) → Made t l (places d)
unfolding places
made (Forward.top h s) = one (Offers.top s)
made (Forward.prefix h n d) = lifted 1 (λ q. offers_up (λ i o. Offers.prefix h o)) (λ p q. joins_up (λ i k j. Joins.prefix h j)) (made d)
made (Forward.choice₁ s d) = lifted 1 (λ q. offers_up (λ i o. Offers.choice₁ s o)) (λ p q. joins_up (λ i k j. Joins.choice₁ s j)) (made d)
made (Forward.choice₂ {t = t} s d) = lifted (1 + size t) (λ q. offers_over t (λ i e o. Offers.choice₂ e s o)) (λ p q. joins_over t (λ i k e f j. Joins.choice₂ e f s j)) (made d)
made (Forward.par₁ f d) = lifted 1 (λ q. offers_up (λ i o. Offers.par₁ o)) (λ p q. joins_up (λ i k j. Joins.par₁ j)) (made d)
made (Forward.par₂ {t = t} f d) = lifted (1 + size t) (λ q. offers_over t (λ i e o. Offers.par₂ e o)) (λ p q. joins_over t (λ i k e f j. Joins.par₂ e f j)) (made d)
made (Forward.synch c d e) = met c (made d) (made e)
made (Forward.restrict f d) = lifted 1 (λ q. offers_up (λ i o. Offers.restrict f o)) (λ p q. joins_up (λ i k j. Joins.restrict j)) (made d)

un_one : {t : Term} {l : Label} {p : Node} → Made t l (p ∷ []) → Offers t p l
un_one (one o) = o

un_two : {t : Term} {l : Label} {p q : Node} → Made t l (p ∷ (q ∷ [])) → (l ≡ 0) × Joins t p q
un_two (two z j) = (z, j)

-- and back: the rules, on steps at places
module _ (m : Key) (pos : 0 < m) where
  abbrev Step : Term → Label → List Node → Type 0
  Step t l x = (u : Term) × (d : Forward t m l u) × (places d ≡ x)

  -- the places of a step k nodes further
  one_on : (k p i : Node) (x : List Node) → x ≡ p ∷ [] → i ≡ k + p → shift k x ≡ i ∷ []
  unfolding shift
  one_on k p i x e f = rw (e, f)

  two_on : (k p q i j : Node) (x : List Node) → x ≡ p ∷ (q ∷ []) → i ≡ k + p → j ≡ k + q → shift k x ≡ i ∷ (j ∷ [])
  unfolding shift
  two_on k p q i j x e f g = rw (e, f, g)

  offered : {t : Term} {p : Node} {l : Label} → Fsh m t → Offers t p l → Step t l (p ∷ [])
  unfolding places
  offered f (Offers.top s) = (_, Forward.top pos s, refl)
  offered f (Offers.prefix {p = p} h o) = let w = offered (λ z. f (inr z)) o in (_, Forward.prefix h (λ z. f (inl z)) w.1, one_on 1 p (suc p) _ w.2 (omega arith))
  offered f (Offers.choice₁ {p = p} s o) = let w = offered (λ z. f (inl z)) o in (_, Forward.choice₁ s w.1, one_on 1 p (suc p) _ w.2 (omega arith))
  offered f (Offers.choice₂ {p = p} {i = i} {t = t} e s o) = let w = offered (λ z. f (inr z)) o in (_, Forward.choice₂ s w.1, one_on (1 + size t) p i _ w.2 (omega arith))
  offered f (Offers.par₁ {p = p} o) = let w = offered (λ z. f (inl z)) o in (_, Forward.par₁ (λ z. f (inr z)) w.1, one_on 1 p (suc p) _ w.2 (omega arith))
  offered f (Offers.par₂ {p = p} {i = i} {t = t} e o) = let w = offered (λ z. f (inr z)) o in (_, Forward.par₂ (λ z. f (inl z)) w.1, one_on (1 + size t) p i _ w.2 (omega arith))
  offered f (Offers.restrict {p = p} h o) = let w = offered f o in (_, Forward.restrict h w.1, one_on 1 p (suc p) _ w.2 (omega arith))

  joined : {t : Term} {p q : Node} → Fsh m t → Joins t p q → Step t 0 (p ∷ (q ∷ []))
  unfolding places
  joined f (Joins.prefix {p = p} {q = q} h o) = let w = joined (λ z. f (inr z)) o in (_, Forward.prefix h (λ z. f (inl z)) w.1, two_on 1 p q (suc p) (suc q) _ w.2 (omega arith) (omega arith))
  joined f (Joins.choice₁ {p = p} {q = q} s o) = let w = joined (λ z. f (inl z)) o in (_, Forward.choice₁ s w.1, two_on 1 p q (suc p) (suc q) _ w.2 (omega arith) (omega arith))
  joined f (Joins.choice₂ {p = p} {q = q} {i = i} {j = j} {t = t} e g s o) = let w = joined (λ z. f (inr z)) o in (_, Forward.choice₂ s w.1, two_on (1 + size t) p q i j _ w.2 (omega arith) (omega arith))
  joined f (Joins.par₁ {p = p} {q = q} o) = let w = joined (λ z. f (inl z)) o in (_, Forward.par₁ (λ z. f (inr z)) w.1, two_on 1 p q (suc p) (suc q) _ w.2 (omega arith) (omega arith))
  joined f (Joins.par₂ {p = p} {q = q} {i = i} {j = j} {t = t} e g o) = let w = joined (λ z. f (inr z)) o in (_, Forward.par₂ (λ z. f (inl z)) w.1, two_on (1 + size t) p q i j _ w.2 (omega arith) (omega arith))
  joined f (Joins.synch {p = p} {q = q} {j = j} {t = t} e c o w) = let v = offered (λ z. f (inl z)) o in let x = offered (λ z. f (inr z)) w in
      (_, Forward.synch c v.1 x.1, rw (one_on 1 p (suc p) _ v.2 (omega arith), one_on (1 + size t) q j _ x.2 (omega arith)))
  joined f (Joins.restrict {p = p} {q = q} o) = let w = joined f o in (_, Forward.restrict tau_open w.1, two_on 1 p q (suc p) (suc q) _ w.2 (omega arith) (omega arith))

-- for the least free key
module _ (t : Term) where
  fresh : (m : Key) → LeastFree (keys t) m → Fsh m t
  fresh m f h = f.free (has_in m t f.pos h)

  -- a step at these places, from its derivation
  made_at : {x : List Node} {m : Key} {l : Label} → (w : ForwardAt t m x) → w.0 ≡ l → Made t l x
  made_at w e = rw e at (rw w.3 at (made w.2))

  pub free_alone : (p : Node) (l : Label) → FreeStep t p 0 l ↔ Offers t p l
  free_alone p l = (
    λ w. un_one (made_at w.2.0 w.2.1),
    λ o. let k = least_free_lem (keys t) in let w = offered k.0 k.2.pos (fresh k.0 k.2) o in (k.0, k.2, ((l, w.0, w.1, w.2), refl)),
  )

  pub free_joined : (p q : Node) (l : Label) → 0 < q → FreeStep t p q l ↔ ((l ≡ 0) × Joins t p q)
  free_joined p zero l h = absurd (omega arith)
  free_joined p (suc q) l h = (
    λ w. un_two (made_at w.2.0 w.2.1),
    λ o. let k = least_free_lem (keys t) in let w = joined k.0 k.2.pos (fresh k.0 k.2) o.1 in (k.0, k.2, ((0, w.0, w.1, w.2), sym o.0)),
  )
