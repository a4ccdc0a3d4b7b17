-- The terms that are due in a record, each below a key, and their links: those of the first node, and those of what is due after it.
use mathlib.Core.Path.{◌≡◌, refl}
use mathlib.Core.Logic.{◌⊎◌, inl, inr, ⊎_elim, ◌↔◌}
use mathlib.Core.List.{List, [], ◌∷◌}
use Prim.Native.Nat.{zero, suc, ◌<◌}
use native.Mathlib.Omega.{arith}
use lib.ListN.{length}
use Rattle.ccsk.specs.Term.{Term, Key, nil, pre, cho, par, res}
use Rattle.ccsk.proofs.Basic.{never}
use Rattle.causes.specs.Nearest.{RightAbove}
use Rattle.format.specs.Flat.{after, head_kind, head_key}
use Rattle.format.specs.Kinds.{count_of_children}
use Rattle.reader.specs.Due.{push}
use Rattle.filing.specs.Record.{below}

-- m is right above n in one of the terms, each of which stands below its key
abbrev pub LinksOf : List Key → List Term → Key → Key → Type 0
LinksOf [] ts m n = ⊥
LinksOf (u ∷ us) [] m n = ⊥
LinksOf (u ∷ us) (t ∷ ts) m n = RightAbove u t m n ⊎ LinksOf us ts m n

-- the link to the first node itself
abbrev pub HeadLink : Key → List Term → Key → Key → Type 0
HeadLink u ts m n = (0 < u) × (0 < head_key ts) × (m ≡ u) × (n ≡ head_key ts)

-- two sides and a rest, where there is no link to the first node
two_sides : {A B C D : Type 0} → ¬ A → ((B ⊎ C) ⊎ D) ↔ (A ⊎ (B ⊎ (C ⊎ D)))
two_sides f = (
  λ l. ⊎_elim (λ z. ⊎_elim (λ y. inr (inl y)) (λ y. inr (inr (inl y))) z) (λ z. inr (inr (inr z))) l,
  λ l. ⊎_elim (λ z. absurd (f z)) (λ z. ⊎_elim (λ y. inl (inl y)) (λ y. ⊎_elim (λ x. inl (inr x)) inr y) z) l,
)

-- the first node has its link, and what stands below it has the others
pub links_after : (u : Key) (us : List Key) (ts : List Term) → 0 < length ts → (m n : Key)
    → LinksOf (u ∷ us) ts m n ↔ (HeadLink u ts m n ⊎ LinksOf (push (count_of_children (head_kind ts)) (below u (head_key ts)) us) (after ts) m n)
unfolding after head_kind head_key push
links_after u us [] h m n = absurd (omega arith)
links_after u us (nil ∷ ts) h m n = (λ l. ⊎_elim (λ z. absurd z) inr l, λ l. ⊎_elim (λ z. never z.1 refl) inr l)
links_after u us (pre a zero t ∷ ts) h m n = (inr, λ l. ⊎_elim (λ z. never z.1 refl) (λ z. z) l)
links_after u us (pre a (suc k) t ∷ ts) h m n = (there, back)
  where
    there : LinksOf (u ∷ us) (pre a (suc k) t ∷ ts) m n → HeadLink u (pre a (suc k) t ∷ ts) m n ⊎ (RightAbove (suc k) t m n ⊎ LinksOf us ts m n)
    there (inl (inl z)) = inl (omega (arith, z.0, z.1), omega arith, z.1, z.2)
    there (inl (inr z)) = inr (inl z)
    there (inr z) = inr (inr z)

    back : HeadLink u (pre a (suc k) t ∷ ts) m n ⊎ (RightAbove (suc k) t m n ⊎ LinksOf us ts m n) → LinksOf (u ∷ us) (pre a (suc k) t ∷ ts) m n
    back (inl z) = inl (inl (omega (arith, z.0, z.2), z.2, z.3))
    back (inr (inl z)) = inl (inr z)
    back (inr (inr z)) = inr z
links_after u us (cho t r ∷ ts) h m n = two_sides (λ z. never z.1 refl)
links_after u us (par t r ∷ ts) h m n = two_sides (λ z. never z.1 refl)
links_after u us (res a t ∷ ts) h m n = (inr, λ l. ⊎_elim (λ z. never z.1 refl) (λ z. z) l)

-- where no term is due there is no link
pub links_none : (us : List Key) (m n : Key) → ¬ LinksOf us [] m n
links_none [] m n l = l
links_none (u ∷ us) m n l = l
