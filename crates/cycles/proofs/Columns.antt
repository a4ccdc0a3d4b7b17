-- The two columns of the cycle test as one relation: number n stands in the row of what is right above it.
use mathlib.Core.Path.{◌≡◌, refl, ap, ◌∙◌}
use mathlib.Core.Logic.{◌⊎◌, inl, inr, ⊎_elim, ◌↔◌}
use mathlib.Core.List.{List, [], ◌∷◌, ◌++◌}
use Prim.Native.Nat.{ℕ, zero, suc, ◌+◌, ◌≤◌, ◌<◌}
use native.Mathlib.Decide.{ℕ_discrete}
use native.Mathlib.Omega.{arith}
use borrow.Author.Tests.{eq-eqb, ne_eqb}
use lib.ListN.{length, get_or, drop, length-drop, length-append}
use lib.Seq.{get_or-drop}
use Rattle.ccsk.specs.Numbers.{In}
use Rattle.ccsk.proofs.Lists.{in_left, in_either}
use Rattle.causes.specs.Links.{Linked, NoCycle, right_above}
use Rattle.sound.proofs.Chains.{chain_map}
use Rattle.causes.proofs.Taking.{linked_low, linked_above, above-append}
use Rattle.cycles.specs.Graph.{Over, Acyclic, Columns}

-- the numbers of the places of a list, counted from i
unfoldable pub places : ℕ → List ℕ → List ℕ
places i [] = []
places i (x ∷ l) = i ∷ places (suc i) l

pub places-length : (i : ℕ) (l : List ℕ) → length (places i l) ≡ length l
unfolding places
places-length i [] = refl
places-length i (x ∷ l) = ap suc (places-length (suc i) l)

in_places : (k i : ℕ) (l : List ℕ) → In k (places i l) ↔ ((i ≤ k) × (k < i + length l))
unfolding places
in_places k i [] = (λ z. absurd z, λ z. omega arith)
in_places k i (x ∷ l) = let r = in_places k (suc i) l in (⊎_elim (λ e. omega arith) (λ z. let y = r.0 z in omega arith), λ z. pick (ℕ_discrete k i) r z)
  where
    pick : Dec (k ≡ i) → In k (places (suc i) l) ↔ ((suc i ≤ k) × (k < suc i + length l)) → (i ≤ k) × (k < i + suc (length l)) → (k ≡ i) ⊎ In k (places (suc i) l)
    pick (yes e) r z = inl e
    pick (no e) r z = inr (r.1 (omega arith))

above_before : (m i : ℕ) (l : List ℕ) → m < i → right_above m (places i l) l ≡ []
unfolding places right_above
above_before m i [] h = refl
above_before m i (x ∷ l) h = rw (ne_eqb m i (λ e. omega arith)) (above_before m (suc i) l (omega arith))

above_place : (m i j : ℕ) (l : List ℕ) → m ≡ i + j → j < length l → right_above m (places i l) l ≡ get_or l j 0 ∷ []
unfolding places right_above
above_place m i j [] e h = absurd (omega arith)
above_place m i zero (x ∷ l) e h = rw (eq-eqb m i (omega arith), above_before m (suc i) l (omega arith))
above_place m i (suc j) (x ∷ l) e h = rw (ne_eqb m i (λ z. omega arith)) (above_place m (suc i) j l (omega arith) (omega arith))

-- the rows of the numbers from 1, and what stands right above each
abbrev pub lower : List ℕ → List ℕ → List ℕ
lower one two = places 1 (drop 1 one) ++ places 1 (drop 1 two)

abbrev pub upper : List ℕ → List ℕ → List ℕ
upper one two = drop 1 one ++ drop 1 two

pub in_lower : (one two : List ℕ) (k : ℕ) → Columns one two → In k (lower one two) ↔ ((0 < k) × (k < length one))
in_lower one two k p = (λ z. ⊎_elim (λ i. let y = (in_places k 1 (drop 1 one)).0 i in let d = length-drop 1 one in let s = p.some in omega arith) (λ i. let y = (in_places k 1 (drop 1 two)).0 i in let d = length-drop 1 two in let s = p.some in let a = p.alike in omega arith) (in_either k (places 1 (drop 1 one)) (places 1 (drop 1 two)) z), λ z. in_left k (places 1 (drop 1 one)) (places 1 (drop 1 two)) ((in_places k 1 (drop 1 one)).1 (let d = length-drop 1 one in omega arith)))

pub lower_upper : (one two : List ℕ) → length (lower one two) ≡ length (upper one two)
lower_upper one two = let a = length-append (places 1 (drop 1 one)) (places 1 (drop 1 two)) in let b = length-append (drop 1 one) (drop 1 two) in let c = places-length 1 (drop 1 one) in let d = places-length 1 (drop 1 two) in omega arith

pub above_number : (one two : List ℕ) (m : ℕ) → Columns one two → 0 < m → m < length one → right_above m (lower one two) (upper one two) ≡ get_or one m 0 ∷ (get_or two m 0 ∷ [])
above_number one two zero p h l = absurd (omega arith)
above_number one two (suc j) p h l =
    let d = length-drop 1 one in let e = length-drop 1 two in let a = p.alike in
    rw (above-append (suc j) (places 1 (drop 1 one)) (drop 1 one) (places 1 (drop 1 two)) (drop 1 two) (places-length 1 (drop 1 one)), above_place (suc j) 1 j (drop 1 one) (omega arith) (omega arith), above_place (suc j) 1 j (drop 1 two) (omega arith) (omega arith), get_or-drop 1 one j 0, get_or-drop 1 two j 0, add_one' j)
  where
    add_one' : (j : ℕ) → 1 + j ≡ suc j
    add_one' j = omega arith

-- the links are the relation
linked_over : (one two : List ℕ) (m n : ℕ) → Columns one two → Linked (lower one two) (upper one two) m n ↔ Over one two m n
linked_over one two m n p = (to, back)
  where
    to : Linked (lower one two) (upper one two) m n → Over one two m n
    to i = let r = (linked_above (lower one two) (upper one two) m n).0 i in let l = (in_lower one two n p).0 (linked_low (lower one two) (upper one two) m n i) in
        (r.0, l.1, ⊎_elim inl (λ z. ⊎_elim inr (λ y. absurd y) z) (rw (above_number one two n p l.0 l.1) at r.1))

    back : Over one two m n → Linked (lower one two) (upper one two) m n
    back (h, l, i) = pick n refl
      where
        pick : (k : ℕ) → n ≡ k → Linked (lower one two) (upper one two) m n
        pick zero e = absurd (⊎_elim (λ z. root (z ∙ ap (λ (x : ℕ). get_or one x 0) e ∙ p.root_one)) (λ z. root (z ∙ ap (λ (x : ℕ). get_or two x 0) e ∙ p.root_two)) i)
          where
            root : m ≡ 0 → ⊥
            root z = omega arith
        pick (suc k) e = (linked_above (lower one two) (upper one two) m n).1 (h, rw (above_number one two n p (omega arith) l) (⊎_elim inl (λ z. inr (inl z)) i))

pub acyclic_over : (one two : List ℕ) → Columns one two → NoCycle (lower one two) (upper one two) ↔ Acyclic one two
acyclic_over one two p = (λ f m c. f m (chain_map (λ x y. (linked_over one two x y p).1) c), λ f m c. f m (chain_map (λ x y. (linked_over one two x y p).0) c))
