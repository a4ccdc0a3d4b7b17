-- Laws of the climb: the rows before k have become the keys right above them.
use mathlib.Core.Path.{◌≡◌, ap, ◌∙◌}
use mathlib.Core.List.{List}
use Prim.Native.Nat.{ℕ, ◌+◌, ◌≤◌, ◌<◌}
use native.Mathlib.Decide.{ℕ_discrete}
use native.Mathlib.Omega.{arith}
use lib.ListN.{length, get_or, set}
use lib.Seq.{get_or-set_same, get_or-set_other}
use Rattle.causes.specs.Columns.{Below}
use Rattle.cycles.specs.declared.Pair.{Pair}
use Rattle.cycles.specs.Pair.{firsts, seconds}
use Rattle.cycles.proofs.Pairs.{nothing, firsts-length, seconds-length, first_at, second_at, firsts-set, seconds-set}
use Rattle.pairs.specs.Answer.{above}

-- the rows r₀ before j have become what is right above them, the others are as they were
abbrev pub Climbing : List ℕ → List ℕ → List ℕ → ℕ → Type 0
Climbing us r₀ r j = (k : ℕ) → k < length r₀ → ((k < j → get_or r k 0 ≡ above us (get_or r₀ k 0)) × (j ≤ k → get_or r k 0 ≡ get_or r₀ k 0))

climb_one : (us r₀ r : List ℕ) (j v : ℕ) → length r ≡ length r₀ → j < length r → v ≡ above us (get_or r j 0) → Climbing us r₀ r j → Climbing us r₀ (set r j v) (j + 1)
climb_one us r₀ r j v n h e c k l = pick (ℕ_discrete k j)
  where
    pick : Dec (k ≡ j) → (k < j + 1 → get_or (set r j v) k 0 ≡ above us (get_or r₀ k 0)) × (j + 1 ≤ k → get_or (set r j v) k 0 ≡ get_or r₀ k 0)
    pick (yes q) = (λ z. rw (q, get_or-set_same r j v 0 h) (e ∙ ap (above us) ((c j (omega arith)).1 (omega arith))), λ z. absurd (omega arith))
    pick (no q) = (λ z. get_or-set_other r j k v 0 q ∙ (c k l).0 (omega arith), λ z. get_or-set_other r j k v 0 q ∙ (c k l).1 (omega arith))

module _ (us : List ℕ) (r₀ r : List Pair) (j : ℕ) (n : length r ≡ length r₀) where
  -- the rows at the next place are in the column
  pub inside : j < length r₀ → Below (length us + 1) (firsts r₀) × Below (length us + 1) (seconds r₀) → Climbing us (firsts r₀) (firsts r) j → Climbing us (seconds r₀) (seconds r) j
      → ((get_or r j nothing).first < length us + 1) × ((get_or r j nothing).second < length us + 1)
  inside h b c d =
      let x : get_or (firsts r) j 0 < length us + 1 = rw ((c j (omega (arith, firsts-length r₀))).1 (omega arith)) (b.0 j (omega (arith, firsts-length r₀))) in
      let y : get_or (seconds r) j 0 < length us + 1 = rw ((d j (omega (arith, seconds-length r₀))).1 (omega arith)) (b.1 j (omega (arith, seconds-length r₀))) in
      (rw first_at at x, rw second_at at y)

  -- they become what is right above them
  pub climb_next : (p : Pair) → j < length r₀ → p.first ≡ above us (get_or r j nothing).first → p.second ≡ above us (get_or r j nothing).second
      → Climbing us (firsts r₀) (firsts r) j → Climbing us (seconds r₀) (seconds r) j → Climbing us (firsts r₀) (firsts (set r j p)) (j + 1) × Climbing us (seconds r₀) (seconds (set r j p)) (j + 1)
  climb_next p h e f c d = (
    rw firsts-set (climb_one us (firsts r₀) (firsts r) j p.first (omega (arith, firsts-length r₀, firsts-length r)) (omega (arith, firsts-length r)) (rw first_at e) c),
    rw seconds-set (climb_one us (seconds r₀) (seconds r) j p.second (omega (arith, seconds-length r₀, seconds-length r)) (omega (arith, seconds-length r)) (rw second_at f) d),
  )
