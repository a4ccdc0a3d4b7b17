-- The queue of the cycle test: the numbers whose counter is 0, each once, in the order in which they came.
use Rattle.std.specs.Prelude.{◌≡◌, ◌↔◌, List, [], ◌∷◌, ℕ, zero, suc, ◌<◌, get_or}
use Rattle.std.proofs.Math.Decide.{ℕ_discrete}
use Rattle.ccsk.specs.Numbers.{In}
use Rattle.causes.specs.Links.{one_when}

-- the first h numbers of a queue, the latest first
unfoldable pub taken : List ℕ → ℕ → List ℕ
taken q zero = []
taken q (suc h) = get_or q h 0 ∷ taken q h

-- how many of the first j counters are 0
unfoldable pub zeros : ℕ → List ℕ → ℕ
zeros zero c = 0
zeros (suc j) c = one_when (ℕ_discrete (get_or c j 0) 0) (zeros j c)

-- no number stands twice
abbrev pub Distinct : List ℕ → Type 0
Distinct [] = Unit {0}
Distinct (x ∷ l) = (¬ In x l) × Distinct l

-- The first t numbers of the queue q are those below j whose counter in c is 0, each once.
pub record Queued (j : ℕ) (c q : List ℕ) (t : ℕ) : Type 0 where
  pub counted : t ≡ zeros j c
  pub distinct : Distinct (taken q t)
  pub exact : (k : ℕ) → In k (taken q t) ↔ ((k < j) × (get_or c k 0 ≡ 0))
