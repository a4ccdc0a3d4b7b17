-- What is wrong with the entries of one key, and with those of any key: the conditions 4, 5 and 6 (01, Soundness).
use Rattle.std.specs.Prelude.{◌≡◌, List, [], ◌∷◌, ◌++◌, ℕ, ◌≤◌, ◌<◌, length, get_or, Option, Some, None}
use Rattle.causes.specs.Entry.{Entry}
use Rattle.causes.specs.Tests.{Complements, Beside, Enclosed}
use Rattle.pairs.specs.declared.Columns.{Columns}
use Rattle.pairs.specs.declared.Condition.{Condition}
use Rattle.pairs.specs.declared.Condition.TheVariants.{Complementary, Apart, Hidden}
use Rattle.pairs.specs.Rows.{row}

-- c is the lowest of the three conditions that fails, and none does where there is none
abbrev pub Lowest : Type 0 → Type 0 → Type 0 → Option Condition → Type 0
Lowest A₄ A₅ A₆ None = A₄ × A₅ × A₆
Lowest A₄ A₅ A₆ (Some Complementary) = ¬ A₄
Lowest A₄ A₅ A₆ (Some Apart) = A₄ × ¬ A₅
Lowest A₄ A₅ A₆ (Some Hidden) = A₄ × A₅ × ¬ A₆
Lowest A₄ A₅ A₆ (Some _) = ⊥

-- what the three conditions look at in the rows of one key
unfoldable pub spots : List ℕ → List ℕ → List ℕ → List ℕ → List Entry
spots acs es ss [] = []
spots acs es ss (r ∷ l) = record { key = 0; action = get_or acs r 0; row = r; end = get_or es r 0; scope = get_or ss r 0; up = 0 } ∷ spots acs es ss l

-- the rows of the number k
abbrev pub of : List ℕ → List ℕ → ℕ → List ℕ
of first second k = row (get_or first k 0) ++ row (get_or second k 0)

-- the lowest condition that fails in the rows a and b, each one higher
abbrev pub CauseAt : List ℕ → List ℕ → List ℕ → ℕ → ℕ → Option Condition → Type 0
CauseAt acs es ss a b c = let x = spots acs es ss (row a ++ row b) in Lowest (Complements x) (Beside x) (Enclosed x) c

-- something holds of the rows of each number below j
abbrev pub EachBelow : ℕ → (List Entry → Type 0) → List ℕ → List ℕ → List ℕ → List ℕ → List ℕ → Type 0
EachBelow j P acs es ss first second = (k : ℕ) → k < j → P (spots acs es ss (of first second k))

-- the lowest condition that fails in the rows of some number below j
abbrev pub CauseBelow : ℕ → List ℕ → List ℕ → List ℕ → List ℕ → List ℕ → Option Condition → Type 0
CauseBelow j acs es ss first second c =
    Lowest (EachBelow j Complements acs es ss first second) (EachBelow j Beside acs es ss first second) (EachBelow j Enclosed acs es ss first second) c

-- as many ends and scopes as actions
abbrev pub Alike : Columns → Type 0
Alike x = (length x.ends.now ≡ length x.actions.now) × (length x.scopes.now ≡ length x.actions.now)

-- both numbers are at most n, and the second is 0 if the first is
abbrev pub Placed : ℕ → ℕ → ℕ → Type 0
Placed n a b = (a ≤ n) × (b ≤ n) × (a ≡ 0 → b ≡ 0)

-- and so for each number
pub record EachPlaced (n : ℕ) (first second : List ℕ) : Type 0 where
  pub alike : length second ≡ length first
  pub placed : (k : ℕ) → k < length first → Placed n (get_or first k 0) (get_or second k 0)
