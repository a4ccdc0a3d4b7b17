-- What one step of writing leaves of a row, and what stands in it at the end.
use Rattle.std.specs.Prelude.{List, [], ◌∷◌, ◌++◌, Bool, true, false, ℕ, zero, suc, ◌<◌, get_or}
use Rattle.ccsk.specs.Numbers.{In, Lists}
use Rattle.ccsk.specs.Term.{Key}
use Rattle.lasts.specs.declared.Last.{Last}
use Rattle.lasts.specs.Last.{only, Ready}
use Rattle.operations.specs.Ask.{Filled}
use Rattle.settle.specs.declared.State.{State}
use Rattle.settle.specs.declared.State.TheVariants.{Unseen}
use Rattle.settle.specs.Group.{times, is_ready}

-- none is 0
abbrev pub Positive : List Key → Type 0
Positive x = (k : Key) → In k x → 0 < k

-- the key of every last is one of the list
abbrev pub AllAmong : List Key → List Last → Type 0
AllAmong x [] = Unit {0}
AllAmong x (e ∷ l) = In e.key x × AllAmong x l

abbrev pub when : Bool → ℕ → List ℕ
when true j = j ∷ []
when false j = []

-- the slots of the first r ranks whose keys are ready
unfoldable pub listed : List State → List ℕ → ℕ → List ℕ
listed states slots zero = []
listed states slots (suc r) = listed states slots r ++ when (is_ready (get_or states r Unseen)) (get_or slots r 0)

-- The keys that are ready, of a record with these keys and these lasts, are listed in the row.
pub data Lines (keys : List Key) (ls : List Last) (row : List ℕ) (r n : ℕ) (row' : List ℕ) : Type 0 where
  lines : {l : List Key} → Lists (λ k. Ready (times k keys) (only k ls)) l → Filled l row r n row' → Lines keys ls row r n row'
