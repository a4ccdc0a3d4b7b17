-- What filing the links of a record comes to, and what the helpers do on the way.
use Rattle.std.specs.Prelude.{◌≡◌, ◌↔◌, List, ◌∷◌, Bool, true, false, ℕ, zero, suc, ◌+◌, ◌-◌, ◌≤◌, ◌<◌, length, get_or, Result, Ok, Err, Option, Some, None}
use Rattle.ccsk.specs.Term.{Term, Key, Has, Fsh}
use Rattle.causes.specs.Nearest.{RightAbove}
use Rattle.format.specs.Limits.{node_limit}
use Rattle.format.specs.Read.{Refuses}
use Rattle.reader.specs.Due.{stacked, push}
use Rattle.keys.specs.Gather.{RecordOf}
use Rattle.shared.specs.declared.Refusal.{Refusal}
use Rattle.shared.specs.Refusal.{number}
use Rattle.filing.specs.declared.Cabinet.{Cabinet}
use Rattle.filing.specs.Cabinet.{Link, Filed}

-- the key right above what stands below a node that holds k, where u is the key right above that node
abbrev pub below : Key → Key → Key
below u zero = u
below u (suc k) = suc k

-- The top of a stack of n gives way to v, c times: there are r then.
pub record Pushed (a : List ℕ) (n : ℕ) (v : Key) (c : ℕ) (a' : List ℕ) (r : ℕ) : Type 0 where
  pub long : length a' ≡ length a
  pub high : r ≡ n - 1 + c
  pub stack : (u : Key) (us : List Key) → stacked n a ≡ u ∷ us → stacked r a' ≡ push c v us

-- the links of the record, and no others, are filed
abbrev pub AllFiled : List ℕ → Cabinet → Type 0
AllFiled s x = Filed x × ((t : Term) × RecordOf s t × ((m n : Key) → Link x m n ↔ RightAbove 0 t m n))

-- whether the key m stands in the record
abbrev pub Stands : List ℕ → Key → Bool → Type 0
Stands s m true = (t : Term) × RecordOf s t × Has m t
Stands s m false = (t : Term) × RecordOf s t × Fsh m t

-- there are n links, with the numbers from 1 on
abbrev pub FiledUpTo : Cabinet → ℕ → Type 0
FiledUpTo x n = (n ≤ node_limit) × ((i : ℕ) → n < i → get_or x.upper i 0 ≡ 0)

-- what `file_all` answers for the key m: the bytes are refused, m does not stand in the record, or it does and all n links are filed
abbrev pub FilesAll : List ℕ → Key → Cabinet → Result (Option ℕ) Refusal → Type 0
FilesAll s m x (Err r) = Refuses s (number r)
FilesAll s m x (Ok None) = Stands s m false
FilesAll s m x (Ok (Some n)) = Stands s m true × AllFiled s x × FiledUpTo x n
