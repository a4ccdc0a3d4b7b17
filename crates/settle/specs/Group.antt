-- What is known of each key at its rank: how often it stands, and what its lasts are so far.
use Rattle.std.specs.Prelude.{◌≡◌, List, [], ◌∷◌, ◌++◌, Bool, true, false, ℕ, zero, suc, ◌<◌, eqb, get_or}
use Rattle.ccsk.specs.Numbers.{In}
use Rattle.ccsk.specs.Term.{Key, Co}
use Rattle.format.specs.Limits.{node_limit}
use Rattle.keyset.specs.Set.{member}
use Rattle.rank.specs.Rank.{one_more, rank}
use Rattle.lasts.specs.declared.Last.{Last}
use Rattle.lasts.specs.Last.{only, Ready}
use Rattle.settle.specs.declared.State.{State}
use Rattle.settle.specs.declared.State.TheVariants.{Unseen, Once, Twice, Never, Half}
use Rattle.settle.specs.declared.State.TheVariants as state

-- the last in row i
abbrev pub no_last : Last
no_last = record { key = 0; action = 0; scope = 0 }

abbrev pub last_at : List Last → ℕ → Last
last_at rows i = get_or rows i no_last

-- every key of the list has 16 bits
abbrev pub Small : List Key → Type 0
Small x = (k : Key) → In k x → k < 65536

-- how often k stands in the list
unfoldable pub times : Key → List Key → ℕ
times k [] = 0
times k (a ∷ x) = one_more (eqb k a) (times k x)

-- the state of a key that stands so often, with no last yet
abbrev pub counted : ℕ → State
counted zero = Unseen
counted (suc zero) = Once
counted (suc (suc zero)) = Twice
counted (suc (suc (suc n))) = Never

-- and if it stands once more
abbrev pub bumped : State → State
bumped Unseen = Once
bumped Once = Twice
bumped Twice = Never
bumped Never = Never
bumped Half = Half
bumped state.Ready = state.Ready

-- each member's count stands at its rank
abbrev pub Counted : List ℕ → List Key → List State → Type 0
Counted s x states = (k : Key) → k < 65536 → member s k ≡ true → get_or states (rank s k) Unseen ≡ counted (times k x)

-- a key in this state can be undone
abbrev pub is_ready : State → Bool
is_ready Unseen = false
is_ready Once = false
is_ready Twice = false
is_ready Never = false
is_ready Half = false
is_ready state.Ready = true

-- the key of every last is in the set
abbrev pub AllIn : List ℕ → List Last → Type 0
AllIn s [] = Unit {0}
AllIn s (e ∷ x) = ((e.key < 65536) × (member s e.key ≡ true)) × AllIn s x

-- two lasts have complementary actions and one scope
abbrev pub Fit : Last → Last → Type 0
Fit e f = Co e.action f.action × (e.scope ≡ f.scope)

-- Of a key k that stands c times and has the lasts x so far, this is its state and its slot.
pub data Standing (rows : List Last) (k : Key) : ℕ → List Last → State → ℕ → Type 0 where
  once : {j : ℕ} → Standing rows k 1 [] Once j
  twice : {j : ℕ} → Standing rows k 2 [] Twice j
  never : {c j : ℕ} {x : List Last} → ((y : List Last) → ¬ Ready c (x ++ y)) → Standing rows k c x Never j
  half : {e : Last} {j : ℕ} → j < node_limit → last_at rows j ≡ e → Standing rows k 2 (e ∷ []) Half j
  ready : {c j : ℕ} {x : List Last} → Ready c x → j ≡ k → Standing rows k c x state.Ready j

-- so for each key of the set, at its rank
abbrev pub Settled : List ℕ → List Key → List Last → List Last → List State → List ℕ → Type 0
Settled s keys rows x states slots = (k : Key) → k < 65536 → member s k ≡ true → Standing rows k (times k keys) (only k x) (get_or states (rank s k) Unseen) (get_or slots (rank s k) 0)
