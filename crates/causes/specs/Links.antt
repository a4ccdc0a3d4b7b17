-- The cycle test on two columns of numbers: the keys of a list of entries, and beside each the key right above it.
use Rattle.std.specs.Prelude.{◌≡◌, ◌⊎◌, List, [], ◌∷◌, ℕ, suc, ◌<◌, eqb}
use Rattle.std.proofs.Math.Decide.{ℕ_discrete}
use Rattle.ccsk.specs.Numbers.{in?}
use Rattle.ccsk.specs.Term.{Key, tick}
use Rattle.sound.specs.Sound.{Chain}
use Rattle.causes.specs.Entry.{Entry}

-- the column of keys, and the column of keys right above
unfoldable pub key_column : List Entry → List Key
key_column [] = []
key_column (e ∷ l) = e.key ∷ key_column l

unfoldable pub up_column : List Entry → List Key
up_column [] = []
up_column (e ∷ l) = e.up ∷ up_column l

-- m is a key, and stands beside n in the column of keys right above
abbrev pub Linked : List Key → List Key → Key → Key → Type 0
Linked [] us m n = ⊥
Linked (k ∷ ks) [] m n = ⊥
Linked (k ∷ ks) (u ∷ us) m n = ((0 < m) × (m ≡ u) × (n ≡ k)) ⊎ Linked ks us m n

-- going from a key to those right below it never leads back
abbrev pub NoCycle : List Key → List Key → Type 0
NoCycle ks us = (m : Key) → ¬ Chain (Linked ks us) m m

-- one more, if it holds
abbrev pub one_when : {A : Type 0} → Dec A → ℕ → ℕ
one_when (yes a) n = suc n
one_when (no a) n = n

-- one more, if the first holds and the second does not
abbrev pub one_if : {A B : Type 0} → Dec A → Dec B → ℕ → ℕ
one_if (yes a) (no b) n = suc n
one_if (yes a) (yes b) n = n
one_if (no a) d n = n

-- how often m stands in a column
unfoldable pub times : Key → List Key → ℕ
times m [] = 0
times m (k ∷ ks) = one_when (ℕ_discrete m k) (times m ks)

-- How many of those right below m hold a key that has not been taken out; o are the keys taken out.
unfoldable pub pending : Key → List Key → List Key → List Key → ℕ
pending m o [] us = 0
pending m o (k ∷ ks) [] = 0
pending m o (k ∷ ks) (u ∷ us) = one_if (ℕ_discrete m u) (in? k o) (pending m o ks us)

-- the keys right above m, from the left, 0 where there is none
unfoldable pub right_above : Key → List Key → List Key → List Key
right_above m [] us = []
right_above m (k ∷ ks) [] = []
right_above m (k ∷ ks) (u ∷ us) = tick (eqb m k) u (right_above m ks us)

-- every entry under new names for its keys
unfoldable pub renamed : (Key → Key) → List Entry → List Entry
renamed f [] = []
renamed f (e ∷ l) = record { key = f e.key; action = e.action; row = e.row; end = e.end; scope = e.scope; up = f e.up } ∷ renamed f l
