-- A list of pairs as two columns: their length, what stands at a place, and a pair that is replaced.
use mathlib.Core.Path.{◌≡◌}
use mathlib.Core.List.{List}
use Prim.Native.Nat.{ℕ}
use lib.ListN.{length, get_or, set, get_or-map}
use Rattle.std.proofs.lemmas.List.{length-map, map-set}
use Rattle.cycles.specs.declared.Pair.{Pair}
use Rattle.cycles.specs.Pair.{firsts, seconds}

-- what is read outside
abbrev pub nothing : Pair
nothing = record { first = 0; second = 0 }

pub firsts-length : (l : List Pair) → length (firsts l) ≡ length l
firsts-length l = length-map l (λ (p : Pair). p.first)

pub seconds-length : (l : List Pair) → length (seconds l) ≡ length l
seconds-length l = length-map l (λ (p : Pair). p.second)

pub first_at : (l : List Pair) (i : ℕ) → get_or (firsts l) i 0 ≡ (get_or l i nothing).first
first_at l i = get_or-map (λ (p : Pair). p.first) l i nothing

pub second_at : (l : List Pair) (i : ℕ) → get_or (seconds l) i 0 ≡ (get_or l i nothing).second
second_at l i = get_or-map (λ (p : Pair). p.second) l i nothing

-- a pair is replaced
pub firsts-set : (l : List Pair) (i : ℕ) (p : Pair) → firsts (set l i p) ≡ set (firsts l) i p.first
firsts-set l i p = map-set (λ (p : Pair). p.first) l i p

pub seconds-set : (l : List Pair) (i : ℕ) (p : Pair) → seconds (set l i p) ≡ set (seconds l) i p.second
seconds-set l i p = map-set (λ (p : Pair). p.second) l i p
