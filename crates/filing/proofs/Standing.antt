-- Telling whether a key was met, node by node.
use mathlib.Core.Path.{◌≡◌, sym}
use mathlib.Core.Logic.{inl, inr, ⊎_elim}
use mathlib.Core.List.{List, [], ◌++◌}
use mathlib.Core.Bool.{Bool, true, false, ◌||◌}
use lib.Dec.{eqb}
use borrow.Author.Tests.{eq-eqb, ne_eqb}
use Prim.Native.Nat.{ℕ, zero, suc, ◌<◌}
use native.Mathlib.Decide.{ℕ_discrete}
use native.Mathlib.Omega.{arith}
use Rattle.ccsk.specs.Numbers.{In}
use Rattle.ccsk.specs.Term.{Term, Key, keys, done}
use Rattle.ccsk.proofs.Lists.{in_left, in_right, in_either}
use Rattle.ccsk.proofs.Keys.{has_in, in_has}
use Rattle.keys.specs.Gather.{RecordOf}
use Rattle.filing.specs.Record.{Stands}

-- whether m stands in the list
abbrev pub Tells : Key → List Key → Bool → Type 0
Tells m l true = In m l
Tells m l false = ¬ In m l

-- a key above 0 stands in the list of itself alone
in_done : (m k : Key) → 0 < m → k ≡ m → In m (done k [])
in_done m zero h e = absurd (omega arith)
in_done m (suc k) h e = inl (sym e)

done_in : (m k : Key) → In m (done k []) → k ≡ m
done_in m zero i = absurd i
done_in m (suc k) (inl e) = sym e
done_in m (suc k) (inr i) = absurd i

-- one node more
pub tells_more : (m k : Key) (l : List Key) (met : Bool) → 0 < m → Tells m l met → Tells m (l ++ done k []) (met || eqb k m)
tells_more m k l true p i = in_left m l (done k []) i
tells_more m k l false p f = pick (ℕ_discrete k m)
  where
    pick : Dec (k ≡ m) → Tells m (l ++ done k []) (eqb k m)
    pick (yes e) = rw (eq-eqb k m e) (in_right m l (done k []) (in_done m k p e))
    pick (no e) = rw (ne_eqb k m e) (λ i. ⊎_elim f (λ j. e (done_in m k j)) (in_either m l (done k []) i))

-- told of all keys of a record
pub stands : (s : List ℕ) (m : Key) (t : Term) → RecordOf s t → 0 < m → (met : Bool) → Tells m (keys t) met → Stands s m met
stands s m t R p true i = (t, R, (in_has m t i).1)
stands s m t R p false f = (t, R, λ w. f (has_in m t p w))
