-- Taking out keys that lead to none that is left, each time the least.
use Rattle.std.specs.Prelude.{List, [], ◌∷◌, ◌≤◌}
use Rattle.ccsk.specs.Numbers.{In}
use Rattle.ccsk.specs.Term.{Key}

-- Of the keys S, k is not out yet, and links R from it lead only to keys that are.
pub record Free (R : Key → Key → Type 0) (S : Key → Type 0) (out : List Key) (k : Key) : Type 0 where
  pub among : S k
  pub inside : ¬ In k out
  pub ready : (n : Key) → R k n → In n out

-- k is the least such key
pub record FirstFree (R : Key → Key → Type 0) (S : Key → Type 0) (out : List Key) (k : Key) : Type 0 where
  pub free : Free R S out k
  pub least : (j : Key) → Free R S out j → k ≤ j

-- The keys ks are taken out one after the other, after those of `out`, each time the least that is free; in the end all of S are out.
pub data Peels (R : Key → Key → Type 0) (S : Key → Type 0) : List Key → List Key → Type 0 where
  end : {out : List Key} → ((k : Key) → S k → In k out) → Peels R S out []
  next : {out ks : List Key} {k : Key} → FirstFree R S out k → Peels R S (k ∷ out) ks → Peels R S out (k ∷ ks)
