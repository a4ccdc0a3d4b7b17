-- What the steps of the order ask of each other. The keys that are to be taken out have numbers: their places in a list that ascends.
use Rattle.std.specs.Prelude.{◌≡◌, ◌⊎◌, ◌↔◌, List, [], ◌∷◌, ◌++◌, ℕ, suc, ◌+◌, ◌≤◌, ◌<◌, length, get_or, set, drop}
use Rattle.ccsk.specs.Numbers.{In}
use Rattle.ccsk.specs.Term.{Key}
use Rattle.sound.specs.Sound.{Chain}
use Rattle.format.specs.Limits.{node_limit}
use Rattle.least.specs.Board.{There, Board, Put}
use Rattle.threads.specs.Rows.{Leads, owing, between, Among, Under, Last}
use Rattle.filing.specs.declared.Cabinet.{Cabinet}
use Rattle.order.specs.declared.Numbered.{Numbered}
use Rattle.order.specs.declared.Going.{Going}
use Rattle.order.specs.Peels.{Peels}

-- n keys with numbers, in the list `keys`, and the rows between them. For each number the last row that leads to its key stands in `heads`,
-- for each row the one before it in `olds`, and in `ups` the number of its upper key.
pub record Scene (n : ℕ) (keys ups olds heads : List ℕ) : Type 0 where
  pub us : List ℕ
  pub ls : List ℕ
  pub rising : (r s : ℕ) → r < s → s < n → get_or keys r 0 < get_or keys s 0
  pub positive : (r : ℕ) → r < n → 0 < get_or keys r 0
  pub closed : (k m : Key) → Among n keys k → Leads us ls k m → Among n keys m
  pub acyclic : (k : Key) → ¬ Chain (Leads us ls) k k
  pub root : get_or us 0 0 ≡ 0
  pub head : (r : ℕ) → r < n → Last (Among n keys) us ls (get_or keys r 0) (length us) (get_or heads r 0)
  pub older : (r i : ℕ) → r < n → Under (Among n keys) us ls (get_or keys r 0) i → Last (Among n keys) us ls (get_or keys r 0) i (get_or olds i 0)
  pub named : (r i : ℕ) → r < n → get_or us i 0 ≡ get_or keys r 0 → get_or ups i 0 ≡ r
  pub few : n ≤ node_limit
  pub rows : length us ≡ suc node_limit

-- The keys of `out` are taken out. A counter says how many rows lead from its key to one that is not out, and in the tree stand the
-- numbers of the keys that are free.
pub record State {n : ℕ} {keys ups olds heads : List ℕ} (c : Scene n keys ups olds heads) (out : List Key) (counts tree : List ℕ) : Type 0 where
  pub counted : (r : ℕ) → r < n → get_or counts r 0 ≡ owing c.us c.ls (get_or keys r 0) out (length c.us)
  pub board : Board n tree
  pub free : (r : ℕ) → r < n → There n tree r ↔ ((get_or counts r 0 ≡ 0) × (¬ In (get_or keys r 0) out))
  pub inside : (k : Key) → In k out → Among n keys k
  pub done : (k m : Key) → In k out → Leads c.us c.ls k m → In m out
  pub long : n ≤ length counts

-- The key with the number r has been taken out too, and what stands right above it is still to be released, from row i backwards.
pub record Taken {n : ℕ} {keys ups olds heads : List ℕ} (c : Scene n keys ups olds heads) (out : List Key) (r i : ℕ) (counts tree : List ℕ) : Type 0 where
  pub number : r < n
  pub here : (i ≡ 0) ⊎ Under (Among n keys) c.us c.ls (get_or keys r 0) i
  pub low : i < length c.us
  pub new : ¬ In (get_or keys r 0) out
  pub ready : (m : Key) → Leads c.us c.ls (get_or keys r 0) m → In m out
  pub counted : (q : ℕ) → q < n → get_or counts q 0 ≡ owing c.us c.ls (get_or keys q 0) (get_or keys r 0 ∷ out) (length c.us) + between c.us c.ls (get_or keys q 0) (get_or keys r 0) (suc i)
  pub board : Board n tree
  pub free : (q : ℕ) → q < n → There n tree q ↔ ((get_or counts q 0 ≡ 0) × (¬ In (get_or keys q 0) (get_or keys r 0 ∷ out)))
  pub inside : (k : Key) → In k out → Among n keys k
  pub done : (k m : Key) → In k out → Leads c.us c.ls k m → In m out
  pub long : n ≤ length counts

-- One less for the counter of u; if it is 0 then, u comes into the tree.
pub data Released (n u : ℕ) (counts tree : List ℕ) : List ℕ → List ℕ → Type 0 where
  fell : (v : ℕ) → get_or counts u 0 ≡ suc v → 0 < v → Released n u counts tree (set counts u v) tree
  came : {tree' : List ℕ} (v : ℕ) → get_or counts u 0 ≡ suc v → v ≡ 0 → Put n u tree tree' → Released n u counts tree (set counts u v) tree'

-- some scene, with a key taken out whose release has not begun
abbrev pub Releasable : Cabinet → Numbered → ℕ → Going → Type 0
Releasable x k r l = (c : Scene l.free.n k.keys x.upper x.older k.heads) × (out : List Key) × Taken c out r (get_or k.heads r 0) l.counters l.free.tree

-- In every scene: what stands right above the key was released.
pub record Releases (x : Cabinet) (k : Numbered) (r : ℕ) (l l' : Going) : Type 0 where
  pub many : l'.free.n ≡ l.free.n
  pub released : (c : Scene l.free.n k.keys x.upper x.older k.heads) (out : List Key) → Taken c out r (get_or k.heads r 0) l.counters l.free.tree
      → State c (get_or k.keys r 0 ∷ out) l'.counters l'.free.tree

-- the keys with numbers, in the order in which they are taken out, stand at the front of the row
pub record InOrder (n : ℕ) (keys us ls row row' : List ℕ) : Type 0 where
  pub order : List Key
  pub peels : Peels (Leads us ls) (Among n keys) [] order
  pub count : length order ≡ n
  pub front : row' ≡ order ++ drop n row

-- some scene from which nothing is taken out yet
abbrev pub Peelable : Cabinet → Numbered → Going → Type 0
Peelable x k l = (c : Scene l.free.n k.keys x.upper x.older k.heads) × State c [] l.counters l.free.tree

-- In every such scene: the keys are taken out in order.
abbrev pub PeelsAll : Cabinet → Numbered → Going → List ℕ → List ℕ → Type 0
PeelsAll x k l row row' =
    (c : Scene l.free.n k.keys x.upper x.older k.heads) → State c [] l.counters l.free.tree → InOrder l.free.n k.keys c.us c.ls row row'
