-- Following filed links from a key m, from one key to the next: a set of the keys that were reached, and a queue of them.
use Rattle.std.specs.Prelude.{◌≡◌, ◌⊎◌, ◌≢◌, ◌↔◌, List, true, ℕ, suc, ◌+◌, ◌≤◌, ◌<◌, length, get_or, set}
use Rattle.ccsk.specs.Numbers.{In, distinct}
use Rattle.ccsk.specs.Term.{Key}
use Rattle.sound.specs.Sound.{Chain}
use Rattle.format.specs.Limits.{node_limit}
use Rattle.keyset.specs.Set.{member, Added}
use Rattle.keys.specs.Gather.{Holds}
use Rattle.filing.specs.declared.Cabinet.{Cabinet}
use Rattle.filing.specs.Cabinet.{Link}
use Rattle.chains.specs.declared.Queue.{Queue}

-- a chain of links leads from m to another key n
abbrev pub LeadsTo : Cabinet → Key → Key → Type 0
LeadsTo x m n = (n ≢ m) × Chain (Link x) m n

-- A link from u down to k is looked at while the links from `from` are followed. If it is one of those, and k is not m, k goes into the set,
-- and to the end of the queue if it was not in the set.
pub data Meets (u k from m : Key) (s : List ℕ) (q : Queue) : List ℕ → Queue → Type 0 where
  other : u ≢ from → Meets u k from m s q s q
  asked : k ≡ m → Meets u k from m s q s q
  meets : {s' : List ℕ} {n : ℕ} → u ≡ from → k ≢ m → Added s k s' n → Meets u k from m s q s' (record { keys = set q.keys q.many k; many = q.many + n })

-- The keys of the set stand in the queue, each once, and a chain leads to each of them from m; m is none of them.
pub record Reached (x : Cabinet) (m : Key) (s : List ℕ) (q : Queue) : Type 0 where
  pub keys : List Key
  pub holds : Holds s keys
  pub count : q.many ≡ distinct keys
  pub small : (k : Key) → In k keys → k < 65536
  pub led : (k : Key) → In k keys → LeadsTo x m k
  pub found : (k : Key) → In k keys → (i : ℕ) × (i < q.many) × (get_or q.keys i 0 ≡ k)
  pub queued : (i : ℕ) → i < q.many → In (get_or q.keys i 0) keys
  pub sized : length q.keys ≡ suc node_limit

-- m itself, or a key that a chain leads to from m
abbrev pub From : Cabinet → Key → Key → Type 0
From x m k = (k ≡ m) ⊎ Chain (Link x) m k

-- whatever a link from k leads to is in the set, or is m
abbrev pub Followed : Cabinet → Key → List ℕ → Key → Type 0
Followed x m marks k = (n : Key) → Link x k n → (n ≡ m) ⊎ (member marks n ≡ true)

-- all keys of one set are in the other
abbrev pub Within : List ℕ → List ℕ → Type 0
Within marks marks' = (k : Key) → member marks k ≡ true → member marks' k ≡ true

-- The links from k were followed: the set and the queue have only grown.
pub record Follows (x : Cabinet) (m k : Key) (s : List ℕ) (q : Queue) (s' : List ℕ) (q' : Queue) : Type 0 where
  pub reached : Reached x m s' q'
  pub followed : Followed x m s' k
  pub grown : Within s s'
  pub kept : (i : ℕ) → i < q.many → get_or q'.keys i 0 ≡ get_or q.keys i 0
  pub longer : q.many ≤ q'.many

-- The set holds exactly the keys other than m that a chain leads to from m, and they are n.
pub record Closed (x : Cabinet) (m : Key) (marks : List ℕ) (n : ℕ) : Type 0 where
  pub keys : List Key
  pub holds : Holds marks keys
  pub small : (k : Key) → In k keys → k < 65536
  pub count : n ≡ distinct keys
  pub exact : (k : Key) → In k keys ↔ LeadsTo x m k
