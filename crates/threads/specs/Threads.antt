-- The rows are threaded by their lower keys and counted for their upper keys.
use Rattle.std.specs.Prelude.{◌≡◌, List, [], true, false, ℕ, suc, ◌+◌, ◌≤◌, ◌<◌, length, get_or, set}
use Rattle.ccsk.specs.Term.{Key}
use Rattle.sound.specs.Sound.{Chain}
use Rattle.format.specs.Limits.{node_limit}
use Rattle.keyset.specs.Set.{member}
use Rattle.rank.specs.Rank.{rank}
use Rattle.filing.specs.declared.Cabinet.{Cabinet}
use Rattle.threads.specs.Rows.{Leads, owing, Last}

-- k is in the set
abbrev pub Held : List ℕ → Key → Type 0
Held marks k = member marks k ≡ true

-- A set of n keys, and links in the rows from 1 on. Links from keys of the set stay inside it, and no link leads back.
pub record Sortable (marks : List ℕ) (n links : ℕ) (us ls : List ℕ) : Type 0 where
  pub whole : length marks ≡ 8192
  pub count : n ≡ rank marks 65536
  pub few : n ≤ node_limit
  pub zero : member marks 0 ≡ false
  pub upper : length us ≡ suc node_limit
  pub lower : length ls ≡ suc node_limit
  pub last : links ≤ node_limit
  pub root : get_or us 0 0 ≡ 0
  pub rest : (i : ℕ) → links < i → get_or us i 0 ≡ 0
  pub closed : (k m : Key) → Held marks k → Leads us ls k m → Held marks m
  pub acyclic : (k : Key) → ¬ Chain (Leads us ls) k k

-- what stands in the columns of rows and of numbers before row i is threaded
pub record Threadable (marks : List ℕ) (x : Cabinet) (hs cs : List ℕ) (i : ℕ) : Type 0 where
  pub whole : length marks ≡ 8192
  pub heads : rank marks 65536 ≤ length hs
  pub counters : rank marks 65536 ≤ length cs
  pub few : rank marks 65536 < 65536
  pub row : i ≤ node_limit
  pub inside : Held marks (get_or x.upper i 0) → Held marks (get_or x.lower i 0)
  pub room : (r : ℕ) → get_or cs r 0 < 65535

-- the cabinet with the number u as the upper key of row i, and row h as the one before it
abbrev pub linked_on : Cabinet → ℕ → ℕ → ℕ → Cabinet
linked_on x i u h = record { upper = set x.upper i u; lower = x.lower; older = set x.older i h; latest = x.latest }

-- Row i is passed if its upper key is not in the set. Else its upper key becomes the number u, the counter of u grows by one, and the row is
-- the last that leads to the key with the number l.
pub data Threads (marks : List ℕ) (x : Cabinet) (hs cs : List ℕ) (i : ℕ) : Cabinet → List ℕ → List ℕ → Type 0 where
  passed : member marks (get_or x.upper i 0) ≡ false → Threads marks x hs cs i x hs cs
  threaded : (u l : ℕ) → Held marks (get_or x.upper i 0) → u ≡ rank marks (get_or x.upper i 0) → l ≡ rank marks (get_or x.lower i 0)
      → Threads marks x hs cs i (linked_on x i u (get_or hs l 0)) (set hs l i) (set cs u (get_or cs u 0 + 1))

-- Nothing is threaded: every head and every counter is 0, and there is room for all numbers.
pub record Ready (marks : List ℕ) (x : Cabinet) (hs cs : List ℕ) : Type 0 where
  pub older : length x.older ≡ length x.upper
  pub heads : rank marks 65536 ≤ length hs
  pub counters : rank marks 65536 ≤ length cs
  pub no_head : (r : ℕ) → get_or hs r 0 ≡ 0
  pub no_count : (r : ℕ) → get_or cs r 0 ≡ 0

-- The rows below `end` are threaded, which were those of the columns us and ls.
pub record Threaded (marks us ls : List ℕ) (end : ℕ) (x : Cabinet) (hs cs : List ℕ) : Type 0 where
  pub head : (k : Key) → Held marks k → Last (Held marks) us ls k end (get_or hs (rank marks k) 0)
  pub older : (k : Key) (i : ℕ) → Held marks k → i < end → get_or ls i 0 ≡ k → Held marks (get_or us i 0) → Last (Held marks) us ls k i (get_or x.older i 0)
  pub named : (i : ℕ) → i < end → Held marks (get_or us i 0) → get_or x.upper i 0 ≡ rank marks (get_or us i 0)
  pub rest : (i : ℕ) → end ≤ i → get_or x.upper i 0 ≡ get_or us i 0
  pub lower : x.lower ≡ ls
  pub counted : (k : Key) → Held marks k → get_or cs (rank marks k) 0 ≡ owing us ls k [] end
  pub small : (r : ℕ) → get_or cs r 0 ≤ end
  pub long_ups : length x.upper ≡ length us
  pub long_olds : length x.older ≡ length us
