-- What the steps of the cycle test do to the counters and the queue.
use Rattle.std.specs.Prelude.{◌≡◌, List, ℕ, suc, ◌+◌, ◌≤◌, ◌<◌, length, get_or, set}
use Rattle.causes.specs.Links.{times}
use Rattle.cycles.specs.Graph.{Columns}
use Rattle.cycles.specs.Queue.{Queued}

-- each counter can grow by n
abbrev pub Room : ℕ → List ℕ → Type 0
Room n c = (m : ℕ) → m < length c → get_or c m 0 + n < 65536

-- each counter has grown by how often its number stands in the two columns
abbrev pub Counted : List ℕ → List ℕ → List ℕ → List ℕ → Type 0
Counted one two c c' = (m : ℕ) → get_or c' m 0 ≡ get_or c m 0 + times m one + times m two

-- The counter of u is one less; if it is 0 now, u stands at the end of the queue, which had the length t and now has the length r.
pub data Released (u : ℕ) (c q : List ℕ) (t : ℕ) : List ℕ → List ℕ → ℕ → Type 0 where
  fell : (v : ℕ) → get_or c u 0 ≡ suc v → 0 < v → Released u c q t (set c u v) q t
  free : (v : ℕ) → get_or c u 0 ≡ suc v → v ≡ 0 → Released u c q t (set c u v) (set q t u) (t + 1)

-- All is counted, the queue holds the t numbers that stand above none, and there is room in it for all.
pub record Ready (one two c q : List ℕ) (t : ℕ) : Type 0 where
  pub columns : Columns one two
  pub sized : length one ≤ length c
  pub room : length one ≤ length q
  pub tallied : (m : ℕ) → m < length one → get_or c m 0 ≡ times m one + times m two
  pub queued : Queued (length one) c q t
