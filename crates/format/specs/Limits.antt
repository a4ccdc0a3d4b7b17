-- The limits of a record (01, The record), each said once.
use Rattle.std.specs.Prelude.{ℕ}

-- at most so many nodes
abbrev pub node_limit : ℕ
node_limit = 4096

-- the root has depth 1, and no node is deeper than this
abbrev pub depth_limit : ℕ
depth_limit = 256
