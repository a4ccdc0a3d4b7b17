use mathlib.Core.Path.{◌≡◌}
use lib.ListN.{length, take}
use Rattle.format.specs.Limits.{node_limit}
use Rattle.noting.specs.Node.{noted_keys}
use Rattle.settle.specs.Group.{Settled}
use Rattle.settle.proofs.settle.Given as goal

abbrev pub invariant-loop-i : goal.invariant-loop-i
invariant-loop-i l = (l.notes.lasts ≡ l.initial.notes.lasts) × (length l.notes.lasts ≡ node_limit) × (length l.notes.keys ≡ node_limit) × (length l.states ≡ node_limit)
    × Settled l.ranking.set.now.bytes (noted_keys l.initial.notes) l.initial.notes.lasts (take l.i l.initial.notes.lasts) l.states l.notes.keys
    × (l.notes.last_count ≡ l.initial.notes.last_count) × (l.notes.key_count ≡ l.initial.notes.key_count) × (l.notes.scopes ≡ l.initial.notes.scopes)
