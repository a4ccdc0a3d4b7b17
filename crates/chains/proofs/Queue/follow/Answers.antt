-- `follow` meets its contract: one goes from link to link through the drawer, and the links from the key are done with one by one.
use native.Mathlib.Omega.{arith}
use Rattle.chains.proofs.Walking.{room, step}
use Rattle.chains.proofs.Queue.follow.Goals as goal

pub meet-requires : goal.meet-requires
meet-requires c = room _ c.requires.filed _ _ c.loop-link.invariant

pub loop-link-preserved : goal.loop-link-preserved
loop-link-preserved c = (step _ c.requires.filed _ _ c.loop-link.invariant c.loop-link-test.true c.requires.from (omega arith) _ _ c.meet.ensures c.from-link-in-loop-link.result c.from-link-in-loop-link.ensures).1
