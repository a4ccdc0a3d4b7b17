-- `concoursel_node` meets its contract: a refusal of the reader, or what the walker shows of the record that was read.
use Rattle.concoursel.proofs.Nodes.{node_refused, node_shown}
use Rattle.concoursel.proofs.concoursel_node.Goals as goal

pub returns-in-Err : goal.returns-in-Err
returns-in-Err c = node_refused c.args.«record».now c.args.n _ _ c.in-Err.ensures (rw c.from.ensures at c.packed_refusal.ensures)

pub returns-in-Ok : goal.returns-in-Ok
returns-in-Ok c = node_shown c.args.«record».now c.args.n _ _ c.node.result c.in-Ok.ensures c.node.ensures c.packed_node.ensures
