-- `due_at` meets its contract: a cursor that stands before a node passes every test.
use Rattle.cursor.proofs.Promise.{idle_empty, idle_many, idle_number, idle_outside, due_head}
use Rattle.cursor.proofs.Cursor.due_at.Goals as goal
use Rattle.cursor.proofs.Cursor.due_at.Goals.{then-self-eq0-via-then-self-eq0, then-self-eq0-via-else-self-eq0+then-self-gt-DEPTH, then-self-eq0-via-else-self-eq0+else-self-gt-DEPTH+then-self-ge-NODES, then-self-eq0-via-else-self-eq0+else-self-gt-DEPTH+else-self-ge-NODES+then-bytes-self}

pub returns-then-self-eq0 : goal.returns-then-self-eq0
returns-then-self-eq0 c = elim c.then-self-eq0.branch [
  | then-self-eq0-via-then-self-eq0 w ↦ idle_empty c.args.bytes.now c.args.self.now w.if-self-eq0.true
  | then-self-eq0-via-else-self-eq0+then-self-gt-DEPTH w ↦ idle_many c.args.bytes.now c.args.self.now w.if-self-eq0.false w.if-self-gt-DEPTH.true
  | then-self-eq0-via-else-self-eq0+else-self-gt-DEPTH+then-self-ge-NODES w ↦ idle_number c.args.bytes.now c.args.self.now w.if-self-ge-NODES.true
  | then-self-eq0-via-else-self-eq0+else-self-gt-DEPTH+else-self-ge-NODES+then-bytes-self w ↦ idle_outside c.args.bytes.now c.args.self.now w.if-self-eq0.false w.if-bytes-self.true
]

pub returns : goal.returns
returns c = rw c.ok.ensures.value (due_head c.args.bytes.now c.args.self.now c.if-self-eq0.false c.node_at.result c.if-self-gt-DEPTH.false c.if-self-ge-NODES.false c.node_at.ensures)
