-- What is shown after n steps from a walker that was just opened is node n of the record.
use Rattle.walker.proofs.Steps.{shown_after}
use Rattle.walker.proofs.node.Goals as goal

pub returns : goal.returns
returns c =
    let steps = rw c.open-walker.ensures.0 at c.onward.ensures.1 in
    let seen = rw (c.onward.ensures.0, c.open-walker.ensures.0) at c.show.ensures in
    shown_after c.args.bytes.now c.open-walker.result.cursor c.onward.new.self.cursor c.args.n.0 c.show.result steps seen c.open-walker.ensures.1
