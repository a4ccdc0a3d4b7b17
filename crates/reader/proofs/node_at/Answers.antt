-- `node_at` meets its contract: a prefix and a restriction have a function each, every other return is one law of Heads.
use mathlib.Core.Path.{refl, ap, sym, ◌∙◌}
use Rattle.reader.specs.Kind.{byte_of}
use Rattle.reader.proofs.Heads.{at_no_kind, at_no_body}
use Rattle.reader.proofs.node_at.Goals as goal

pub returns-then-byte-gt-RESTRICTION : goal.returns-then-byte-gt-RESTRICTION
returns-then-byte-gt-RESTRICTION c = (refl, at_no_kind c.args.s.now c.args.at _ refl c.if-byte-gt-RESTRICTION.true)

pub returns : goal.returns
returns c = rw c.children.ensures (
    at_no_body c.args.s.now c.args.at c.kind_at-kind.result (c.requires, c.kind_at-kind.ensures) (λ e. c.if-byte-eq-PREFIX.false (sym c.kind_at-kind.ensures ∙ ap byte_of e))
    (λ e. c.if-byte-eq-RESTRICTION.false (sym c.kind_at-kind.ensures ∙ ap byte_of e))
    )
