-- `lay` meets its contract: each way out is one law of Children, and the bytes that are left grow fewer.
use mathlib.Core.Path.{refl, sym, ap, ◌∙◌}
use native.Mathlib.Omega.{arith}
use Rattle.reader.specs.declared.Kind.TheVariants.{Nil, Prefix, Restriction}
use Rattle.reader.specs.Kind.{byte_of}
use Rattle.lay.proofs.Children.{known, whole_node, key_inside, key_row, falls, below_ready, small, laid_nil, laid_unmarked, marked_ready, few, laid_marked, laid_restriction, second, second_falls, laid_two, two_sides}
use Rattle.lay.proofs.Sheet.+lay.Goals as goal

pub bounds-s-at : goal.bounds-s-at
bounds-s-at t c = (known c.args.s.now c.args.place.now c.requires).0

pub kind_at-requires : goal.kind_at-requires
kind_at-requires t c = known c.args.s.now c.args.place.now c.requires

pub key_at-key-requires : goal.key_at-key-requires
key_at-key-requires t c = ((whole_node c.args.s.now c.args.place.now c.requires Prefix (sym c.if-byte-eq-PREFIX.true)).0, λ e. key_inside c.args.s.now c.args.place.now c.requires Prefix (sym c.if-byte-eq-PREFIX.true) refl)

pub lay-requires : goal.lay-requires
lay-requires t c = (omega (arith, c.decreases, falls c.args.s.now c.args.place.now c.requires Prefix (sym c.if-byte-eq-PREFIX.true) c.enter.new.self c.enter.ensures), below_ready c.args.s.now c.args.place.now c.requires Prefix (sym c.if-byte-eq-PREFIX.true) c.enter.new.self c.enter.ensures (λ z. omega arith))

pub returns-then-key-eq0 : goal.returns-then-key-eq0
returns-then-key-eq0 t c = laid_unmarked c.args.s.now c.args.place.now c.requires Prefix (sym c.if-byte-eq-PREFIX.true) c.enter.new.self c.enter.ensures c.key_at-key.result refl c.key_at-key.ensures c.args.up c.args.self.now c.if-key-eq0.true c.lay.new.place c.lay.new.self c.lay.ensures

pub note-requires : goal.note-requires
note-requires t c = key_row c.args.s.now c.args.place.now c.requires Prefix (sym c.if-byte-eq-PREFIX.true) c.enter.new.self c.enter.ensures c.key_at-key.result refl c.key_at-key.ensures c.args.up c.args.self.now c.if-key-eq0.false

pub lay-requires-then-byte-eq-PREFIX : goal.lay-requires-then-byte-eq-PREFIX
lay-requires-then-byte-eq-PREFIX t c = (omega (arith, c.decreases, falls c.args.s.now c.args.place.now c.requires Prefix (sym c.if-byte-eq-PREFIX.true) c.enter.new.self c.enter.ensures), marked_ready c.args.s.now c.args.place.now c.requires Prefix (sym c.if-byte-eq-PREFIX.true) c.enter.new.self c.enter.ensures c.key_at-key.result refl c.key_at-key.ensures c.args.up c.args.self.now c.if-key-eq0.false)

pub overflow_cast-self : goal.overflow_cast-self
overflow_cast-self t c = omega (arith, few c.args.s.now c.args.place.now c.requires Prefix (sym c.if-byte-eq-PREFIX.true) c.enter.new.self c.enter.ensures c.key_at-key.result refl c.key_at-key.ensures c.args.up c.args.self.now c.if-key-eq0.false _ _ c.lay-then-byte-eq-PREFIX.new.place c.lay-then-byte-eq-PREFIX.new.self c.lay-then-byte-eq-PREFIX.ensures)

pub bounds-self-row : goal.bounds-self-row
bounds-self-row t c = key_row c.args.s.now c.args.place.now c.requires Prefix (sym c.if-byte-eq-PREFIX.true) c.enter.new.self c.enter.ensures c.key_at-key.result refl c.key_at-key.ensures c.args.up c.args.self.now c.if-key-eq0.false

pub bounds-s-at-then-byte-eq-RESTRICTION : goal.bounds-s-at-then-byte-eq-RESTRICTION
bounds-s-at-then-byte-eq-RESTRICTION t c = omega (arith, whole_node c.args.s.now c.args.place.now c.requires Restriction (sym c.if-byte-eq-RESTRICTION.true))

pub overflow_cast-self-then-byte-eq-RESTRICTION : goal.overflow_cast-self-then-byte-eq-RESTRICTION
overflow_cast-self-then-byte-eq-RESTRICTION t c = omega (arith, small c.args.s.now c.args.place.now c.requires Restriction (sym c.if-byte-eq-RESTRICTION.true) c.enter-then-byte-eq-RESTRICTION.new.self c.enter-then-byte-eq-RESTRICTION.ensures)

pub lay-requires-then-byte-eq-RESTRICTION : goal.lay-requires-then-byte-eq-RESTRICTION
lay-requires-then-byte-eq-RESTRICTION t c = (omega (arith, c.decreases, falls c.args.s.now c.args.place.now c.requires Restriction (sym c.if-byte-eq-RESTRICTION.true) c.enter-then-byte-eq-RESTRICTION.new.self c.enter-then-byte-eq-RESTRICTION.ensures), below_ready c.args.s.now c.args.place.now c.requires Restriction (sym c.if-byte-eq-RESTRICTION.true) c.enter-then-byte-eq-RESTRICTION.new.self c.enter-then-byte-eq-RESTRICTION.ensures (λ z. omega arith))

pub enter-requires-then-byte-eq-NIL : goal.enter-requires-then-byte-eq-NIL
enter-requires-then-byte-eq-NIL t c = omega (arith, whole_node c.args.s.now c.args.place.now c.requires Nil (sym c.if-byte-eq-NIL.true))

pub lay-requires-2 : goal.lay-requires-2
lay-requires-2 t c = (omega (arith, c.decreases, falls c.args.s.now c.args.place.now c.requires c.kind_at.result c.kind_at.ensures c.enter-2.new.self c.enter-2.ensures), below_ready c.args.s.now c.args.place.now c.requires c.kind_at.result c.kind_at.ensures c.enter-2.new.self c.enter-2.ensures (two_sides c.kind_at.result (λ e. c.if-byte-eq-NIL.false (sym c.kind_at.ensures ∙ ap byte_of e)) (λ e. c.if-byte-eq-PREFIX.false (sym c.kind_at.ensures ∙ ap byte_of e)) (λ e. c.if-byte-eq-RESTRICTION.false (sym c.kind_at.ensures ∙ ap byte_of e))).2)

pub lay-requires-3 : goal.lay-requires-3
lay-requires-3 t c = let h = (two_sides c.kind_at.result (λ e. c.if-byte-eq-NIL.false (sym c.kind_at.ensures ∙ ap byte_of e)) (λ e. c.if-byte-eq-PREFIX.false (sym c.kind_at.ensures ∙ ap byte_of e)) (λ e. c.if-byte-eq-RESTRICTION.false (sym c.kind_at.ensures ∙ ap byte_of e))) in (omega (arith, c.decreases, second_falls c.args.s.now c.args.place.now c.requires c.kind_at.result c.kind_at.ensures c.enter-2.new.self c.enter-2.ensures c.args.up c.args.self.now c.lay-2.new.place c.lay-2.new.self c.lay-2.ensures h.0 h.1 h.2), (second c.args.s.now c.args.place.now c.requires c.kind_at.result c.kind_at.ensures c.enter-2.new.self c.enter-2.ensures c.args.up c.args.self.now c.lay-2.new.place c.lay-2.new.self c.lay-2.ensures h.0 h.1 h.2).0)

pub returns-then-byte-eq-PREFIX : goal.returns-then-byte-eq-PREFIX
returns-then-byte-eq-PREFIX t c = laid_marked c.args.s.now c.args.place.now c.requires Prefix (sym c.if-byte-eq-PREFIX.true) c.enter.new.self c.enter.ensures c.key_at-key.result refl c.key_at-key.ensures c.args.up c.args.self.now c.if-key-eq0.false c.note.new.self c.note.ensures c.lay-then-byte-eq-PREFIX.new.place c.lay-then-byte-eq-PREFIX.new.self c.lay-then-byte-eq-PREFIX.ensures (record { keys = omega arith; actions = omega arith; ends = omega arith; scopes = omega arith; ups = omega arith; nearest = omega arith })

pub returns-then-byte-eq-RESTRICTION : goal.returns-then-byte-eq-RESTRICTION
returns-then-byte-eq-RESTRICTION t c = laid_restriction c.args.s.now c.args.place.now c.requires Restriction (sym c.if-byte-eq-RESTRICTION.true) c.enter-then-byte-eq-RESTRICTION.new.self c.enter-then-byte-eq-RESTRICTION.ensures refl c.args.up c.args.self.now (record { keys = omega arith; actions = omega arith; ends = omega arith; scopes = omega arith; ups = omega arith; nearest = omega arith }) c.slot-a.result c.slot-a.ensures c.lay-then-byte-eq-RESTRICTION.new.place c.lay-then-byte-eq-RESTRICTION.new.self c.lay-then-byte-eq-RESTRICTION.ensures

pub returns-then-byte-eq-NIL : goal.returns-then-byte-eq-NIL
returns-then-byte-eq-NIL t c = laid_nil c.args.s.now c.args.place.now c.requires Nil (sym c.if-byte-eq-NIL.true) c.enter-then-byte-eq-NIL.new.self c.enter-then-byte-eq-NIL.ensures refl c.args.up c.args.self.now

pub returns : goal.returns
returns t c = let h = (two_sides c.kind_at.result (λ e. c.if-byte-eq-NIL.false (sym c.kind_at.ensures ∙ ap byte_of e)) (λ e. c.if-byte-eq-PREFIX.false (sym c.kind_at.ensures ∙ ap byte_of e)) (λ e. c.if-byte-eq-RESTRICTION.false (sym c.kind_at.ensures ∙ ap byte_of e))) in laid_two c.args.s.now c.args.place.now c.requires c.kind_at.result c.kind_at.ensures c.enter-2.new.self c.enter-2.ensures c.args.up c.args.self.now c.lay-2.new.place c.lay-2.new.self c.lay-2.ensures h.0 h.1 h.2 c.lay-3.new.place c.lay-3.new.self c.lay-3.ensures
