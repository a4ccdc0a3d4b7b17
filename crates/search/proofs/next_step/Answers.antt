-- `next_step` meets its contract: no step is left behind the present places, and the first that the marks and partners tell is the answer.
use mathlib.Core.Path.{refl, ◌∙◌}
use native.Mathlib.Omega.{arith}
use Rattle.partners.proofs.Ways.{way_start, way_later}
use Rattle.search.proofs.Places.{covers_none, whole, alone_found, mute}
use Rattle.search.proofs.Reached.{reached_start, reached_skip, reached_past, reached_found, reached_none, mate_found}
use Rattle.search.proofs.next_step.Goals as goal
use Rattle.search.proofs.next_step.Goals.{then-wanted+else-loop-mate-test, then-from-eq0+in_default, else-from-eq0, else-wanted}

pub search-init : goal.search-init
search-init c = record {
  way = way_start (c.requires.0, whole c.requires.1) c.new-way.ensures;
  none = refl;
  reached = λ t Y. rw (c.from-i.ensures, c.from-from.ensures) (reached_start t c.args.p.0 c.args.q.0);
}

pub lead-requires : goal.lead-requires
lead-requires c = c.search.invariant.way

pub returns-in-Some : goal.returns-in-Some
returns-in-Some c = λ t Y. reached_found (rw c.if-from-eq0.true at (c.search.invariant.reached t Y)) (alone_found Y c.meet.ensures c.in-Some.is)

pub returns-then-from : goal.returns-then-from
returns-then-from c = λ t Y. mate_found Y (c.search.invariant.reached t Y)
    (elim c.if-from-eq0.branch [
      | then-from-eq0+in_default w ↦ λ e. mute Y w.meet.ensures w.in_default.is
      | else-from-eq0 w ↦ λ e. absurd (w.if-from-eq0.false e)
    ])
    c.meet-then-wanted.ensures (covers_none refl) refl c.nodes-partners.ensures.0 c.loop-mate.mate-index (omega (arith, c.loop-mate-test.true, c.nodes-partners.ensures.1)) (rw c.from.ensures at c.if-from.true) c.loop-mate.invariant.before

pub search-preserved : goal.search-preserved
search-preserved c = elim c.if-wanted.branch [
  | then-wanted+else-loop-mate-test w ↦ record {
    way = rw w.way'-is (way_later (omega arith) w.lead.ensures.way);
    none = w.first-is ∙ w.loop-mate.invariant.none;
    reached = λ t Y. reached_past Y (c.search.invariant.reached t Y)
        (elim w.if-from-eq0.branch [
          | then-from-eq0+in_default w' ↦ λ e. mute Y w'.meet.ensures w'.in_default.is
          | else-from-eq0 w' ↦ λ e. absurd (w'.if-from-eq0.false e)
        ])
        w.meet-then-wanted.ensures (covers_none refl) refl w.nodes-partners.ensures.0 (λ k h. w.loop-mate.invariant.before k (omega (arith, h, w.loop-mate-test.false, w.nodes-partners.ensures.1)));
  }
  | else-wanted w ↦ record {
    way = rw w.way'-is (way_later (omega arith) c.search.invariant.way);
    none = w.first-is ∙ c.search.invariant.none;
    reached = λ t Y. reached_skip Y (c.search.invariant.reached t Y) w.if-wanted.false;
  }
]

pub returns-after-search : goal.returns-after-search
returns-after-search c = λ t Y. rw c.search.invariant.none (reached_none Y (c.search.invariant.reached t Y) (omega (arith, c.search-test.false)))
