-- `part_at` meets its contract: each return is one law of Passes along the reading of the record, and each call of itself has one level less.
use Rattle.std.proofs.lemmas.Result.{err_from_is_err_and}
use Rattle.std.proofs.Common.{true, false, ◌≡◌, ◌≢◌, ◌≤◌, ◌-◌, arith, rules}
use Rattle.format.specs.Limits.{node_limit}
use Rattle.reader.specs.declared.Kind.TheVariants.{Nil, Parallel}
use Rattle.reader.specs.Kind.{byte_of}
use Rattle.reader.proofs.KindBytes.{byte_once}
use Rattle.reader.proofs.Laws.{stops_first, stops_second}
use Rattle.passes.proofs.Passes.{sides, part_nil, part_prefix, part_restriction, part_two, few_left, near, next_near}
use Rattle.passes.proofs.Over.+part_at.Goals as goal

pub returns-then-eq : goal.returns-then-eq
returns-then-eq g t c = let a = c.args in let k : c.in_ok-head.head.kind ≡ Nil = search rules in
    part_nil (g.P.Pass.fits a.self.now.pass) a.self.now.s.now a.at a.deep a.left _ _ _ c.in_ok-head.ensures c.requires.0 (rw k) _ c.at_nil.ensures

pub returns-in_err-first : goal.returns-in_err-first
returns-in_err-first g t c = let a = c.args in let k : c.in_ok-head.head.kind ≢ Nil = search rules in
    let p = err_from_is_err_and c.from_residual-in_err-first.result c.from_residual-in_err-first.ensures.1 in
    rw (p.1, p.2) (stops_first a.self.now.s.now a.at a.deep a.left _ _ _ c.in_ok-head.ensures _ (λ z. k (byte_once _ Nil z)) c.in_err-first.ensures)

pub returns-in-Prefix : goal.returns-in-Prefix
returns-in-Prefix g t c = let a = c.args in
    part_prefix (g.P.Pass.fits a.self.now.pass) a.self.now.s.now a.at a.deep a.left _ _ _ c.in_ok-head.ensures c.requires.0 _ _ _ c.in_ok-first.ensures (rw c.in-Prefix.is) _ (rw c.key_of-key.ensures at c.at_prefix-part.ensures)

pub returns-in-Restriction : goal.returns-in-Restriction
returns-in-Restriction g t c = let a = c.args in
    part_restriction (g.P.Pass.fits a.self.now.pass) a.self.now.s.now a.at a.deep a.left _ _ _ c.in_ok-head.ensures c.requires.0 _ _ _ c.in_ok-first.ensures (rw c.in-Restriction.is) _ c.at_restriction-part.ensures

pub part_at-requires-in_default : goal.part_at-requires-in_default
part_at-requires-in_default g t c κs within = let a = c.args in let D = c.in_ok-head.ensures in let f = g.P.Pass.fits a.self.now.pass in
    let h : a.left - 1 ≤ node_limit = omega (arith, c.requires.0) in
    let n = near f a.self.now.s.now _ _ _ _ _ _ c.in_ok-first.ensures h (omega (arith, c.requires.1, D.nodes, next_near f a.self.now.s.now a.at a.deep a.left _ _ _ D c.requires.0)) in
    (omega (arith, c.decreases, D.levels), (within.0, (within.1, (rw c.from-rest.ensures (few_left f a.self.now.s.now _ _ _ _ _ _ c.in_ok-first.ensures h), rw (c.from-next.ensures, c.from-rest.ensures) n))))

pub returns-in_err-second-in_default : goal.returns-in_err-second-in_default
returns-in_err-second-in_default g t c = let a = c.args in let k : c.in_ok-head.head.kind ≢ Nil = search rules in let w = c.in_ok-first.ensures in
    let p = err_from_is_err_and c.from_residual-in_err-second-in_default.result c.from_residual-in_err-second-in_default.ensures.1 in
    rw (p.1, p.2) (stops_second a.self.now.s.now a.at a.deep a.left _ _ _ c.in_ok-head.ensures w.0 _ _ w.1 _ (sides _ k c.in_default.not-Prefix c.in_default.not-Restriction) (rw (c.from-next.ensures, c.from-rest.ensures) at c.in_err-second-in_default.ensures))

pub returns-in_ok-second-in_default : goal.returns-in_ok-second-in_default
returns-in_ok-second-in_default g t c = let a = c.args in let k : c.in_ok-head.head.kind ≢ Nil = search rules in
    let yes : c.eq-in_default.result ≡ true → byte_of c.in_ok-head.head.kind ≡ 3 = λ e. (let q : c.in_ok-head.head.kind ≡ Parallel = search (rules, e) in rw q) in
    let no : c.eq-in_default.result ≡ false → c.in_ok-head.head.kind ≢ Parallel = λ e. search (rules, e) in
    part_two (g.P.Pass.fits a.self.now.pass) a.self.now.s.now a.at a.deep a.left _ _ _ c.in_ok-head.ensures c.requires.0 _ _ _ c.in_ok-first.ensures _ _ _ (rw (c.from-next.ensures, c.from-rest.ensures) at c.in_ok-second-in_default.ensures) _ _
    (sides _ k c.in_default.not-Prefix c.in_default.not-Restriction) yes (λ e z. no e (byte_once _ Parallel z)) c.at_two-part.ensures
