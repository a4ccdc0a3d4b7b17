-- `cause` meets its contract: each way through the code is one row, two rows or none, and the first test that fails decides.
use native.Mathlib.Omega.{arith}
use Rattle.shared.proofs.Labels.{tells_iff}
use Rattle.pairs.proofs.Lowest.{no_rows, lone_open, lone_hidden, pair_differs, pair_nested, pair_open, pair_hidden}
use Rattle.pairs.proofs.cause.Goals as goal

pub returns-then-rows-eq0 : goal.returns-then-rows-eq0
returns-then-rows-eq0 c = no_rows c.args.columns.now.actions.now c.args.columns.now.ends.now c.args.columns.now.scopes.now c.args.rows.first c.args.rows.second c.if-rows-eq0.true c.requires.placed.2

pub returns-then-scope-eq0 : goal.returns-then-scope-eq0
returns-then-scope-eq0 c = lone_open c.args.columns.now.actions.now c.args.columns.now.ends.now c.args.columns.now.scopes.now c.args.rows.first c.args.rows.second c.from-i.result c.from-i.ensures c.if-rows-eq0.false c.if-rows-eq0-2.true c.if-scope-eq0.true

pub returns-else-scope-eq0 : goal.returns-else-scope-eq0
returns-else-scope-eq0 c = lone_hidden c.args.columns.now.actions.now c.args.columns.now.ends.now c.args.columns.now.scopes.now c.args.rows.first c.args.rows.second c.from-i.result c.from-i.ensures c.if-rows-eq0.false c.if-rows-eq0-2.true c.if-scope-eq0.false

pub returns-then-not-complementary : goal.returns-then-not-complementary
returns-then-not-complementary c = pair_differs c.args.columns.now.actions.now c.args.columns.now.ends.now c.args.columns.now.scopes.now c.args.rows.first c.args.rows.second c.from-i.result c.from-i.ensures c.if-rows-eq0.false c.from-j.result c.from-j.ensures c.if-rows-eq0-2.false c.complementary.result (tells_iff _ c.complementary.ensures) c.if-not-complementary.true

pub returns-then-j-from : goal.returns-then-j-from
returns-then-j-from c = pair_nested c.args.columns.now.actions.now c.args.columns.now.ends.now c.args.columns.now.scopes.now c.args.rows.first c.args.rows.second c.from-i.result c.from-i.ensures c.if-rows-eq0.false c.from-j.result c.from-j.ensures c.if-rows-eq0-2.false c.complementary.result (tells_iff _ c.complementary.ensures) c.if-not-complementary.false c.from.result c.from.ensures (omega arith)

pub returns-then-scope-columns : goal.returns-then-scope-columns
returns-then-scope-columns c = pair_open c.args.columns.now.actions.now c.args.columns.now.ends.now c.args.columns.now.scopes.now c.args.rows.first c.args.rows.second c.from-i.result c.from-i.ensures c.if-rows-eq0.false c.from-j.result c.from-j.ensures c.if-rows-eq0-2.false c.complementary.result (tells_iff _ c.complementary.ensures) c.if-not-complementary.false c.from.result c.from.ensures (omega arith) c.if-scope-columns.true

pub returns-else-scope-columns : goal.returns-else-scope-columns
returns-else-scope-columns c = pair_hidden c.args.columns.now.actions.now c.args.columns.now.ends.now c.args.columns.now.scopes.now c.args.rows.first c.args.rows.second c.from-i.result c.from-i.ensures c.if-rows-eq0.false c.from-j.result c.from-j.ensures c.if-rows-eq0-2.false c.complementary.result (tells_iff _ c.complementary.ensures) c.if-not-complementary.false c.from.result c.from.ensures (omega arith) c.if-scope-columns.false
