-- `list_answers` meets its contract: the wanted set is the complements of the label.
use Rattle.std.specs.Prelude.{◌≡◌, ℕ, Option, Some, None}
use Rattle.offers.proofs.Forms.{inside}
use Rattle.showing.proofs.Showing.{lists_none, lists_unasked, lists_same}
use Rattle.partners.proofs.Mates.{answers}
use Rattle.partners.proofs.list_answers.Goals as goal

pub shows_none-requires : goal.shows_none-requires
shows_none-requires c = inside c.requires.some_part

pub returns-in-None : goal.returns-in-None
returns-in-None c = lists_unasked (λ k w. let e : ◌≡◌ {A = Option ℕ} None (Some w.0) = rw c.in-None.is at w.1 in cc) c.requires.few

pub returns-then-not-shows_none : goal.returns-then-not-shows_none
returns-then-not-shows_none c = lists_same (answers c.in-Some.is c.only.ensures c.complements-want.ensures) c.list.ensures

pub returns-else-not-shows_none : goal.returns-else-not-shows_none
returns-else-not-shows_none c = lists_same (answers c.in-Some.is c.only.ensures c.complements-want.ensures) (lists_none _ (c.shows_none.ensures c.if-not-shows_none.false) c.requires.few)
