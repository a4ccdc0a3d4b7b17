-- `take_sound` meets its contract: a key that stands nowhere is refused.
use Rattle.takeback.proofs.Answers.{key_absent}
use Rattle.takeback.proofs.take_sound.Goals as goal

pub returns-in-None : goal.returns-in-None
returns-in-None c = key_absent _ _ c.requires.0 c.requires.1 (rw c.in-None.is at c.in_ok-file_all.ensures) _
