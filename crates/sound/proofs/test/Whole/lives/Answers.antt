use Rattle.sound.proofs.Checks.{live_cell}
use Rattle.sound.proofs.test.Whole.lives.Goals as goal

pub returns : goal.returns
returns c = live_cell _ _ _ _ _ _ c.requires c.tag.ensures
