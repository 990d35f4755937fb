use Rattle.std.proofs.Common.{rules}
use Rattle.sound.proofs.Chains.{all_below}
use Rattle.sound.proofs.test.Whole.all_cells.Goals as goal

pub returns : goal.returns
returns c = all_below _ _ _ c.requires.below c.requires.passed _ _ _ c.all.ensures.ran (λ x b q k. search rules)
