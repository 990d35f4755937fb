use mathlib.Core.Path.{◌∙◌}
use Rattle.std.proofs.Common.{le-ltb}
use Rattle.sound.proofs.Checks.{stacked_out, stacked_in}
use Rattle.sound.proofs.test.Whole.stacked.Goals as goal

pub returns-then-c-self : goal.returns-then-c-self
returns-then-c-self c = stacked_in _ _ _ _ _ _ c.requires c.stacked-c.ensures c.if-c-self.true _ c.tag.ensures

pub returns-else-c-self : goal.returns-else-c-self
returns-else-c-self c = le-ltb _ _ c.if-c-self.false ∙ stacked_out _ _ _ _ _ _ c.requires c.stacked-c.ensures c.if-c-self.false
