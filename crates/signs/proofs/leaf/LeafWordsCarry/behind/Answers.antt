use mathlib.Core.Path.{◌∙◌}
use Rattle.signs.proofs.LeafRows.{behind_on, behind_off}
use Rattle.signs.proofs.leaf.LeafWordsCarry.behind.Goals as goal

pub returns-then-on : goal.returns-then-on
returns-then-on c = λ q g a e. c.far_like-here.ensures ∙ behind_on c.requires.1 c.on.ensures _ a g c.if-on.true

pub returns-else-on : goal.returns-else-on
returns-else-on c = λ q g a e. e ∙ behind_off c.requires.1 c.on.ensures _ a g c.if-on.false
