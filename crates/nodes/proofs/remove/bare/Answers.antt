use mathlib.Core.Path.{◌∙◌}
use borrow.Author.Tests.{eq-eqb}
use Rattle.nodes.proofs.Removes.{kid_word, val_word, bare_no, bare_leaf, bare_fork}
use Rattle.nodes.proofs.remove.bare.Goals as goal

pub returns-then-level-eq0 : goal.returns-then-level-eq0
returns-then-level-eq0 c slots book =
    eq-eqb _ 0 c.if-level-eq0.true ∙ bare_leaf _ _ c.args.level (val_word slots _ book c.requires.1 c.clear.ensures) c.if-clear.true c.if-level-eq0.true

pub returns-else-level-eq0 : goal.returns-else-level-eq0
returns-else-level-eq0 c slots book = bare_fork _ _ c.args.level (val_word slots _ book c.requires.1 c.clear.ensures) c.if-clear.true c.if-level-eq0.false
    (kid_word slots _ book c.requires.1 c.clear-else-level-eq0.ensures)

pub returns-else-clear : goal.returns-else-clear
returns-else-clear c slots book = c.if-clear.false ∙ bare_no _ _ c.args.level (val_word slots _ book c.requires.1 c.clear.ensures) c.if-clear.false
