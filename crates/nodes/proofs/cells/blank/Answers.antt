use Rattle.nodes.proofs.Changes.{cell_step}
use Rattle.nodes.proofs.cells.blank.Goals as goal

pub returns : goal.returns
returns c = λ book. cell_step _ _ _ _ _ book _ _ _ c.requires.1 c.fill.ensures c.paint.ensures
