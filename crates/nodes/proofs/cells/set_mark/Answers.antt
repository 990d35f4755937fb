use Rattle.nodes.proofs.Books.{mark_step}
use Rattle.nodes.proofs.cells.set_mark.Goals as goal

pub returns : goal.returns
returns c = λ n slots masks. mark_step n _ slots masks _ _ c.requires.0 c.requires.1
