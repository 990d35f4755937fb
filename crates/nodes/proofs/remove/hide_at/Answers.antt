use Rattle.nodes.proofs.Removes.{hide_step}
use Rattle.nodes.proofs.remove.hide_at.Goals as goal

pub returns : goal.returns
returns c slots book x k m e = hide_step _ _ _ slots book m e c.set.ensures
