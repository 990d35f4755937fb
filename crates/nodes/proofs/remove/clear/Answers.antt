use Rattle.nodes.proofs.Removes.{word_off}
use Rattle.nodes.proofs.remove.clear.Goals as goal

pub returns : goal.returns
returns c = word_off _ _ (c.type_inv.masks _).fits
