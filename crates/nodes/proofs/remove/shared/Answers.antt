use Rattle.nodes.proofs.Leaves.{shared_is}
use Rattle.nodes.proofs.remove.shared.Goals as goal

pub returns : goal.returns
returns c =
    let a = c.args in
    shared_is a.masks.now a.n a.i (c.type_inv.masks _).fits c.without.ensures
