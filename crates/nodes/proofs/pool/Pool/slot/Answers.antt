use Rattle.nodes.specs.Pool.{state}
use Rattle.nodes.proofs.pool.Pool.slot.Goals as goal

pub returns : goal.returns
unfolding state
returns c = c.slot.ensures _
