use Rattle.nodes.specs.Pool.{state}
use Rattle.nodes.proofs.pool.Pool.child.Goals as goal

pub returns : goal.returns
unfolding state
returns c = c.child.ensures _
