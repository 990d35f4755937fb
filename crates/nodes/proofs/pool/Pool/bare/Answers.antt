use Rattle.nodes.specs.Pool.{state}
use Rattle.nodes.proofs.pool.Pool.bare.Goals as goal

pub returns : goal.returns
unfolding state
returns c = c.bare.ensures _ _
