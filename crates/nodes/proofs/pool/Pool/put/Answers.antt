use Rattle.nodes.specs.Pool.{state}
use Rattle.nodes.proofs.States.{cells_of}
use Rattle.nodes.proofs.pool.Pool.put.Goals as goal

pub put-requires : goal.put-requires
put-requires c = (cells_of c.args.self.now.sized, c.requires)

pub returns-clause-turned : goal.returns-clause-turned
unfolding state
returns-clause-turned c = c.put.ensures _
