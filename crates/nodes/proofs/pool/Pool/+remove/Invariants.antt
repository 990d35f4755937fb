use Rattle.nodes.proofs.pool.Pool.+remove.Given as goal

abbrev pub decreases-remove : goal.decreases-remove
decreases-remove l = l.level
