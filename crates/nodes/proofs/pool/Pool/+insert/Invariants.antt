use Rattle.nodes.proofs.pool.Pool.+insert.Given as goal

abbrev pub decreases-insert : goal.decreases-insert
decreases-insert l = l.level
