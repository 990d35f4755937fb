use Rattle.nodes.proofs.Wipes.{shed_none, shed_by}
use Rattle.nodes.proofs.pool.Pool.shed.Goals as goal

pub returns-in_default-clause-turned : goal.returns-in_default-clause-turned
returns-in_default-clause-turned c = shed_none _ _ _ _ _ c.in_default.ensures

pub returns-clause-turned : goal.returns-clause-turned
returns-clause-turned c = shed_by _ _ _ _ _ c.in-Some.ensures c.empty.ensures.turned (simp c.empty.ensures.kept.n at c.release.ensures.turned)
