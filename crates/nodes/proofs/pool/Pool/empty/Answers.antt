use native.Mathlib.Omega.{arith}
use Rattle.nodes.proofs.Wipes.{empty_leaf}
use Rattle.nodes.proofs.pool.Pool.empty.Goals as goal

pub returns-else-level-gt0-clause-turned : goal.returns-else-level-gt0-clause-turned
returns-else-level-gt0-clause-turned c = empty_leaf _ _ _ (omega arith)
