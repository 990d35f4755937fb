use native.Mathlib.Omega.{arith}
use Rattle.trees.proofs.Copies.{copy_leaf, copy_all}
use Rattle.trees.proofs.copy.copy.Goals as goal

pub returns-else-level-gt0-clause-turned : goal.returns-else-level-gt0-clause-turned
returns-else-level-gt0-clause-turned c = copy_leaf _ c.args.level _ _ _ c.size_in.ensures c.lay.ensures.turned (omega (arith, c.if-level-gt0.false))

pub returns-then-level-gt0-clause-turned : goal.returns-then-level-gt0-clause-turned
returns-then-level-gt0-clause-turned c = copy_all _ c.args.level _ _ _ c.size_in.ensures c.lay.ensures.turned (simp c.lay.ensures.kept.n at c.branches.ensures.turned)
