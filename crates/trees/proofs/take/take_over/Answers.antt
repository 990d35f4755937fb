use native.Mathlib.Omega.{arith}
use Rattle.nodes.proofs.Paths.{stands_below}
use Rattle.trees.proofs.Takes.{take_flipped, take_plain}
use Rattle.trees.proofs.take.take_over.Goals as goal

pub overflow_sub-level : goal.overflow_sub-level
overflow_sub-level c = omega (arith, c.requires.1)

pub overflow_add-c : goal.overflow_add-c
overflow_add-c c = omega (arith, c.word-c.ensures, c.requires.4, c.args.pool.now.sized.most)

pub turn-requires : goal.turn-requires
turn-requires c = let p = c.requires in rw c.take_child.ensures.kept.n (stands_below p.0 (λ e. omega (arith, p.1)) _ (omega (arith, c.word-c.ensures, p.4)))

pub returns-in-Subtract-clause-turned : goal.returns-in-Subtract-clause-turned
returns-in-Subtract-clause-turned c =
    let k = c.take_child.ensures in
    take_flipped _ _ _ _ _ _ _ c.word-c.ensures k.turned c.in-Subtract.is (simp k.kept.n at c.turn.ensures.turned)

pub returns-in_default-clause-turned : goal.returns-in_default-clause-turned
returns-in_default-clause-turned c = take_plain _ _ _ _ _ _ _ c.word-c.ensures c.take_child.ensures.turned c.args.join c.in_default.not-Subtract
