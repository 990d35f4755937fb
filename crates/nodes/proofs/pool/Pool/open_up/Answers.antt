use Rattle.floats.specs.Value.{far_with}
use Rattle.nodes.proofs.Inserts.{open_branch, open_else}
use Rattle.nodes.proofs.pool.Pool.open_up.Goals as goal

pub returns-in_default : goal.returns-in_default
unfolding far_with
returns-in_default c =
    let g = c.grow.ensures in
    let p = open_else _ _ _ _ _ c.in_default.not-Branch c.far_word.ensures g.answer g.turned in
    record { kept = g.kept; turned = p.1; answer = p.0 }

pub returns-clause-turned : goal.returns-clause-turned
returns-clause-turned c = (open_branch _ _ _ _ c.in-Branch.is c.then_some.ensures).1

pub returns-clause-answer : goal.returns-clause-answer
returns-clause-answer c = let a = c.args in (open_branch _ a.x a.k _ c.in-Branch.is c.then_some.ensures).0
