use Rattle.nodes.proofs.Inserts.{step_open, step_same, step_tile}
use Rattle.nodes.proofs.pool.Pool.descend.Goals as goal

pub returns-in_default : goal.returns-in_default
returns-in_default c =
    let g = c.open_up.ensures in
    let p = step_open _ _ _ _ _ _ c.in_default.not-Tile g.answer g.turned in
    record { kept = g.kept; turned = p.1; answer = p.0 }

pub returns-then-stays-clause-turned : goal.returns-then-stays-clause-turned
returns-then-stays-clause-turned c = (step_same _ _ _ _ _ c.in-Tile.is c.stays.ensures c.if-stays.true).1

pub returns-then-stays-clause-answer : goal.returns-then-stays-clause-answer
returns-then-stays-clause-answer c = let a = c.args in (step_same _ _ a.x a.k _ c.in-Tile.is c.stays.ensures c.if-stays.true).0

pub returns-else-stays : goal.returns-else-stays
returns-else-stays c =
    let g = c.grow.ensures in
    let p = step_tile _ _ _ _ _ c.in-Tile.is c.stays.ensures c.if-stays.false g.answer g.turned in
    record { kept = g.kept; turned = p.1; answer = p.0 }
