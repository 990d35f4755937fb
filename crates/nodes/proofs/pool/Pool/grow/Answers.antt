use Rattle.nodes.proofs.Inserts.{grow_yes, grow_no}
use Rattle.nodes.proofs.pool.Pool.grow.Goals as goal

pub returns-then-ready-clause-turned : goal.returns-then-ready-clause-turned
returns-then-ready-clause-turned c = let t = c.attach.ensures in (grow_yes _ _ c.ready.ensures _ _ _ _ c.if-ready.true t.cell t.turned).1

pub returns-then-ready-clause-answer : goal.returns-then-ready-clause-answer
returns-then-ready-clause-answer c = let t = c.attach.ensures in (grow_yes _ _ c.ready.ensures _ _ _ _ c.if-ready.true t.cell t.turned).0

pub returns-else-ready-clause-turned : goal.returns-else-ready-clause-turned
returns-else-ready-clause-turned c = let a = c.args in (grow_no _ _ c.ready.ensures a.x a.k a.u a.active c.if-ready.false).1

pub returns-else-ready-clause-answer : goal.returns-else-ready-clause-answer
returns-else-ready-clause-answer c = let a = c.args in (grow_no _ _ c.ready.ensures a.x a.k a.u a.active c.if-ready.false).0
