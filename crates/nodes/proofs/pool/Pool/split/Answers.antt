use Rattle.nodes.proofs.Removes.{split_other, split_no, split_tile}
use Rattle.nodes.proofs.pool.Pool.split.Goals as goal

pub returns-in_default-clause-turned : goal.returns-in_default-clause-turned
returns-in_default-clause-turned c = (split_other _ _ _ _ _ c.in_default.not-Tile c.go_on.ensures).1

pub returns-in_default-clause-answer : goal.returns-in_default-clause-answer
returns-in_default-clause-answer c = let a = c.args in (split_other _ a.x a.k _ _ c.in_default.not-Tile c.go_on.ensures).0

pub returns-then-finite_word : goal.returns-then-finite_word
returns-then-finite_word c =
    let g = c.grow.ensures in
    let p = split_tile _ _ _ _ c.in-Tile.is c.finite_word.ensures c.if-finite_word.true g.answer g.turned in
    record { kept = g.kept; turned = p.1; answer = p.0 }

pub returns-else-finite_word-clause-turned : goal.returns-else-finite_word-clause-turned
returns-else-finite_word-clause-turned c = (split_no _ _ _ _ c.in-Tile.is c.finite_word.ensures c.if-finite_word.false).1

pub returns-else-finite_word-clause-answer : goal.returns-else-finite_word-clause-answer
returns-else-finite_word-clause-answer c = let a = c.args in (split_no _ a.x a.k _ c.in-Tile.is c.finite_word.ensures c.if-finite_word.false).0
