use Rattle.trees.specs.Combine.{join_o}
use Rattle.csg.proofs.Combines.{stands_x, in_x, in_y, value_stays, value_settles}
use Rattle.csg.proofs.combine.meet_value.Goals as goal

pub word-requires : goal.word-requires
word-requires c = let p = c.requires in in_y p.0 p.2

pub returns-then-negative_word-settled_by-clause-turned : goal.returns-then-negative_word-settled_by-clause-turned
returns-then-negative_word-settled_by-clause-turned c =
    value_stays (join_o c.args.join) _ _ _ _ _ _ c.word.ensures c.negative_word.ensures c.settled_by.ensures c.if-negative_word-settled_by.true

pub settle-requires : goal.settle-requires
settle-requires c = let p = c.requires in (stands_x p.0, in_x p.0 p.2, p.1)

pub returns-clause-turned : goal.returns-clause-turned
returns-clause-turned c =
    value_settles (join_o c.args.join) _ _ _ _ _ _ c.word.ensures c.negative_word.ensures c.settled_by.ensures c.if-negative_word-settled_by.false c.settle.ensures.turned
