use Rattle.floats.specs.Value.{far_with}
use Rattle.nodes.specs.Pool.{state}
use Rattle.trees.proofs.Takes.{take_by}
use Rattle.trees.proofs.take.take_child.Goals as goal

pub returns-clause-turned : goal.returns-clause-turned
unfolding far_with state
returns-clause-turned c = let a = c.args in take_by a.x a.y a.k _ c.word-c.ensures c.far_word.ensures (c.set_tag.ensures _ _) c.set_slot.ensures.turned c.set_slot-2.ensures.turned
