use Rattle.floats.specs.Value.{far_with}
use Rattle.nodes.proofs.Wipes.{middle_by}
use Rattle.nodes.proofs.pool.Pool.empty_middle.Goals as goal

pub returns-clause-turned : goal.returns-clause-turned
unfolding far_with
returns-clause-turned c = middle_by _ _ _ c.give_linked.ensures.turned c.far_word.ensures c.blank.ensures.turned
