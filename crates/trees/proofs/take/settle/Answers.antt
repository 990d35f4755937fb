use Rattle.trees.proofs.Takes.{settle_by}
use Rattle.trees.proofs.take.settle.Goals as goal

pub returns-clause-turned : goal.returns-clause-turned
returns-clause-turned c = settle_by _ _ _ _ _ c.shed.ensures.turned c.stays_with-inside.ensures c.far_word.ensures c.set_slot.ensures.turned
