use native.Mathlib.Omega.{arith}
use Rattle.nodes.proofs.Places.{placed}
use Rattle.trees.proofs.Slots.{word_step}
use Rattle.trees.proofs.slot.set_value.Goals as goal

pub set_word-requires : goal.set_word-requires
set_word-requires c = placed c.requires.0.most c.requires.1 _ (omega (arith, c.requires.0.slots_fit))

pub returns : goal.returns
returns c = λ masks book. word_step _ _ _ masks book _ c.requires.0.slots_fit c.requires.1 c.set_word.ensures
