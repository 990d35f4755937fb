use mathlib.Core.Path.{sym}
use Rattle.nodes.proofs.Places.{word_top, word_cell}
use Rattle.nodes.proofs.memory.word_of.Goals as goal

pub returns-then-x-lt8 : goal.returns-then-x-lt8
returns-then-x-lt8 c = sym (word_top _ _ c.if-x-lt8.true)

pub returns-else-x-lt8 : goal.returns-else-x-lt8
returns-else-x-lt8 c = sym (word_cell _ _ c.if-x-lt8.false)
