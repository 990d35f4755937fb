use native.Mathlib.Omega.{arith}
use Rattle.nodes.proofs.Places.{word_lt}
use Rattle.nodes.proofs.cells.put.Goals as goal

pub put_at-requires : goal.put_at-requires
put_at-requires c = (c.requires.0, omega (arith, c.word_of.ensures, word_lt c.requires.1))

pub returns : goal.returns
returns c book = c.put_at.ensures book _ _ c.requires.1 c.word_of.ensures
