use native.Mathlib.Omega.{arith}
use Rattle.nodes.specs.Pool.{state}
use Rattle.nodes.proofs.Places.{word_lt}
use Rattle.nodes.proofs.States.{masked_of}
use Rattle.nodes.proofs.pool.Pool.hide.Goals as goal

pub hide_at-requires : goal.hide_at-requires
hide_at-requires c = (masked_of c.args.self.now.sized, omega (arith, c.word_of.ensures, word_lt c.requires))

pub returns-clause-turned : goal.returns-clause-turned
unfolding state
returns-clause-turned c = c.hide_at.ensures _ _ _ _ c.requires c.word_of.ensures
