use native.Mathlib.Omega.{arith}
use Rattle.trees.proofs.Turns.{marked_none, marked_more}
use Rattle.trees.proofs.turn.cut_bits.Goals as goal

pub loop-i-init : goal.loop-i-init
loop-i-init c = marked_none _

pub loop-i-preserved : goal.loop-i-preserved
loop-i-preserved c = marked_more c.loop-i.invariant _ (omega (arith, c.loop-i-test.true)) c.cut_bit-bits.ensures
