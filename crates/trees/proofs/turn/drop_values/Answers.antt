use native.Mathlib.Omega.{arith}
use Rattle.trees.proofs.Turns.{masks_dropped}
use Rattle.trees.proofs.turn.drop_values.Goals as goal

pub returns : goal.returns
returns c = masks_dropped _ _ _ (omega arith) c.ranges.bits.fits
