use native.Mathlib.Omega.{arith}
use Rattle.sound.proofs.Links.{ones_bits}
use Rattle.sound.proofs.test.bits.Goals as goal

pub returns : goal.returns
returns c = ones_bits _ (omega arith)
