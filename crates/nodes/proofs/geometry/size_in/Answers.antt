use mathlib.Core.Path.{refl}
use native.Mathlib.Omega.{arith}
use Rattle.grid.specs.Node.{size}
use Rattle.nodes.proofs.Paths.{size_is, low_size}
use Rattle.nodes.proofs.geometry.size_in.Goals as goal

pub returns-in-2 : goal.returns-in-2
unfolding size
returns-in-2 c = size_is 2 512 c.in-2.is refl

pub returns-in-1 : goal.returns-in-1
returns-in-1 c = low_size _ (omega arith)

pub returns-in_default : goal.returns-in_default
returns-in_default c = low_size _ (omega arith)
