use mathlib.Core.Path.{ap, ◌∙◌}
use native.Mathlib.Omega.{arith}
use Prim.Native.Nat.{ℕ, ◌%◌}
use mir.Syntax.{w32}
use mir.Val.{of_z}
use mir.Facts.{to_z-of_z}
use Rattle.nodes.proofs.Voxels.{low_is}
use Rattle.nodes.proofs.geometry.masked7.Goals as goal

pub returns : goal.returns
returns c = (ap (λ (n : ℕ). n % 128) (c.cast_unsigned.ensures ∙ ap (of_z w32) (to_z-of_z c.ranges.x)) ∙ low_is _ c.ranges.x, omega arith)
