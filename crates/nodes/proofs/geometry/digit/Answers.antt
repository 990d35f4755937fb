use native.Mathlib.Omega.{arith}
use Rattle.nodes.proofs.Voxels.{few, one_left_some, digit_is}
use Rattle.nodes.proofs.geometry.digit.Goals as goal

pub overflow_shl-result : goal.overflow_shl-result
overflow_shl-result g c = omega (arith, few g.L.Level.law, c.BRANCHING_TOTAL.ensures)

pub nonzero_rem-result : goal.nonzero_rem-result
nonzero_rem-result g c = one_left_some _ (omega (arith, few g.L.Level.law, c.BRANCHING_TOTAL.ensures))

pub overflow_sub-result : goal.overflow_sub-result
overflow_sub-result g c = omega (arith, few g.L.Level.law, c.BRANCHING_TOTAL-2.ensures, c.BRANCHING.ensures)

pub overflow_shr-result : goal.overflow_shr-result
overflow_shr-result g c = omega (arith, few g.L.Level.law, c.BRANCHING_TOTAL-2.ensures, c.BRANCHING.ensures)

pub returns : goal.returns
returns g c = digit_is g.L.Level.law _ c.BRANCHING_TOTAL.ensures c.BRANCHING_TOTAL-2.ensures c.BRANCHING.ensures
