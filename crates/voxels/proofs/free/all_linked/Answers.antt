use Rattle.std.proofs.Common.{rules}
use mathlib.Core.Path.{refl}
use native.Mathlib.Omega.{arith}
use Rattle.bitset.specs.Set.{every}
use Rattle.sound.proofs.Chains.{all_below}
use Rattle.voxels.proofs.free.all_linked.Goals as goal

pub returns : goal.returns
unfolding every
returns c slots masks = all_below _ 0 _ (omega arith) refl _ _ _ c.all.ensures.ran (λ x b q k. search rules)
