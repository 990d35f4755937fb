use native.Mathlib.Omega.{arith}
use Rattle.trees.proofs.Joins.{masks_joined}
use Rattle.trees.proofs.leaf.join_masks.Goals as goal

pub returns : goal.returns
returns c = masks_joined _ _ _ (omega arith)
