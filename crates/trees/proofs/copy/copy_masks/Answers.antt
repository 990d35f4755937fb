use native.Mathlib.Omega.{arith}
use lib.ListN.{length-set}
use Rattle.trees.proofs.Copies.{masks_copied}
use Rattle.trees.proofs.copy.copy_masks.Goals as goal

pub bounds-masks-n-2 : goal.bounds-masks-n-2
bounds-masks-n-2 c = simp length-set (omega arith)

pub returns : goal.returns
returns c = masks_copied _ _ _ _ (omega arith) (omega arith)
