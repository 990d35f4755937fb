use mathlib.Core.Path.{refl}
use native.Mathlib.Omega.{arith}
use Rattle.nodes.proofs.Paths.{leaf_cell}
use Rattle.trees.proofs.Joins.{leaf_joined}
use Rattle.trees.proofs.leaf.join_leaf.Goals as goal

pub overflow_sub-x : goal.overflow_sub-x
overflow_sub-x c = omega (arith, leaf_cell c.requires.1 refl)

pub overflow_sub-y : goal.overflow_sub-y
overflow_sub-y c = omega (arith, leaf_cell c.requires.2 refl)

pub join_values-requires : goal.join_values-requires
join_values-requires c = (
  omega (arith, c.requires.0.most, c.requires.1.node),
  omega (arith, c.requires.0.most, c.requires.2.node),
  omega
      (arith, c.requires.0.slots_fit, c.requires.1.node, leaf_cell c.requires.1 refl),
  omega (arith, c.requires.0.slots_fit, c.requires.2.node, leaf_cell c.requires.2 refl),
  c.requires.3,
  c.requires.4,
)

pub overflow_sub-x-2 : goal.overflow_sub-x-2
overflow_sub-x-2 c = omega (arith, leaf_cell c.requires.1 refl)

pub overflow_sub-y-2 : goal.overflow_sub-y-2
overflow_sub-y-2 c = omega (arith, leaf_cell c.requires.2 refl)

pub join_masks-requires : goal.join_masks-requires
join_masks-requires c = (
  record { most = c.requires.0.most; masks_fit = c.requires.0.masks_fit },
  omega (arith, c.requires.1.node, leaf_cell c.requires.1 refl),
  omega
      (arith, c.requires.2.node, leaf_cell c.requires.2 refl),
)

pub returns : goal.returns
returns c = λ book. leaf_joined _ _ _ _ book _ _ (leaf_cell c.requires.1 refl) (leaf_cell c.requires.2 refl) c.requires.1.node c.requires.2.node _ _ c.join_values.ensures c.join_masks.ensures
