use mathlib.Core.Path.{refl}
use native.Mathlib.Omega.{arith}
use Rattle.nodes.proofs.Paths.{leaf_cell}
use Rattle.signs.proofs.LeafRows.{full_same, leaf_at}
use Rattle.signs.proofs.fill.leaf_rows.Goals as goal

pub overflow_sub-c : goal.overflow_sub-c
overflow_sub-c c = leaf_cell c.requires.1 refl

pub bounds-masks-n : goal.bounds-masks-n
bounds-masks-n c = omega (arith, c.requires.0.masks_fit, c.requires.1.node, leaf_cell c.requires.1 refl)

pub returns-then-v : goal.returns-then-v
returns-then-v c = λ book. full_same _ (leaf_at c.requires.0 c.requires.1) c.if-v.true

pub rows-requires : goal.rows-requires
rows-requires c = omega (arith, c.requires.0.slots_fit, c.requires.1.node, leaf_cell c.requires.1 refl)

pub returns : goal.returns
returns c = λ book. c.rows.ensures _ (leaf_at c.requires.0 c.requires.1)
