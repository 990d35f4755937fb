use mathlib.Core.Path.{refl}
use native.Mathlib.Omega.{arith}
use Rattle.nodes.specs.Pool.{state}
use Rattle.nodes.proofs.Paths.{leaf_cell}
use Rattle.nodes.proofs.States.{cells_of}
use Rattle.trees.proofs.Turns.{leaf_flipped, leaf_cut, leaf_pruned, leaf_work, leaf_room}
use Rattle.trees.proofs.turn.leaf.Goals as goal

pub returns-in-Prune-clause-turned : goal.returns-in-Prune-clause-turned
returns-in-Prune-clause-turned c = leaf_work _ _ _ _ c.in-Prune.is (leaf_pruned _ _ _)

pub overflow_sub-x : goal.overflow_sub-x
overflow_sub-x c = omega (arith, leaf_cell c.requires refl)

pub cut_bits-requires : goal.cut_bits-requires
cut_bits-requires c = leaf_room (cells_of c.args.pool.now.sized) c.requires

pub overflow_sub-x-in-Cut : goal.overflow_sub-x-in-Cut
overflow_sub-x-in-Cut c = omega (arith, leaf_cell c.requires refl)

pub drop_values-requires : goal.drop_values-requires
drop_values-requires c =
    let z = c.args.pool.now.sized in
    (record { most = z.most; masks_fit = z.masks_fit }, omega (arith, c.requires.node, leaf_cell c.requires refl))

pub returns-in-Cut-clause-turned : goal.returns-in-Cut-clause-turned
unfolding state
returns-in-Cut-clause-turned c = leaf_work _ _ _ _ c.in-Cut.is (leaf_cut _ _ _ _ _ (leaf_cell c.requires refl) c.requires.node _ _ _ c.cut_bits.ensures c.drop_values.ensures)

pub overflow_sub-x-in-Flip : goal.overflow_sub-x-in-Flip
overflow_sub-x-in-Flip c = omega (arith, leaf_cell c.requires refl)

pub flip_words-requires : goal.flip_words-requires
flip_words-requires c = leaf_room (cells_of c.args.pool.now.sized) c.requires

pub returns-in-Flip-clause-turned : goal.returns-in-Flip-clause-turned
unfolding state
returns-in-Flip-clause-turned c = leaf_work _ _ _ _ c.in-Flip.is (leaf_flipped _ _ _ _ _ (leaf_cell c.requires refl) c.requires.node _ c.flip_words.ensures)
