use mathlib.Core.Path.{ap, ◌∙◌, subst}
use Rattle.nodes.specs.Change.{mark_s}
use Rattle.nodes.proofs.States.{cells_of}
use Rattle.voxels.specs.Answers.{InPool}
use Rattle.voxels.proofs.Ends.{ends_in, insert_leaf, st_as}
use Rattle.voxels.proofs.voxel.insert_unmark.Goals.{in-Some, in_default}
use Rattle.voxels.proofs.voxel.insert_unmark.Goals as goal

pub put_at-requires : goal.put_at-requires
put_at-requires c = (cells_of c.requires.0, subst (InPool _) c.in-Some.is (ends_in _ _ _ _ c.requires.2))

pub insert_by_walk-requires : goal.insert_by_walk-requires
insert_by_walk-requires c = (c.requires.0, c.requires.2.0, c.requires.1)

pub returns : goal.returns
returns c =
    c.set_mark.ensures _ _ _ ∙ ap (mark_s _ 0) (elim c.match-end.branch [
      | in-Some w ↦ st_as _ w.slots-is w.masks-is w.book-is ∙ insert_leaf _ _ _ _ c.requires.2 w.in-Some.is w.if-at-eq0.true _ (w.put_at.ensures _)
      | in_default w ↦ st_as _ w.slots-is w.masks-is w.book-is ∙ w.insert_by_walk.ensures
    ])
