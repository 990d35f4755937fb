use mathlib.Core.Path.{sym, ap, ◌∙◌, subst}
use borrow.Author.Tests.{not-true}
use Rattle.nodes.specs.Change.{mark_s}
use Rattle.nodes.proofs.Leaves.{alone_is}
use Rattle.voxels.specs.Answers.{InPool}
use Rattle.voxels.proofs.Ends.{ends_in, remove_leaf, st_as}
use Rattle.voxels.proofs.voxel.remove_unmark.Goals.{in-Some, in_default}
use Rattle.voxels.proofs.voxel.remove_unmark.Goals as goal

pub shared-requires : goal.shared-requires
shared-requires c =
    let z = c.requires.0 in
    (record { most = z.most; masks_fit = z.masks_fit }, subst (InPool _) c.in-Some.is (ends_in _ _ _ _ c.requires.1))

pub hide_at-requires : goal.hide_at-requires
hide_at-requires c =
    let z = c.requires.0 in
    (record { most = z.most; masks_fit = z.masks_fit }, subst (InPool _) c.in-Some.is (ends_in _ _ _ _ c.requires.1))

pub remove_by_walk-requires : goal.remove_by_walk-requires
remove_by_walk-requires c = (c.requires.0, c.requires.1.0)

pub returns : goal.returns
returns c =
    c.set_mark.ensures _ _ _ ∙ ap (mark_s _ 0) (elim c.match-end.branch [
      | in-Some w ↦ st_as _ w.slots-is w.masks-is w.book-is ∙ remove_leaf _ _ _ _ c.requires.1 w.in-Some.is w.if-at-eq0.true (w.hide_at.ensures _ _)
          (λ x k m l e. sym (alone_is _ _ _ _ _ m l e) ∙ not-true _ (sym w.shared.ensures ∙ w.if-shared.true))
      | in_default w ↦ st_as _ w.slots-is w.masks-is w.book-is ∙ w.remove_by_walk.ensures
    ])
