use mathlib.Core.Path.{◌∙◌}
use mir.Facts.{to_z-of_z}
use Rattle.seats.specs.Call.{One, Sign}
use Rattle.voxels.specs.Answers.{mem_of, whether_of}
use Rattle.calls.specs.Forms.{point_at, truth_answer_of, truth_f}
use Rattle.calls.proofs.Laws.{truth_same, says_as, voxel_same}
use Rattle.calls.proofs.yoldrick_sign.Goals as goal

pub returns : goal.returns
returns c =
    let a = c.args in
    let p = point_at a.x a.y a.z in
    let m = mem_of a.slots.now a.masks.now a.book.now in
    let e = voxel_same (to_z-of_z c.ranges.x) (to_z-of_z c.ranges.y) (to_z-of_z c.ranges.z) in
    says_as whether_of truth_f truth_answer_of truth_same (One a.seat (Sign p)) m m _ _ (c.sign.ensures p (c.voxel-v.ensures.0 ∙ e)) c.from.ensures
