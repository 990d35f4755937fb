use mathlib.Core.Path.{◌∙◌}
use mir.Facts.{to_z-of_z}
use Rattle.seats.specs.Call.{One, Lookup}
use Rattle.voxels.specs.Answers.{mem_of, found_of}
use Rattle.calls.specs.Forms.{point_at, answer_of, answer_f}
use Rattle.calls.proofs.Laws.{answer_same, says_as, voxel_same}
use Rattle.calls.proofs.yoldrick_lookup.Goals as goal

pub returns : goal.returns
returns c =
    let a = c.args in
    let p = point_at a.x a.y a.z in
    let m = mem_of a.slots.now a.masks.now a.book.now in
    let e = voxel_same (to_z-of_z c.ranges.x) (to_z-of_z c.ranges.y) (to_z-of_z c.ranges.z) in
    says_as found_of answer_f answer_of answer_same (One a.seat (Lookup p)) m m _ _ (c.lookup.ensures p (c.voxel-v.ensures.0 ∙ e)) c.from.ensures
