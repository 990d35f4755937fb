use mathlib.Core.Path.{◌∙◌}
use mir.Facts.{to_z-of_z}
use Rattle.seats.specs.Call.{One, Insert}
use Rattle.voxels.specs.Answers.{mem_of}
use Rattle.calls.specs.Forms.{point_at}
use Rattle.calls.proofs.Laws.{voxel_same}
use Rattle.calls.proofs.yoldrick_insert.Goals as goal

pub returns : goal.returns
returns c =
    let a = c.args in
    let p = point_at a.x a.y a.z in
    let l = c.insert.new in
    let e = voxel_same (to_z-of_z c.ranges.x) (to_z-of_z c.ranges.y) (to_z-of_z c.ranges.z) in
    c.code.ensures (One a.seat (Insert p a.bits)) (mem_of a.slots.now a.masks.now a.book.now) (mem_of l.slots l.masks l.book) (c.insert.ensures p (c.voxel-v.ensures.0 ∙ e))
