use mathlib.Core.Path.{refl}
use Rattle.seats.specs.Call.{Remove}
use Rattle.nodes.specs.Layout.{st}
use Rattle.nodes.specs.Walk.{point_of}
use Rattle.voxels.specs.Answers.{mem_of, done_of}
use Rattle.voxels.proofs.Promises.{admits, barred_says}
use Rattle.voxels.proofs.Ends.{ends_in}
use Rattle.voxels.proofs.Turns.{removing, edit_blocked, edit_done}
use Rattle.voxels.proofs.voxel.remove.Goals as goal

pub returns-in_err-n : goal.returns-in_err-n
returns-in_err-n c p e =
    let a = c.args in
    barred_says done_of (λ n. refl) a.seat (Remove p) (mem_of a.slots.now a.masks.now a.book.now) _ c.from_residual.ensures.1 c.in_err-n.ensures.told

pub remove_blocked-requires : goal.remove_blocked-requires
remove_blocked-requires c =
    let a = c.args in
    let z = c.in_ok-n.ensures.fit in (
      record { most = z.0.most; book_fit = z.0.book_fit },
      ends_in _ (st _ a.slots.now a.masks.now a.book.now) a.seat _ (z.1, c.seek-end.ensures _ _ c.path.ensures.0),
    )

pub returns-in_err-remove_blocked : goal.returns-in_err-remove_blocked
returns-in_err-remove_blocked c p e =
    let a = c.args in
    let d = admits (mem_of a.slots.now a.masks.now a.book.now) _ a.seat c.in_ok-n.ensures.told in
    edit_blocked removing d.0 a.seat a.v d.1 p e (c.in_err-remove_blocked.ensures (point_of a.v) a.seat (d.1, c.seek-end.ensures _ _ c.path.ensures.0))
    c.from_residual-in_err-remove_blocked.ensures.1

pub remove_unmark-requires : goal.remove_unmark-requires
remove_unmark-requires c = (c.in_ok-n.ensures.fit.0, (c.in_ok-n.ensures.fit.1, c.seek-end.ensures _ _ c.path.ensures.0))

pub returns : goal.returns
returns c p e =
    let a = c.args in
    let d = admits (mem_of a.slots.now a.masks.now a.book.now) _ a.seat c.in_ok-n.ensures.told in
    let u = c.remove_unmark in
    let k = u.auto in
    edit_done (removing) d.0 a.seat a.v d.1 p e
    (c.in_ok-remove_blocked.ensures (point_of a.v) a.seat (d.1, c.seek-end.ensures _ _ c.path.ensures.0))
    (mem_of u.new.slots u.new.masks u.new.book) (record { slots = k.slots; masks = k.masks; book = k.book }) u.ensures
