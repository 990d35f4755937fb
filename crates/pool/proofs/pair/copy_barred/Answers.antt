use Rattle.seats.specs.Call.{Two, Copy}
use Rattle.nodes.proofs.States.{cells_of}
use Rattle.voxels.specs.Answers.{mem_of}
use Rattle.voxels.proofs.Promises.{is_sized}
use Rattle.pool.proofs.Guards.{exit_admitted}
use Rattle.pool.proofs.Pairs.{pair_first, pair_counted, pair_seats, copy_room}
use Rattle.pool.proofs.pair.copy_barred.Goals as goal

pub returns-in_err-n : goal.returns-in_err-n
returns-in_err-n c =
    let a = c.args in
    exit_admitted (Two Copy a.from a.to) (mem_of a.slots.now a.masks.now a.book.now) _ _ c.from_residual.ensures.1
    (pair_first a.from a.to (mem_of a.slots.now a.masks.now a.book.now) c.two_given.ensures Copy c.in_err-n.ensures)

pub invariant_of-room : goal.invariant_of-room
invariant_of-room c = let a = c.args in record { fit = cells_of (is_sized (pair_counted a.from a.to (mem_of a.slots.now a.masks.now a.book.now) c.two_given.ensures c.in_ok-n.ensures)) }

pub room-requires : goal.room-requires
room-requires c =
    let a = c.args in
    let z = is_sized (pair_counted a.from a.to (mem_of a.slots.now a.masks.now a.book.now) c.two_given.ensures c.in_ok-n.ensures) in
    let l = pair_seats a.from a.to (mem_of a.slots.now a.masks.now a.book.now) c.two_given.ensures c.in_ok-n.ensures in
    (record { most = z.most; book_fit = z.book_fit }, l.0, l.1)

pub returns-in_err-room : goal.returns-in_err-room
returns-in_err-room c =
    let a = c.args in
    exit_admitted (Two Copy a.from a.to) (mem_of a.slots.now a.masks.now a.book.now) _ _ c.from_residual-in_err-room.ensures.1
    (copy_room a.from a.to (mem_of a.slots.now a.masks.now a.book.now) c.two_given.ensures c.in_ok-n.ensures _ c.in_err-room.ensures)

pub returns : goal.returns
returns c =
    let a = c.args in
    (copy_room a.from a.to (mem_of a.slots.now a.masks.now a.book.now) c.two_given.ensures c.in_ok-n.ensures _ c.in_ok-room.ensures, c.in_ok-n.ensures.1)
