use Rattle.seats.specs.Call.{Two, Combine}
use Rattle.nodes.proofs.States.{cells_of}
use Rattle.voxels.specs.Answers.{mem_of}
use Rattle.voxels.proofs.Promises.{is_sized}
use Rattle.pool.proofs.Guards.{exit_admitted}
use Rattle.pool.proofs.Pairs.{pair_first, pair_counted, pair_seats, combine_filled}
use Rattle.pool.proofs.pair.combine_barred.Goals as goal

pub returns-in_err-n : goal.returns-in_err-n
returns-in_err-n c o =
    let a = c.args in
    exit_admitted (Two (Combine o) a.a a.b) (mem_of a.slots.now a.masks.now a.book.now) _ _ c.from_residual.ensures.1
    (pair_first a.a a.b (mem_of a.slots.now a.masks.now a.book.now) c.two_given.ensures (Combine o) c.in_err-n.ensures)

pub invariant_of-filled : goal.invariant_of-filled
invariant_of-filled c = let a = c.args in record { fit = cells_of (is_sized (pair_counted a.a a.b (mem_of a.slots.now a.masks.now a.book.now) c.two_given.ensures c.in_ok-n.ensures)) }

pub filled-requires : goal.filled-requires
filled-requires c =
    let a = c.args in
    let z = is_sized (pair_counted a.a a.b (mem_of a.slots.now a.masks.now a.book.now) c.two_given.ensures c.in_ok-n.ensures) in
    let l = pair_seats a.a a.b (mem_of a.slots.now a.masks.now a.book.now) c.two_given.ensures c.in_ok-n.ensures in
    (record { most = z.most; book_fit = z.book_fit }, l.0, l.1)

pub returns-in_err-filled : goal.returns-in_err-filled
returns-in_err-filled c o =
    let a = c.args in
    exit_admitted (Two (Combine o) a.a a.b) (mem_of a.slots.now a.masks.now a.book.now) _ _ c.from_residual-in_err-filled.ensures.1
    (combine_filled a.a a.b (mem_of a.slots.now a.masks.now a.book.now) c.two_given.ensures c.in_ok-n.ensures o _ c.in_err-filled.ensures)

pub returns : goal.returns
returns c o =
    let a = c.args in
    (combine_filled a.a a.b (mem_of a.slots.now a.masks.now a.book.now) c.two_given.ensures c.in_ok-n.ensures o _ c.in_ok-filled.ensures, c.in_ok-n.ensures.1)
