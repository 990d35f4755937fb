use Rattle.seats.specs.Call.{One}
use Rattle.nodes.proofs.States.{cells_of}
use Rattle.voxels.specs.Answers.{mem_of}
use Rattle.voxels.proofs.Promises.{is_sized}
use Rattle.pool.specs.Task.{act_of}
use Rattle.pool.proofs.Guards.{exit_admitted}
use Rattle.pool.proofs.Tasks.{barred_first, barred_counted, barred_seat, barred_signs, barred_others}
use Rattle.pool.proofs.seat.barred.Goals as goal

pub returns-in_err-n : goal.returns-in_err-n
returns-in_err-n c =
    let a = c.args in
    exit_admitted (One a.seat (act_of a.task)) (mem_of a.slots.now a.masks.now a.book.now) _ _ c.from_residual.ensures.1
    (barred_first a.task a.seat (mem_of a.slots.now a.masks.now a.book.now) c.given.ensures c.one_given.ensures c.in_err-n.ensures)

pub invariant_of-solid : goal.invariant_of-solid
invariant_of-solid c = let a = c.args in record {
  fit = cells_of
      (is_sized (barred_counted a.task a.seat (mem_of a.slots.now a.masks.now a.book.now) c.given.ensures c.one_given.ensures c.in_ok-n.ensures));
}

pub solid-requires : goal.solid-requires
solid-requires c = let a = c.args in barred_seat a.task a.seat (mem_of a.slots.now a.masks.now a.book.now) c.given.ensures c.one_given.ensures c.in_ok-n.ensures

pub returns-in_err-solid : goal.returns-in_err-solid
returns-in_err-solid c =
    let a = c.args in
    exit_admitted (One a.seat (act_of a.task)) (mem_of a.slots.now a.masks.now a.book.now) _ _ c.from_residual-in_err-solid.ensures.1
    (barred_signs a.task a.seat (mem_of a.slots.now a.masks.now a.book.now) c.given.ensures c.one_given.ensures c.in_ok-n.ensures c.in-Signs.is _ (c.in_err-solid.ensures _))

pub returns-in_ok-solid : goal.returns-in_ok-solid
returns-in_ok-solid c =
    let a = c.args in
    (barred_signs a.task a.seat (mem_of a.slots.now a.masks.now a.book.now) c.given.ensures c.one_given.ensures c.in_ok-n.ensures c.in-Signs.is _ (c.in_ok-solid.ensures _), c.in_ok-n.ensures.1)

pub returns-in_default : goal.returns-in_default
returns-in_default c =
    let a = c.args in
    (barred_others a.task a.seat (mem_of a.slots.now a.masks.now a.book.now) c.given.ensures c.one_given.ensures c.in_ok-n.ensures c.in_default.not-Signs, c.in_ok-n.ensures.1)
