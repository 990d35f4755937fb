use Rattle.std.proofs.Common.{rules}
use mathlib.Core.Path.{refl}
use Rattle.seats.specs.Call.{One}
use Rattle.nodes.specs.Pool.{state}
use Rattle.voxels.specs.Answers.{mem_of, done_of}
use Rattle.voxels.proofs.Promises.{exit_says, is_sized}
use Rattle.voxels.proofs.Turns.{returned}
use Rattle.pool.specs.Task.{act_of}
use Rattle.pool.proofs.Guards.{served_seat, served_counted}
use Rattle.pool.proofs.Tasks.{change_says}
use Rattle.pool.proofs.seat.change.Goals as goal

pub returns-in_err-n : goal.returns-in_err-n
returns-in_err-n c = let a = c.args in exit_says done_of (λ n. refl) (One a.seat (act_of a.task)) (mem_of a.slots.now a.masks.now a.book.now) _ c.from_residual.ensures.1 c.in_err-n.ensures

pub invariant_of-pool : goal.invariant_of-pool
invariant_of-pool c = let a = c.args in let h = c.in_ok-n.ensures in record { sized = is_sized (served_counted (mem_of a.slots.now a.masks.now a.book.now) (One a.seat (act_of a.task)) h.0 h.1) }

pub settle-requires : goal.settle-requires
settle-requires c = let a = c.args in served_seat (mem_of a.slots.now a.masks.now a.book.now) a.seat (act_of a.task) c.in_ok-n.ensures.0

pub returns : goal.returns
unfolding state
returns c =
    let a = c.args in
    let h = c.in_ok-n.ensures in
    let k = served_counted (mem_of a.slots.now a.masks.now a.book.now) (One a.seat (act_of a.task)) h.0 h.1 in
    let u = c.settle in
    returned u.new.pool k u.ensures.kept.n u.ensures.turned (One a.seat (act_of a.task))
    (change_says a.task (mem_of a.slots.now a.masks.now a.book.now) _ k a.seat (served_seat (mem_of a.slots.now a.masks.now a.book.now) a.seat (act_of a.task) h.0) h.0)
    c.type_inv.slots c.type_inv.masks c.type_inv.book (search rules) (search rules) (search rules)
