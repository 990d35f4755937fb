use mathlib.Core.Path.{sym}
use Rattle.nodes.specs.Pool.{state}
use Rattle.sound.proofs.Book.{st_mark}
use Rattle.pool.proofs.Tasks.{change_by}
use Rattle.pool.proofs.seat.settle.Goals as goal

pub returns-clause-turned : goal.returns-clause-turned
unfolding state
returns-clause-turned c =
    let a = c.args in
    let p = a.pool.now in
    change_by a.task p.n a.seat (state p) (sym (st_mark p.n p.slots.now p.masks.now p.book.now a.seat c.requires)) c.mark_after-m.ensures c.work.ensures.turned
    (c.set_mark.ensures _ _ _)
