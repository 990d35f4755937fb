use mathlib.Core.Path.{refl}
use Rattle.seats.specs.Call.{One, IsEmpty}
use Rattle.voxels.specs.Answers.{mem_of, whether_of}
use Rattle.voxels.proofs.Promises.{exit_says, is_sized}
use Rattle.pool.proofs.Guards.{guard_refuses, guard_passes, served_counted, served_seat}
use Rattle.pool.proofs.WholePromises.{empty_says}
use Rattle.pool.proofs.whole.is_empty.Goals as goal

pub returns-in_err-n : goal.returns-in_err-n
returns-in_err-n c =
    let a = c.args in
    exit_says whether_of (λ n. refl) (One a.seat IsEmpty) (mem_of a.slots.now a.masks.now a.book.now) _ c.from_residual.ensures.1
    (guard_refuses (mem_of a.slots.now a.masks.now a.book.now) (One a.seat IsEmpty) refl c.one_given.ensures c.in_err-n.ensures)

pub both_empty-requires : goal.both_empty-requires
both_empty-requires c =
    let a = c.args in
    let h = c.in_ok-n.ensures in
    let s = guard_passes (mem_of a.slots.now a.masks.now a.book.now) (One a.seat IsEmpty) refl c.one_given.ensures h.0 in
    let z = is_sized (served_counted (mem_of a.slots.now a.masks.now a.book.now) (One a.seat IsEmpty) s h.1) in
    (record { most = z.most; masks_fit = z.masks_fit }, served_seat (mem_of a.slots.now a.masks.now a.book.now) a.seat IsEmpty s)

pub returns : goal.returns
returns c =
    let a = c.args in
    let h = c.in_ok-n.ensures in
    let s = guard_passes (mem_of a.slots.now a.masks.now a.book.now) (One a.seat IsEmpty) refl c.one_given.ensures h.0 in
    empty_says (mem_of a.slots.now a.masks.now a.book.now) _ (served_counted (mem_of a.slots.now a.masks.now a.book.now) (One a.seat IsEmpty) s h.1) a.seat s _ (c.both_empty.ensures _ _)
