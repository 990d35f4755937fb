use Rattle.std.proofs.Common.{rules}
use mathlib.Core.Path.{refl}
use Rattle.seats.specs.Call.{Two, Copy}
use Rattle.nodes.specs.Pool.{state}
use Rattle.voxels.specs.Answers.{mem_of, done_of}
use Rattle.voxels.proofs.Promises.{exit_says, is_sized}
use Rattle.voxels.proofs.Turns.{returned}
use Rattle.pool.proofs.Guards.{served_counted}
use Rattle.pool.proofs.Pairs.{copy_low, copy_says}
use Rattle.pool.proofs.pair.copy.Goals as goal

pub returns-in_err-n : goal.returns-in_err-n
returns-in_err-n c = let a = c.args in exit_says done_of (λ n. refl) (Two Copy a.from a.to) (mem_of a.slots.now a.masks.now a.book.now) _ c.from_residual.ensures.1 c.in_err-n.ensures

pub invariant_of-pool : goal.invariant_of-pool
invariant_of-pool c = let a = c.args in let h = c.in_ok-n.ensures in record { sized = is_sized (served_counted (mem_of a.slots.now a.masks.now a.book.now) (Two Copy a.from a.to) h.0 h.1) }

pub copy_unmark-requires : goal.copy_unmark-requires
copy_unmark-requires c = let a = c.args in let l = copy_low (mem_of a.slots.now a.masks.now a.book.now) a.from a.to c.in_ok-n.ensures.0 in (l.0, l.1)

pub returns : goal.returns
unfolding state
returns c =
    let a = c.args in
    let h = c.in_ok-n.ensures in
    let k = served_counted (mem_of a.slots.now a.masks.now a.book.now) (Two Copy a.from a.to) h.0 h.1 in
    let u = c.copy_unmark in
    returned u.new.pool k u.ensures.kept.n u.ensures.turned (Two Copy a.from a.to) (copy_says (mem_of a.slots.now a.masks.now a.book.now) a.from a.to h.0 _ k)
    c.type_inv.slots c.type_inv.masks c.type_inv.book (search rules) (search rules) (search rules)
