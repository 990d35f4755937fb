use Rattle.std.proofs.Common.{rules}
use mathlib.Core.Path.{refl}
use Rattle.seats.specs.Call.{Two, Combine}
use Rattle.trees.specs.Combine.{join_o}
use Rattle.nodes.specs.Pool.{state}
use Rattle.voxels.specs.Answers.{mem_of, done_of}
use Rattle.voxels.proofs.Promises.{exit_says, is_sized}
use Rattle.voxels.proofs.Turns.{returned}
use Rattle.pool.proofs.Guards.{served_counted}
use Rattle.pool.proofs.Pairs.{combine_may, combine_says}
use Rattle.pool.proofs.pair.combine.Goals as goal

pub returns-in_err-n : goal.returns-in_err-n
returns-in_err-n c =
    let a = c.args in
    exit_says done_of (λ n. refl) (Two (Combine (join_o a.join)) a.a a.b) (mem_of a.slots.now a.masks.now a.book.now) _ c.from_residual.ensures.1 (c.in_err-n.ensures (join_o a.join))

pub invariant_of-pool : goal.invariant_of-pool
invariant_of-pool c =
    let a = c.args in
    let h = c.in_ok-n.ensures (join_o a.join) in
    record { sized = is_sized (served_counted (mem_of a.slots.now a.masks.now a.book.now) (Two (Combine (join_o a.join)) a.a a.b) h.0 h.1) }

pub combine_unmark-requires : goal.combine_unmark-requires
unfolding state
combine_unmark-requires c =
    let a = c.args in
    let h = c.in_ok-n.ensures (join_o a.join) in
    combine_may (join_o a.join) (mem_of a.slots.now a.masks.now a.book.now) a.a a.b h.0 _ (served_counted (mem_of a.slots.now a.masks.now a.book.now) (Two (Combine (join_o a.join)) a.a a.b) h.0 h.1)

pub returns : goal.returns
unfolding state
returns c =
    let a = c.args in
    let h = c.in_ok-n.ensures (join_o a.join) in
    let k = served_counted (mem_of a.slots.now a.masks.now a.book.now) (Two (Combine (join_o a.join)) a.a a.b) h.0 h.1 in
    let u = c.combine_unmark in
    returned u.new.pool k u.ensures.kept.n u.ensures.turned (Two (Combine (join_o a.join)) a.a a.b) (combine_says (join_o a.join) (mem_of a.slots.now a.masks.now a.book.now) a.a a.b h.0 _ k)
    c.type_inv.slots c.type_inv.masks c.type_inv.book (search rules) (search rules) (search rules)
