use Rattle.std.proofs.Common.{rules}
use Prim.Native.Nat.{◌-◌}
use native.Mathlib.Omega.{arith}
use Rattle.nodes.specs.Pool.{state}
use Rattle.nodes.proofs.Each.{each_none, each_more}
use Rattle.trees.specs.Combine.{join_o}
use Rattle.csg.proofs.Combines.{stands_x, stands_y, in_x, in_y, leaf_may, take_low, both, branch_on, branch_off}
use Rattle.csg.proofs.Combines.{slot_stays, slot_value, slot_taken, slot_joined, upto_may, combine_leaf, combine_all}
use Rattle.csg.proofs.combine.+combine.Goals as goal

pub combine-join_leaf-requires : goal.combine-join_leaf-requires
unfolding state
combine-join_leaf-requires t c = leaf_may c.if-level-eq0.true c.args.pool.now.sized c.requires

pub combine-returns-then-level-eq0-clause-turned : goal.combine-returns-then-level-eq0-clause-turned
unfolding state
combine-returns-then-level-eq0-clause-turned t c = combine_leaf _ _ _ _ _ c.args.level c.if-level-eq0.true (c.join_leaf.ensures _)

pub combine-size_in-k-end-requires : goal.combine-size_in-k-end-requires
combine-size_in-k-end-requires t c = omega (arith, (stands_x c.requires).known)

pub combine-loop-k-init : goal.combine-loop-k-init
combine-loop-k-init t c = record { kept = search rules; joined = each_none _ _ }

pub combine-combine_slot-requires : goal.combine-combine_slot-requires
combine-combine_slot-requires t c =
    let h = c.if-level-eq0.false in
    let q = c.size_in-k-end.ensures in
    let v = c.loop-k.invariant in
    (omega arith, (simp v.kept.n (upto_may (join_o c.args.join) c.args.level _ _ c.loop-k.k h c.requires (omega arith) v.joined), omega arith, omega arith))

pub combine-loop-k-preserved : goal.combine-loop-k-preserved
combine-loop-k-preserved t c =
    let v = c.loop-k.invariant in
    record { kept = search rules; joined = each_more _ _ _ v.joined (simp v.kept.n at c.combine_slot.ensures.turned) }

pub combine-returns-clause-turned : goal.combine-returns-clause-turned
combine-returns-clause-turned t c =
    combine_all _ _ _ _ _ c.args.level c.loop-k.k c.if-level-eq0.false (omega (arith, c.size_in-k-end.ensures, c.loop-k-test.false)) c.loop-k.invariant.joined

pub combine_slot-stays-requires : goal.combine_slot-stays-requires
combine_slot-stays-requires t c = (search (in_x, in_y), c.requires.1)

pub combine_slot-returns-then-stays-clause-turned : goal.combine_slot-returns-then-stays-clause-turned
combine_slot-returns-then-stays-clause-turned t c = let p = c.requires in slot_stays p.0 p.2 p.1 (join_o c.args.join) c.stays.ensures c.if-stays.true

pub combine_slot-slot-requires : goal.combine_slot-slot-requires
combine_slot-slot-requires t c = search (in_x, in_y)

pub combine_slot-returns-in_default-clause-turned : goal.combine_slot-returns-in_default-clause-turned
combine_slot-returns-in_default-clause-turned t c =
    let a = c.args in
    let p = c.requires in
    slot_value p.0 p.2 p.1 (join_o a.join) c.stays.ensures c.if-stays.false (branch_off _ a.level a.y a.k p.1 c.slot.ensures c.in_default.not-Branch) c.meet_value.ensures.turned

pub combine_slot-slot-requires-2 : goal.combine_slot-slot-requires-2
combine_slot-slot-requires-2 t c = search (in_x, in_y)

pub combine_slot-take_over-requires : goal.combine_slot-take_over-requires
combine_slot-take_over-requires t c =
    let a = c.args in
    let p = c.requires in
    (stands_x p.0, p.1, in_x p.0 p.2, in_y p.0 p.2, take_low a.level a.y a.k p.1 p.0 p.2 (branch_on _ a.level a.y a.k p.1 c.slot.ensures c.in-Branch.is))

pub combine_slot-returns-in_default-slot-clause-turned : goal.combine_slot-returns-in_default-slot-clause-turned
combine_slot-returns-in_default-slot-clause-turned t c =
    let a = c.args in
    let p = c.requires in
    slot_taken p.0 p.2 p.1 (join_o a.join) c.stays.ensures c.if-stays.false (branch_on _ a.level a.y a.k p.1 c.slot.ensures c.in-Branch.is)
    (branch_off _ a.level a.x a.k p.1 c.slot-2.ensures c.in_default-slot.not-Branch) c.take_over.ensures.turned

pub combine_slot-overflow_add-a : goal.combine_slot-overflow_add-a
combine_slot-overflow_add-a t c =
    let p = c.requires in
    omega (arith, (stands_x (both p.0 p.2 p.1 c.slot.ensures c.in-Branch.is c.slot-2.ensures c.in-Branch-slot.is).may).node, c.args.pool.now.sized.most)

pub combine_slot-overflow_add-b : goal.combine_slot-overflow_add-b
combine_slot-overflow_add-b t c =
    let p = c.requires in
    omega (arith, (stands_y (both p.0 p.2 p.1 c.slot.ensures c.in-Branch.is c.slot-2.ensures c.in-Branch-slot.is).may).node, c.args.pool.now.sized.most)

pub combine_slot-join_leaf-requires : goal.combine_slot-join_leaf-requires
unfolding state
combine_slot-join_leaf-requires t c =
    let p = c.requires in
    leaf_may (omega (arith, c.if-level-eq1.true)) c.args.pool.now.sized (both p.0 p.2 p.1 c.slot.ensures c.in-Branch.is c.slot-2.ensures c.in-Branch-slot.is).may

pub combine_slot-returns-then-level-eq1-clause-turned : goal.combine_slot-returns-then-level-eq1-clause-turned
unfolding state
combine_slot-returns-then-level-eq1-clause-turned t c =
    let p = c.requires in
    slot_joined p.0 p.2 p.1 (join_o c.args.join) c.stays.ensures c.if-stays.false (both p.0 p.2 p.1 c.slot.ensures c.in-Branch.is c.slot-2.ensures c.in-Branch-slot.is)
    (combine_leaf _ _ _ _ _ (c.args.level - 1) (omega (arith, c.if-level-eq1.true)) (c.join_leaf.ensures _))

pub combine_slot-combine-requires : goal.combine_slot-combine-requires
combine_slot-combine-requires t c =
    let p = c.requires in
    (omega (arith, p.1), (both p.0 p.2 p.1 c.slot.ensures c.in-Branch.is c.slot-2.ensures c.in-Branch-slot.is).may)

pub combine_slot-returns-clause-turned : goal.combine_slot-returns-clause-turned
combine_slot-returns-clause-turned t c =
    let p = c.requires in
    slot_joined p.0 p.2 p.1 (join_o c.args.join) c.stays.ensures c.if-stays.false (both p.0 p.2 p.1 c.slot.ensures c.in-Branch.is c.slot-2.ensures c.in-Branch-slot.is) c.combine.ensures.turned
