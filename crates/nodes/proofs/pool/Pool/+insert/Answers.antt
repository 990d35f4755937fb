use native.Mathlib.Omega.{arith}
use Rattle.nodes.proofs.Paths.{slot_in, stands_below}
use Rattle.nodes.proofs.Inserts.{step_low, insert_leaf, insert_stop, insert_go}
use Rattle.nodes.proofs.pool.Pool.+insert.Goals as goal

pub put-requires : goal.put-requires
put-requires t c = slot_in _ c.requires.0 c.slot_in-k.ensures

pub returns-then-level-eq0-clause-turned : goal.returns-then-level-eq0-clause-turned
returns-then-level-eq0-clause-turned t c = insert_leaf _ c.args.level _ _ _ _ c.slot_in-k.ensures c.if-level-eq0.true c.put.ensures.turned

pub slot-s-requires : goal.slot-s-requires
slot-s-requires t c = slot_in _ c.requires.0 c.slot_in-k.ensures

pub descend-requires : goal.descend-requires
descend-requires t c = (slot_in _ c.requires.0 c.slot_in-k.ensures, c.requires.1)

pub returns-in_default-clause-turned : goal.returns-in_default-clause-turned
returns-in_default-clause-turned t c =
    let p = c.descend.ensures in
    insert_stop _ c.args.level _ _ _ _ c.slot_in-k.ensures _ c.if-level-eq0.false c.slot-s.ensures (c.in_default.ensures.answer, p.turned)

pub overflow_add-c : goal.overflow_add-c
overflow_add-c t c = omega (arith, step_low _ _ _ _ c.in-Some.ensures.answer)

pub insert-requires : goal.insert-requires
insert-requires t c =
    let p = c.descend.ensures in
    let h = c.if-level-eq0.false in
    (omega arith, (rw p.kept.n (stands_below c.requires.0 h _ (step_low _ _ _ _ c.in-Some.ensures.answer)), c.requires.1))

pub returns-in-Some-clause-turned : goal.returns-in-Some-clause-turned
returns-in-Some-clause-turned t c =
    let p = c.descend.ensures in
    insert_go _ c.args.level _ _ _ _ c.slot_in-k.ensures _ c.if-level-eq0.false c.slot-s.ensures (c.in-Some.ensures.answer, p.turned)
    (simp p.kept.n at c.insert.ensures.turned)
