use native.Mathlib.Omega.{arith}
use Rattle.nodes.proofs.Paths.{slot_in, stands_below}
use Rattle.nodes.proofs.Removes.{split_low, remove_leaf, remove_stop, remove_new, remove_back}
use Rattle.nodes.proofs.pool.Pool.+remove.Goals as goal

pub hide-requires : goal.hide-requires
hide-requires t c = slot_in _ c.requires c.slot_in-k.ensures

pub returns-then-level-eq0-clause-turned : goal.returns-then-level-eq0-clause-turned
returns-then-level-eq0-clause-turned t c = remove_leaf _ c.args.level _ _ _ c.slot_in-k.ensures c.if-level-eq0.true c.hide.ensures.turned

pub kid-old-requires : goal.kid-old-requires
kid-old-requires t c = slot_in _ c.requires c.slot_in-k.ensures

pub slot-s-requires : goal.slot-s-requires
slot-s-requires t c = slot_in _ c.requires c.slot_in-k.ensures

pub split-requires : goal.split-requires
split-requires t c = slot_in _ c.requires c.slot_in-k.ensures

pub returns-in_default-clause-turned : goal.returns-in_default-clause-turned
returns-in_default-clause-turned t c =
    let p = c.split.ensures in
    remove_stop _ c.args.level _ _ _ c.slot_in-k.ensures _ c.if-level-eq0.false c.slot-s.ensures (c.in_default.ensures.answer, p.turned)

pub overflow_add-c : goal.overflow_add-c
overflow_add-c t c = omega (arith, split_low _ _ _ c.in-Some.ensures.answer)

pub remove-requires : goal.remove-requires
remove-requires t c =
    let p = c.split.ensures in
    let h = c.if-level-eq0.false in
    (omega arith, rw p.kept.n (stands_below c.requires h _ (split_low _ _ _ c.in-Some.ensures.answer)))

pub shut-requires : goal.shut-requires
shut-requires t c = rw (c.remove.ensures.kept.n, c.split.ensures.kept.n) (slot_in _ c.requires c.slot_in-k.ensures)

pub returns-then-old-clause-turned : goal.returns-then-old-clause-turned
returns-then-old-clause-turned t c =
    let p = c.split.ensures in
    let r = c.remove.ensures in
    remove_back _ c.args.level _ _ _ c.slot_in-k.ensures _ c.if-level-eq0.false c.slot-s.ensures (c.in-Some.ensures.answer, p.turned)
    (simp p.kept.n at r.turned) c.kid-old.ensures c.if-old.true (simp (r.kept.n, p.kept.n) at c.shut.ensures.turned)

pub returns-else-old-clause-turned : goal.returns-else-old-clause-turned
returns-else-old-clause-turned t c =
    let p = c.split.ensures in
    remove_new _ c.args.level _ _ _ c.slot_in-k.ensures _ c.if-level-eq0.false c.slot-s.ensures (c.in-Some.ensures.answer, p.turned)
    (simp p.kept.n at c.remove.ensures.turned) c.kid-old.ensures c.if-old.false
