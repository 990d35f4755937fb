use mathlib.Core.Path.{refl, sym, ◌∙◌}
use mathlib.Core.List.{[]}
use native.Mathlib.Omega.{arith}
use Rattle.nodes.specs.Range.{Cells}
use Rattle.nodes.proofs.Each.{each_none}
use Rattle.nodes.proofs.Paths.{slot_of_lem, stands_below}
use Rattle.trees.proofs.Slots.{child_low}
use Rattle.trees.proofs.Turns.{leaf_stands}
use Rattle.signs.proofs.Fills.{fill_stop, fill_go, fill_leaf, fill_all}
use Rattle.signs.proofs.fill.+fill_signs.Goals as goal

pub leaf_rows-requires : goal.leaf_rows-requires
leaf_rows-requires t c = let p = c.requires in (p.0, leaf_stands p.1 c.if-level-eq0.true)

pub returns-then-level-eq0 : goal.returns-then-level-eq0
returns-then-level-eq0 t c = λ book. fill_leaf _ c.args.level _ _ c.if-level-eq0.true (c.leaf_rows.ensures book)

pub loop-k-init : goal.loop-k-init
loop-k-init t c = λ book. each_none _ _

pub child-requires : goal.child-requires
child-requires t c = slot_of_lem c.requires.1 c.size_in-k-end.ensures c.loop-k-test.true

pub loop-k-preserved-in_default : goal.loop-k-preserved-in_default
loop-k-preserved-in_default t c = λ book. fill_stop _ c.args.level _ _ _ (c.loop-k.invariant book) c.in_default.is (c.child.ensures book)

pub overflow_add-c : goal.overflow_add-c
overflow_add-c t c =
    omega (arith, child_low _ _ [] (slot_of_lem c.requires.1 c.size_in-k-end.ensures c.loop-k-test.true) (sym c.in-Some.is ∙ c.child.ensures []), c.requires.0.most)

pub fill_signs-requires : goal.fill_signs-requires
fill_signs-requires t c =
    let h = c.if-level-eq0.false in
    let z = c.requires.0 in
    let i = slot_of_lem c.requires.1 c.size_in-k-end.ensures c.loop-k-test.true in
    let y : Cells _ _ _ = record { most = z.most; slots_fit = c.loop-k.auto.slots ∙ z.slots_fit; masks_fit = z.masks_fit } in
    (omega arith, (y, stands_below c.requires.1 h _ (child_low _ _ [] i (sym c.in-Some.is ∙ c.child.ensures []))))

pub loop-k-preserved : goal.loop-k-preserved
loop-k-preserved t c = λ book. fill_go _ c.args.level _ _ _ (c.loop-k.invariant book) c.in-Some.is (c.child.ensures book) (c.fill_signs.ensures book)

pub returns : goal.returns
returns t c = λ book.
    fill_all _ c.args.level _ _ _ c.if-level-eq0.false (omega (arith, c.size_in-k-end.ensures, c.loop-k-test.false)) (c.loop-k.invariant book) (c.rows.ensures _ refl)
