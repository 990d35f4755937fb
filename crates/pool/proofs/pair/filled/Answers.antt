use mathlib.Core.Path.{◌∙◌}
use Rattle.nodes.specs.Place.{seen}
use Rattle.pool.proofs.Guards.{handed_on}
use Rattle.pool.proofs.Pairs.{both_are, filled_6, filled_7, filled_last}
use Rattle.pool.proofs.pair.filled.Goals as goal

pub returns-then-not-both_filled : goal.returns-then-not-both_filled
returns-then-not-both_filled c =
    let a = c.args in
    let v = a.pool.now in
    filled_6 v.n (seen v a.book.now) a.a a.b (both_are v.n v.slots.now v.masks.now a.book.now a.a a.b (c.requires.1, c.requires.2) c.both_filled.ensures) c.if-not-both_filled.true

pub returns-in_err-solid : goal.returns-in_err-solid
returns-in_err-solid c =
    let a = c.args in
    let v = a.pool.now in
    handed_on _ _ c.from_residual.ensures.1
    ∙ filled_7 v.n (seen v a.book.now) a.a a.b (both_are v.n v.slots.now v.masks.now a.book.now a.a a.b (c.requires.1, c.requires.2) c.both_filled.ensures)
    c.if-not-both_filled.false _ (c.in_err-solid.ensures _)

pub returns : goal.returns
returns c =
    let a = c.args in
    let v = a.pool.now in
    filled_last v.n (seen v a.book.now) a.a a.b (both_are v.n v.slots.now v.masks.now a.book.now a.a a.b (c.requires.1, c.requires.2) c.both_filled.ensures)
    c.if-not-both_filled.false (c.in_ok-solid.ensures _) (c.solid-2.ensures _)
