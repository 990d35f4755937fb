use mathlib.Core.Path.{refl}
use native.Mathlib.Omega.{arith}
use lib.Ieee.{of_bits}
use Rattle.floats.specs.Value.{is_finite}
use Rattle.voxels.specs.Answers.{mem_of}
use Rattle.demands.proofs.Witness.{ears_run}
use Rattle.demands.proofs.ears.Goals as goal

pub returns : goal.returns
unfolding is_finite of_bits
returns c =
    let a = c.args in
    let p = c.yoldrick_prepare.new in
    let l = c.yoldrick_insert.new in
    let r = c.yoldrick_insert-2.new in
    ears_run 4 _ _ _
    (mem_of a.slots.now a.masks.now a.book.now)
    (mem_of p.slots p.masks p.book)
    (mem_of l.slots l.masks l.book)
    (mem_of r.slots r.masks r.book)
    (mem_of r.slots r.masks r.book)
    _ _ _ _
    (omega arith) refl c.requires c.yoldrick_prepare.ensures c.yoldrick_insert.ensures c.yoldrick_insert-2.ensures c.yoldrick_lookup.ensures
