use mathlib.Core.Path.{refl, sym, ◌∙◌}
use Rattle.voxels.specs.Answers.{mem_of}
use Rattle.voxels.proofs.Promises.{counted, is_sized}
use Rattle.pool.proofs.Guards.{guard_damaged, guard_passed}
use Rattle.pool.proofs.guard.guard.Goals as goal

pub sound-requires : goal.sound-requires
sound-requires c = let a = c.args in is_sized (counted _ (mem_of a.slots.now a.masks.now a.book.now) (sym c.in_ok-n.ensures.ok_part ∙ c.cells.ensures _ refl refl refl))

pub returns-then-not-sound : goal.returns-then-not-sound
returns-then-not-sound c =
    let a = c.args in
    guard_damaged (counted _ (mem_of a.slots.now a.masks.now a.book.now) (sym c.in_ok-n.ensures.ok_part ∙ c.cells.ensures _ refl refl refl)) c.in_ok-given.was c.sound.ensures c.if-not-sound.true

pub returns : goal.returns
returns c =
    let a = c.args in
    guard_passed (counted _ (mem_of a.slots.now a.masks.now a.book.now) (sym c.in_ok-n.ensures.ok_part ∙ c.cells.ensures _ refl refl refl)) c.in_ok-given.was c.sound.ensures c.if-not-sound.false
