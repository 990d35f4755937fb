use mathlib.Core.Path.{refl, sym, ◌∙◌}
use native.Mathlib.Omega.{arith}
use Rattle.voxels.specs.Answers.{mem_of}
use Rattle.voxels.proofs.Promises.{counted, is_sized}
use Rattle.voxels.proofs.admit.admitted.Goals as goal

pub returns-clause-fit : goal.returns-clause-fit
returns-clause-fit c =
    let a = c.args in
    (is_sized (counted _ (mem_of a.slots.now a.masks.now a.book.now) (sym c.in_ok-n.ensures.ok_part ∙ c.cells.ensures _ refl refl refl)), omega arith)
