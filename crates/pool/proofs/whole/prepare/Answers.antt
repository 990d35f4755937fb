use mathlib.Core.Path.{refl, sym, ◌∙◌}
use Rattle.seats.specs.Call.{Prepare}
use Rattle.voxels.specs.Answers.{mem_of, done_of}
use Rattle.voxels.proofs.Promises.{counted, exit_says, is_sized}
use Rattle.pool.proofs.WholePromises.{prepare_refused, prepare_says}
use Rattle.pool.proofs.whole.prepare.Goals as goal

pub returns-in_err-n : goal.returns-in_err-n
returns-in_err-n c =
    let a = c.args in
    exit_says done_of (λ n. refl) Prepare (mem_of a.slots.now a.masks.now a.book.now) _ c.from_residual.ensures.1
    (prepare_refused (mem_of a.slots.now a.masks.now a.book.now) _ c.in_err-n.ensures.ok_part c.in_err-n.ensures.value (c.cells.ensures _ refl refl refl))

pub prepare-requires : goal.prepare-requires
prepare-requires c = let a = c.args in is_sized (counted _ (mem_of a.slots.now a.masks.now a.book.now) (sym c.in_ok-n.ensures.ok_part ∙ c.cells.ensures _ refl refl refl))

pub returns : goal.returns
returns c =
    let a = c.args in
    let l = c.prepare.new in
    let k = c.prepare.auto in
    prepare_says (mem_of a.slots.now a.masks.now a.book.now) (mem_of l.slots l.masks l.book) _
    (counted _ (mem_of a.slots.now a.masks.now a.book.now) (sym c.in_ok-n.ensures.ok_part ∙ c.cells.ensures _ refl refl refl))
    c.prepare.ensures.ready c.prepare.ensures.kept (record { slots = k.slots; masks = k.masks; book = k.book })
