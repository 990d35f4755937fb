use mathlib.Core.Path.{refl}
use native.Mathlib.Omega.{arith}
use Rattle.seats.specs.Call.{Count}
use Rattle.means.proofs.Memory.{fitting}
use Rattle.voxels.specs.Answers.{mem_of}
use Rattle.voxels.proofs.Promises.{exit_says}
use Rattle.pool.specs.Count.{count_of}
use Rattle.pool.proofs.Guards.{clean, guard_refuses, guard_passes}
use Rattle.pool.proofs.WholePromises.{count_says}
use Rattle.pool.proofs.whole.count.Goals as goal

pub returns-in_err-guard : goal.returns-in_err-guard
returns-in_err-guard c =
    let a = c.args in
    exit_says count_of (λ n. refl) Count (mem_of a.slots.now a.masks.now a.book.now) _ c.from_residual.ensures.1
    (guard_refuses (mem_of a.slots.now a.masks.now a.book.now) Count refl refl c.in_err-guard.ensures)

pub bounds-book-8 : goal.bounds-book-8
bounds-book-8 c = let a = c.args in omega (arith, (fitting (mem_of a.slots.now a.masks.now a.book.now) (clean (mem_of a.slots.now a.masks.now a.book.now) _ c.in_ok-guard.ensures.0).fit).book)

pub returns : goal.returns
returns c = let a = c.args in count_says (mem_of a.slots.now a.masks.now a.book.now) (guard_passes (mem_of a.slots.now a.masks.now a.book.now) Count refl refl c.in_ok-guard.ensures.0) _ refl
