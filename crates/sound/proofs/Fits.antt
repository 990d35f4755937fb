-- The test of the lent lengths, from the facts that make it up. Assumes nothing.
use mathlib.Core.Path.{◌≡◌, refl}
use mathlib.Core.Bool.{true, false}
use borrow.Author.Tests.{lt-ltb, eq-eqb}
use borrow.Table.Steps.{cases}
use Rattle.means.specs.Mem.{Mem, cells_of, fits}
use Rattle.means.proofs.Memory.{Fitting, fitting}

pub fit_is : (m : Mem) → Fitting m → fits m ≡ true
unfolding fits
fit_is m f =
    rw (lt-ltb 0 (cells_of m) f.some, lt-ltb (cells_of m) 65536 f.most, eq-eqb _ _ f.slots, eq-eqb _ _ f.masks, eq-eqb _ _ f.book) refl

pub fit_not : (m : Mem) → (Fitting m → ⊥) → fits m ≡ false
fit_not m bad = cases (fits m) (λ e. absurd (bad (fitting m e))) (λ e. e)
