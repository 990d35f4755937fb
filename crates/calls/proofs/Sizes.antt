-- The lengths that are told belong together: a pool can be lent exactly where lengths are told. Assumes nothing.
use mathlib.Core.Path.{◌≡◌, refl, ◌∙◌, ap}
use mathlib.Core.Bool.{true}
use Prim.Native.Nat.{ℕ, ◌<◌}
use native.Mathlib.Omega.{arith}
use lib.ListN.{length}
use borrow.Author.Tests.{lt-ltb, le-ltb}
use Rattle.nodes.specs.Layout.{slots_length, masks_length, book_length}
use Rattle.means.specs.Mem.{Mem, cells_of, fits}
use Rattle.means.proofs.Memory.{Fitting, fitting}
use Rattle.sound.proofs.Fits.{fit_is}
use Rattle.calls.specs.Forms.{no_sizes, sizes_of}

pub sizes_are : (n : ℕ) → 0 < n → n < 65536 → sizes_of n ≡ record { code = 0; slots = slots_length n; masks = masks_length n; book = book_length n }
sizes_are n some most = rw (lt-ltb 0 n some, lt-ltb n 65536 most) refl

pub none_below : (n : ℕ) → n < 1 → sizes_of n ≡ no_sizes
none_below n l = rw (le-ltb 0 n (omega arith)) refl

pub none_above : (n : ℕ) → 65535 < n → sizes_of n ≡ no_sizes
none_above n l = rw (lt-ltb 0 n (omega arith), le-ltb n 65536 (omega arith)) refl

-- memory with the lengths that are told for n cells is never refused for its lengths, and holds n cells
pub sizes_fit : (n : ℕ) (m : Mem) → 0 < n → n < 65536 → length m.slots ≡ (sizes_of n).slots → length m.masks ≡ (sizes_of n).masks → length m.book ≡ (sizes_of n).book
    → (fits m ≡ true) × (cells_of m ≡ n)
sizes_fit n m some most a b c =
    let told = sizes_are n some most in
    let s : length m.slots ≡ slots_length n = a ∙ ap (λ z. z.slots) told in
    let k : length m.masks ≡ masks_length n = b ∙ ap (λ z. z.masks) told in
    let o : length m.book ≡ book_length n = c ∙ ap (λ z. z.book) told in
    let e : cells_of m ≡ n = omega (arith, s) in
    let f : Fitting m = record { some = omega (arith, e); most = omega (arith, e); slots = omega (arith, e); masks = omega (arith, e); book = omega (arith, e) } in
    (fit_is m f, e)

-- and memory that is not refused for its lengths has those that are told for its cells
pub fit_sizes : (m : Mem) → fits m ≡ true → sizes_of (cells_of m) ≡ record { code = 0; slots = length m.slots; masks = length m.masks; book = length m.book }
fit_sizes m e = let f = fitting m e in sizes_are (cells_of m) f.some f.most ∙ cc (f.slots, f.masks, f.book)
