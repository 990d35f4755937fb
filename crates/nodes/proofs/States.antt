-- What lent memory holds, as the state: each field at a slot by the place of its word or bit. Assumes nothing.
use mathlib.Core.Path.{◌≡◌, refl, sym, ◌∙◌}
use mathlib.Core.Bool.{Bool, false}
use mathlib.Core.List.{List}
use Prim.Native.Nat.{ℕ, ◌+◌, ◌*◌}
use native.Mathlib.Omega.{arith}
use lib.ListN.{length, get_or}
use Rattle.bitset.specs.Set.{bit_of}
use Rattle.nodes.specs.Layout.{Sized, st, word_of, kid_bit, val_bit, count_place}
use Rattle.nodes.specs.Range.{In, Placed, Cells, Masked, Booked}
use Rattle.nodes.proofs.Places.{spread_in, placed}

module _ (slots masks book : List ℕ) {n x k : ℕ} (i : In n x k) where
  pub st_slot : (st n slots masks book).slot x k ≡ get_or slots (word_of x k) 0
  unfolding st
  st_slot = spread_in n 0 (λ p. get_or slots p 0) i

  pub st_kid : (st n slots masks book).kid x k ≡ bit_of masks (kid_bit x k)
  unfolding st
  st_kid = spread_in n false (bit_of masks) i

  pub st_val : (st n slots masks book).val x k ≡ bit_of masks (val_bit n x k)
  unfolding st
  st_val = spread_in n false (λ p. bit_of masks (64 * (64 + n) + p)) i

  pub val_by : {v : Bool} (b : Bool) → v ≡ bit_of masks (val_bit n x k) → v ≡ b → (st n slots masks book).val x k ≡ b
  val_by b p q = st_val ∙ sym p ∙ q

pub st_count : (n : ℕ) (slots masks book : List ℕ) → (st n slots masks book).count ≡ get_or book count_place 0
unfolding st
st_count n slots masks book = refl

-- ---- what is asked of two slices, and of the book
pub cells_of : {n : ℕ} {slots masks book : List ℕ} → Sized n slots masks book → Cells n slots masks
cells_of z = record { most = z.most; slots_fit = z.slots_fit; masks_fit = z.masks_fit }

pub booked_of : {n : ℕ} {slots masks book : List ℕ} → Sized n slots masks book → Booked n book
booked_of z = record { most = z.most; book_fit = z.book_fit }

pub masked_of : {n : ℕ} {slots masks book : List ℕ} → Sized n slots masks book → Masked n masks
masked_of z = record { most = z.most; masks_fit = z.masks_fit }

pub cells_kept : {n : ℕ} {a d e a' d' : List ℕ} → Sized n a d e → length a' ≡ length a → length d' ≡ length d → Cells n a' d'
cells_kept z p q = record { most = z.most; slots_fit = p ∙ z.slots_fit; masks_fit = q ∙ z.masks_fit }

-- ---- the calls on one slice may be made
module _ {slots masks : List ℕ} {n x k : ℕ} (z : Cells n slots masks) (i : In n x k) where
  pub word_may : Placed x k (length slots)
  word_may = placed z.most i (length slots) (omega (arith, z.slots_fit))

  pub kid_may : Placed x k (64 * length masks)
  kid_may = placed z.most i (64 * length masks) (omega (arith, z.masks_fit))

  pub val_may : (Masked n masks) × Placed x k (64 * (64 + n))
  val_may = (record { most = z.most; masks_fit = z.masks_fit }, placed z.most i (64 * (64 + n)) (omega arith))
