-- A leaf as one piece of words: its slots by word and bit, and the far word that a sign is carried as. Assumes nothing.
use mathlib.Core.Path.{◌≡◌, refl, sym, ap, ◌∙◌}
use mathlib.Core.Bool.{Bool, true, false}
use mathlib.Core.List.{List, []}
use Prim.Native.Nat.{ℕ, zero, suc, ◌+◌, ◌-◌, ◌*◌, ◌<◌, ◌≤◌}
use native.Mathlib.Omega.{arith}
use lib.ListN.{length, get_or, set}
use lib.Seq.{set-get_or}
use Rattle.bitset.specs.Set.{bit_of, word_bit}
use Rattle.bitset.proofs.Words.{ones, zero_bit, ones_bit}
use Rattle.bitset.proofs.Sets.{has_own}
use Rattle.bitset.proofs.First.{Leads}
use Rattle.floats.specs.Value.{negative, far_with}
use Rattle.grid.specs.Node.{size}
use Rattle.nodes.specs.State.{St}
use Rattle.nodes.specs.Layout.{word_of}
use Rattle.nodes.specs.Range.{In, Stands, Cells}
use Rattle.nodes.proofs.Places.{wide_cell, word_cell}
use Rattle.nodes.proofs.States.{st_slot, st_val}
use Rattle.nodes.proofs.Paths.{leaf_cell}
use Rattle.trees.specs.Slot.{hidden_s}
use Rattle.signs.specs.Signs.{behind_s, start_s, write_s, carry_s, along_z, along_y, along_x, row_z, row_y, rows_m}
use Rattle.signs.specs.Seen.{Seen, seen, LeafShows}
use Rattle.trees.proofs.Slots.{hidden_no, hidden_leaf, word_step}
use Rattle.signs.proofs.SignAt.{sign_leaf, start_past, start_none, start_found, write_yes, write_no}

-- ---- a slot of a leaf, by its word and its bit
module _ {p v : ℕ} {q : Seen} (slots : List ℕ) (a : LeafShows p v q (length slots)) (k : ℕ) (h : k < 64) where
  slot_in : In q.n q.x k
  slot_in = record { node = a.node; slot = omega (arith, wide_cell q.x a.cell) }

  place_is : p + k ≡ word_of q.x k
  place_is = omega (arith, a.words, word_cell q.x k a.cell)

  slot_is : get_or slots (p + k) 0 ≡ (seen q slots).slot q.x k
  slot_is = ap (λ (i : ℕ). get_or slots i 0) place_is ∙ sym (st_slot slots q.masks q.book slot_in)

  val_is : word_bit v k ≡ (seen q slots).val q.x k
  val_is =
      let e : 64 * (120 + q.n + q.x) + k ≡ 64 * (64 + q.n) + word_of q.x k = omega (arith, word_cell q.x k a.cell) in
      ap (λ (w : ℕ). word_bit w k) a.values ∙ has_own q.masks (120 + q.n + q.x) k h ∙ ap (bit_of q.masks) e ∙ sym (st_val slots q.masks q.book slot_in)

  hidden_is : word_bit v k ≡ false → true ≡ hidden_s [] (seen q slots) q.x k
  hidden_is e = hidden_leaf (seen q slots) 0 q.x k val_is e refl

  write_none : word_bit v k ≡ true → (g : Bool) → seen q slots ≡ write_s [] q.x k g (seen q slots)
  write_none e g = write_no [] q.x k g (seen q slots) (hidden_no (seen q slots) 0 q.x k val_is e) refl

-- ---- the sign from which the rows start
module _ {p v : ℕ} {q : Seen} (slots : List ℕ) (a : LeafShows p v q (length slots)) where
  pub starts_none : v ≡ 0 → far_with false ≡ far_with (start_s [] q.n (seen q slots) q.x 0 (size 2))
  unfolding size
  starts_none z = ap far_with (start_none [] q.n (seen q slots) q.x 64 64
      (start_past [] q.n (seen q slots) q.x 64 64 (omega arith) (λ j l. hidden_is slots a j l (ap (λ (w : ℕ). word_bit w j) z ∙ zero_bit j))) (omega arith))

  pub starts_at : {k : ℕ} → Leads v k → far_with (negative (get_or slots (p + k) 0)) ≡ far_with (start_s [] q.n (seen q slots) q.x 0 (size 2))
  unfolding size
  starts_at {k} d =
      let s = seen q slots in
      ap far_with (start_found [] q.n s q.x 64 k (start_past [] q.n s q.x 64 k (omega (arith, d.within)) (λ j l. hidden_is slots a j (omega (arith, d.within)) (d.before j l))) d.within
      (hidden_no s 0 q.x k (val_is slots a k d.within) d.on) refl (sign_leaf q.n s 0 q.x k refl (ap negative (slot_is slots a k d.within))))

-- ---- one slot, by the bit of it that was read
module _ {p v k : ℕ} {b : Bool} (h : k < 64) (e : b ≡ word_bit v k) {q : Seen} (slots : List ℕ) (a : LeafShows p v q (length slots)) (g : Bool) where
  val_by : (seen q slots).val q.x k ≡ b
  val_by = sym (val_is slots a k h) ∙ sym e

  pub behind_on : b ≡ true → far_with (negative (get_or slots (p + k) 0)) ≡ far_with (behind_s [] q.n (seen q slots) q.x k g)
  unfolding behind_s
  behind_on t = ap (λ (w : ℕ). far_with (negative w)) (slot_is slots a k h) ∙ sym (rw (val_by ∙ t) refl)

  pub behind_off : b ≡ false → far_with g ≡ far_with (behind_s [] q.n (seen q slots) q.x k g)
  unfolding behind_s
  behind_off t = sym (rw (val_by ∙ t) refl)

  pub write_on : b ≡ true → seen q (set slots (p + k) (get_or slots (p + k) 0)) ≡ write_s [] q.x k g (seen q slots)
  write_on t = ap (seen q) (set-get_or slots (p + k) 0) ∙ write_none slots a k h (sym e ∙ t) g

  pub write_off : b ≡ false → seen q (set slots (p + k) (far_with g)) ≡ write_s [] q.x k g (seen q slots)
  write_off t = write_yes [] q.x k g (seen q slots) (hidden_is slots a k h (sym e ∙ t)) refl refl
      (word_step q.n slots _ q.masks q.book (far_with g) a.fit (slot_in slots a k h) (ap (λ (i : ℕ). set slots i (far_with g)) (place_is slots a k h)))

-- ---- "A full node is left as it is"
carry_same : (f : ℕ → Bool → St → Bool × St) (m : ℕ) (g : Bool) (s : St) → ((j : ℕ) → j < m → (h : Bool) → s ≡ (f j h s).1) → s ≡ (carry_s f m g s).1
unfolding carry_s
carry_same f zero g s q = refl
carry_same f (suc m) g s q = q m (omega arith) (carry_s f m g s).0 ∙ ap (λ (t : St). (f m (carry_s f m g s).0 t).1) (carry_same f m g s (λ j l. q j (omega arith)))

module _ {p v : ℕ} {q : Seen} (slots : List ℕ) (a : LeafShows p v q (length slots)) (e : v ≡ ones) where
  z_same : (i : ℕ) → i + 4 ≤ 64 → (g : Bool) → seen q slots ≡ row_z 2 [] q.n q.x i g (seen q slots)
  unfolding row_z
  z_same i l g = carry_same (along_z 2 [] q.n q.x i) 4 g (seen q slots) (λ j h g. write_none slots a (i + j) (omega arith) (ap (λ (w : ℕ). word_bit w (i + j)) e ∙ ones_bit (i + j)) _)

  y_same : (i : ℕ) → i + 16 ≤ 64 → (g : Bool) → seen q slots ≡ row_y 2 [] q.n q.x i g (seen q slots)
  unfolding row_y
  y_same i l g = carry_same (along_y 2 [] q.n q.x i) 4 g (seen q slots) (λ j h g. z_same (i + j * 4) (omega arith) _)

  pub full_same : seen q slots ≡ rows_m 2 [] q.n q.x (seen q slots)
  unfolding rows_m
  full_same = carry_same (along_x 2 [] q.n q.x) 4 _ (seen q slots) (λ j h g. y_same (j * 16) (omega arith) _)

-- ---- what the code has of leaf x
pub leaf_at : {n x : ℕ} {slots masks book : List ℕ} → Cells n slots masks → Stands n 0 x
    → LeafShows (4096 + 64 * (x - 8)) (get_or masks (128 + n + (x - 8)) 0) (record { n = n; x = x; masks = masks; book = book }) (length slots)
leaf_at {n} {x} {slots} {masks} c s =
    let h : 8 ≤ x = leaf_cell s refl in
    let q : 128 + n + (x - 8) ≡ 120 + n + x = omega arith in
    record { cell = h; node = s.node; fit = c.slots_fit; words = omega arith; values = ap (λ (i : ℕ). get_or masks i 0) q }
