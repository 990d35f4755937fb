-- Words shifted and put together. Assumes nothing.
use mathlib.Core.Path.{◌≡◌, sym, ap, ap₂, ◌∙◌}
use mathlib.Core.Logic.{inl, inr}
use mathlib.Core.List.{List}
use mathlib.Core.Bool.{Bool, ◌&&◌, ◌||◌, or-false}
use Prim.Native.Nat.{ℕ, ◌+◌, ◌-◌, ◌*◌, ◌/◌, ◌%◌, ◌^◌, ◌<◌}
use native.Mathlib.Omega.{arith}
use lib.Dec.{ltb}
use lib.ListN.{get_or}
use lib.Pow.{shr-shr}
use lib.Bits.{bit_or}
use borrow.Author.Tests.{le-leb, lt-leb, lt-ltb, le-ltb}
use Rattle.bitset.specs.Set.{Sized, word_bit, bit_of, up}
use Rattle.bitset.proofs.Digits.{lt_or_le}
use Rattle.bitset.proofs.Words.{ones, or_acts, ones_bit, shl_bit, shl_bit_out, shr_bit, shr_bit_out}
use Rattle.bitset.proofs.Sets.{Has, has_own}

-- ---- the 64 bits from bit p on, of two words of the set
pub window_bits : (ws : List ℕ) (p : ℕ) → get_or ws (p / 64 + 1) 0 < 2 ^ 64 → (r : ℕ) → r < 64
    → word_bit (bit_or (get_or ws (p / 64) 0 * 2 ^ (p % 64) % 2 ^ 64) (get_or ws (p / 64 + 1) 0 / 2 ^ 1 / 2 ^ (63 - p % 64))) r ≡ bit_of ws (p + r)
window_bits ws p l r h =
    let o = p % 64 in
    let here = get_or ws (p / 64) 0 in
    let next = get_or ws (p / 64 + 1) 0 in
    let t : 1 + (63 - o) ≡ 64 - o = omega arith in
    or_acts.by_bits (here * 2 ^ o % 2 ^ 64) (next / 2 ^ 1 / 2 ^ (63 - o)) r
    ∙ ap (λ (x : ℕ). word_bit (here * 2 ^ o % 2 ^ 64) r || word_bit x r) (shr-shr next 1 (63 - o) ∙ ap (λ (n : ℕ). next / 2 ^ n) t)
    ∙ elim (lt_or_le (r + o) 64) [
      | inl q ↦
          let e : 64 * (p / 64) + (r + o) ≡ p + r = omega arith in
          ap₂ (λ (x y : Bool). x || y) (shl_bit here o r h q) (shr_bit_out next (64 - o) r h l (omega arith))
          ∙ or-false (word_bit here (r + o)) ∙ has_own ws (p / 64) (r + o) q ∙ ap (bit_of ws) e
      | inr q ↦
          let e : 64 * (p / 64 + 1) + (r - (64 - o)) ≡ p + r = omega arith in
          ap₂ (λ (x y : Bool). x || y) (shl_bit_out here o r h q) (shr_bit next (64 - o) r h (omega arith))
          ∙ has_own ws (p / 64 + 1) (r - (64 - o)) (omega arith) ∙ ap (bit_of ws) e
    ]

-- ---- word q of the set moved up by s
module _ (ws : List ℕ) (q s : ℕ) where
  -- it starts before the set's first word, and ends in it
  pub moved_part : 64 * q < s → s < 64 * q + 64 → get_or ws 0 0 < 2 ^ 64 → Has (up ws s) q (get_or ws 0 0 / 2 ^ (s - 64 * q))
  moved_part a b l r h = elim (lt_or_le r (s - 64 * q)) [
    | inl k ↦ shr_bit_out (get_or ws 0 0) (s - 64 * q) r h l k ∙ sym (ap (λ (t : Bool). t && bit_of ws (64 * q + r - s)) (lt-leb s (64 * q + r) (omega arith)))
    | inr k ↦
        let e : 64 * 0 + (r - (s - 64 * q)) ≡ 64 * q + r - s = omega arith in
        shr_bit (get_or ws 0 0) (s - 64 * q) r h k ∙ has_own ws 0 (r - (s - 64 * q)) (omega arith) ∙ ap (bit_of ws) e
        ∙ sym (ap (λ (t : Bool). t && bit_of ws (64 * q + r - s)) (le-leb s (64 * q + r) (omega arith)))
  ]

-- ---- the mask of the bits below n in the last of m words
pub mask_has : (m n : ℕ) → Sized m n → Has (λ k. ltb k n) (m - 1) (ones * 2 ^ (64 * m - n) % 2 ^ 64)
mask_has m n z r h = elim (lt_or_le (r + (64 * m - n)) 64) [
  | inl q ↦ shl_bit ones (64 * m - n) r h q ∙ ones_bit (r + (64 * m - n)) ∙ sym (lt-ltb (64 * (m - 1) + r) n (omega arith))
  | inr q ↦ shl_bit_out ones (64 * m - n) r h q ∙ sym (le-ltb (64 * (m - 1) + r) n (omega arith))
]
