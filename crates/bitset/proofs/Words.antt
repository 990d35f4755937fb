-- The bits of a word, from the top, under each operation that the code has. Assumes nothing.
use mathlib.Core.Path.{◌≡◌, refl, sym, ap, ◌∙◌, subst}
use mathlib.Core.Logic.{inl, inr}
use mathlib.Core.Bool.{Bool, true, false, not, ◌&&◌, ◌||◌, xor}
use Prim.Native.Nat.{ℕ, suc, ◌+◌, ◌-◌, ◌*◌, ◌/◌, ◌%◌, ◌^◌, ◌≤◌, ◌<◌}
use native.Mathlib.Nat.{lt_of_lt_of_le}
use native.Mathlib.Omega.{arith}
use lib.Dec.{T, eqb, lit<}
use lib.Pow.{pow_mono, pow-lt, pow-add, shl-shr}
use lib.Bits.{bit_and, bit_or, bit_xor, and_shr, and_mod, or_shr, or_mod, xor_shr, xor_mod}
use borrow.Author.Tests.{eq-eqb, ne_eqb}
use Rattle.bitset.specs.Set.{weight, word_bit}
use Rattle.bitset.proofs.Digits.{is_or_not, digit, digit_lt, bits2, digit_zero, digit_above, digit_shr, digit_shl_high, digit_shl_low, digit_mod64}
use Rattle.bitset.proofs.Digits.{digit_pow_same, digit_pow_other, digit_not, digits_ext}

-- the word of all ones
abbrev pub ones : ℕ
ones = 2 ^ 64 - 1

-- the place of a bit in its word is the remainder of its number
pub bit_rem : (w k : ℕ) → word_bit w k ≡ word_bit w (k % 64)
bit_rem w k = let e : k % 64 ≡ k % 64 % 64 = omega arith in ap (λ (r : ℕ). eqb (digit (63 - r) w) 1) e

-- bit r of a word, by the digit
pub bit_digit : (w r : ℕ) → r < 64 → word_bit w r ≡ eqb (digit (63 - r) w) 1
bit_digit w r h = let e : r % 64 ≡ r = omega arith in ap (λ (r : ℕ). eqb (digit (63 - r) w) 1) e

pub zero_bit : (k : ℕ) → word_bit 0 k ≡ false
zero_bit k = ap (λ (x : ℕ). eqb x 1) (digit_zero (63 - k % 64))

-- ---- two words are equal where their bits are
same_digit : (x y : ℕ) → x < 2 → y < 2 → eqb x 1 ≡ eqb y 1 → x ≡ y
same_digit x y hx hy =
    bits2 (λ x. eqb x 1 ≡ eqb y 1 → x ≡ y) x hx
    (bits2 (λ y. eqb 0 1 ≡ eqb y 1 → 0 ≡ y) y hy (λ e. refl) (λ e. absurd (subst T (sym e) tt)))
    (bits2 (λ y. eqb 1 1 ≡ eqb y 1 → 1 ≡ y) y hy (λ e. absurd (subst T e tt)) (λ e. refl))

pub word_ext : (a b : ℕ) → a < 2 ^ 64 → b < 2 ^ 64 → ((r : ℕ) → r < 64 → word_bit a r ≡ word_bit b r) → a ≡ b
word_ext a b A B h = digits_ext 64 a b A B (λ d l.
    let r : 63 - d < 64 = omega arith in
    let e : 63 - (63 - d) ≡ d = omega arith in
    let s : eqb (digit (63 - (63 - d)) a) 1 ≡ eqb (digit (63 - (63 - d)) b) 1 = sym (bit_digit a (63 - d) r) ∙ h (63 - d) r ∙ bit_digit b (63 - d) r in
    same_digit (digit d a) (digit d b) (digit_lt d a) (digit_lt d b) (subst (λ (j : ℕ). eqb (digit j a) 1 ≡ eqb (digit j b) 1) e s))

-- ---- a word operation that acts bit by bit, as f does
pub record Acts (op : ℕ → ℕ → ℕ) (f : Bool → Bool → Bool) : Type 0 where
  pub by_bits : (a b k : ℕ) → word_bit (op a b) k ≡ f (word_bit a k) (word_bit b k)

-- it does so where it goes through shifts and remainders, and acts so on the digits 0 and 1
module _ (op : ℕ → ℕ → ℕ) (f : Bool → Bool → Bool) where
  acts : ((a b k : ℕ) → op a b / 2 ^ k ≡ op (a / 2 ^ k) (b / 2 ^ k)) → ((a b k : ℕ) → op a b % 2 ^ k ≡ op (a % 2 ^ k) (b % 2 ^ k))
      → eqb (op 0 0) 1 ≡ f false false → eqb (op 0 1) 1 ≡ f false true → eqb (op 1 0) 1 ≡ f true false → eqb (op 1 1) 1 ≡ f true true → Acts op f
  acts shr rem oo oi io ii = record {
    by_bits = λ a b k.
        let j = 63 - k % 64 in
        ap (λ (x : ℕ). eqb (x % 2) 1) (shr a b j) ∙ ap (λ (x : ℕ). eqb x 1) (rem (a / 2 ^ j) (b / 2 ^ j) 1)
        ∙ bits2 (λ x. eqb (op x (digit j b)) 1 ≡ f (eqb x 1) (eqb (digit j b) 1)) (digit j a) (digit_lt j a)
        (bits2 (λ y. eqb (op 0 y) 1 ≡ f false (eqb y 1)) (digit j b) (digit_lt j b) oo oi)
        (bits2 (λ y. eqb (op 1 y) 1 ≡ f true (eqb y 1)) (digit j b) (digit_lt j b) io ii);
  }

pub and_acts : Acts bit_and ◌&&◌
and_acts = acts bit_and ◌&&◌ and_shr and_mod refl refl refl refl

pub or_acts : Acts bit_or ◌||◌
or_acts = acts bit_or ◌||◌ or_shr or_mod refl refl refl refl

pub xor_acts : Acts bit_xor xor
unfolding xor
xor_acts = acts bit_xor xor xor_shr xor_mod refl refl refl refl

pub not_bit : (a k : ℕ) → a < 2 ^ 64 → word_bit (ones - a) k ≡ not (word_bit a k)
not_bit a k l =
    let j = 63 - k % 64 in
    let e : suc (k % 64) + j ≡ 64 = omega arith in
    let d : digit j (2 ^ 64 - 1 - a) ≡ 1 - digit j a = subst (λ (n : ℕ). a < 2 ^ n → digit j (2 ^ n - 1 - a) ≡ 1 - digit j a) e (digit_not (k % 64) j a) l in
    ap (λ (x : ℕ). eqb x 1) d ∙ bits2 (λ x. eqb (1 - x) 1 ≡ not (eqb x 1)) (digit j a) (digit_lt j a) refl refl

pub ones_bit : (k : ℕ) → word_bit ones k ≡ true
ones_bit k = not_bit 0 k (lit< tt) ∙ ap not (zero_bit k)

-- ---- the weight of bit i has that one bit
pub weight_is : (i : ℕ) → 2 ^ 63 / 2 ^ (i % 64) ≡ weight i
weight_is i =
    let e : 63 - i % 64 + i % 64 ≡ 63 = omega arith in
    ap (λ (n : ℕ). 2 ^ n / 2 ^ (i % 64)) (sym e) ∙ ap (λ (n : ℕ). n / 2 ^ (i % 64)) (pow-add 2 (63 - i % 64) (i % 64)) ∙ shl-shr (2 ^ (63 - i % 64)) (i % 64)

pub weight_lt : (i : ℕ) → weight i < 2 ^ 64
weight_lt i = let h : suc (63 - i % 64) ≤ 64 = omega arith in lt_of_lt_of_le (pow_up (63 - i % 64)) (pow_mono h)
  where
    pow_up : (j : ℕ) → 2 ^ j < 2 ^ suc j
    pow_up j = pow-lt (omega arith)

pub weight_bit : (i k : ℕ) → word_bit (weight i) k ≡ eqb (k % 64) (i % 64)
weight_bit i k = elim (is_or_not (k % 64) (i % 64)) [
  | inl e ↦ ap (λ (x : ℕ). eqb (digit (63 - x) (weight i)) 1) e ∙ ap (λ (x : ℕ). eqb x 1) (digit_pow_same (63 - i % 64)) ∙ sym (eq-eqb (k % 64) (i % 64) e)
  | inr ne ↦ ap (λ (x : ℕ). eqb x 1) (digit_pow_other (63 - i % 64) (63 - k % 64) (λ e. ne (omega arith))) ∙ sym (ne_eqb (k % 64) (i % 64) ne)
]

-- ---- a shift moves the bits, and what comes in is off
module _ (w s r : ℕ) (h : r < 64) where
  pub shl_bit : r + s < 64 → word_bit (w * 2 ^ s % 2 ^ 64) r ≡ word_bit w (r + s)
  shl_bit l =
      let e : 63 - r - s ≡ 63 - (r + s) = omega arith in
      bit_digit (w * 2 ^ s % 2 ^ 64) r h
      ∙ ap (λ (x : ℕ). eqb x 1) (digit_mod64 (63 - r) (w * 2 ^ s) (omega arith) ∙ digit_shl_high (63 - r) s w (omega arith) ∙ ap (λ (j : ℕ). digit j w) e)
      ∙ sym (bit_digit w (r + s) l)

  pub shl_bit_out : 64 ≤ r + s → word_bit (w * 2 ^ s % 2 ^ 64) r ≡ false
  shl_bit_out l =
      bit_digit (w * 2 ^ s % 2 ^ 64) r h
      ∙ ap (λ (x : ℕ). eqb x 1) (digit_mod64 (63 - r) (w * 2 ^ s) (omega arith) ∙ digit_shl_low (63 - r) s w (omega arith))

  pub shr_bit : s ≤ r → word_bit (w / 2 ^ s) r ≡ word_bit w (r - s)
  shr_bit l =
      let e : s + (63 - r) ≡ 63 - (r - s) = omega arith in
      bit_digit (w / 2 ^ s) r h ∙ ap (λ (x : ℕ). eqb x 1) (digit_shr (63 - r) s w ∙ ap (λ (j : ℕ). digit j w) e) ∙ sym (bit_digit w (r - s) (omega arith))

  pub shr_bit_out : w < 2 ^ 64 → r < s → word_bit (w / 2 ^ s) r ≡ false
  shr_bit_out l b =
      let far : 64 ≤ s + (63 - r) = omega arith in
      bit_digit (w / 2 ^ s) r h ∙ ap (λ (x : ℕ). eqb x 1) (digit_shr (63 - r) s w ∙ digit_above (s + (63 - r)) w (lt_of_lt_of_le l (pow_mono far)))
