-- A word and the float it stands for: sign, negation, and the way there and back. Assumes nothing.
use mathlib.Core.Path.{◌≡◌, refl, sym, ap, ◌∙◌}
use mathlib.Core.Bool.{Bool, true, false, not, cond}
use Prim.Native.Nat.{ℕ, zero, suc, ◌+◌, ◌/◌, ◌%◌, ◌^◌, ◌<◌}
use native.Mathlib.Omega.{arith}
use lib.Dec.{T, leb, eqb}
use lib.Ieee.{Float, nan, inf, binary32, odd, of_fields, of_bits, to_bits, neg, fits}
use lib.Ieee.Bits.{of_bits-to_bits, to_bits-of_bits}
use Rattle.floats.specs.Value.{value, is_finite, negative, negated}
use Rattle.floats.proofs.Words.{negative_is_lem, negated_size, negated_fits}
use Rattle.floats.proofs.Finite.{finite_number}
use Rattle.floats.proofs.Signs.{negative_negated}

-- ---- there and back
pub value_word : (x : Float) → T (fits binary32 x) → value (to_bits binary32 x) ≡ x
value_word x h = of_bits-to_bits binary32 x h

pub word_value : (w : ℕ) → w < 0x1_0000_0000 → is_finite w ≡ true → to_bits binary32 (value w) ≡ w
unfolding is_finite
word_value w l h = to_bits-of_bits binary32 w l (finite_number (value w) h)

pub value_injective : (v w : ℕ) → v < 0x1_0000_0000 → w < 0x1_0000_0000 → is_finite v ≡ true → is_finite w ≡ true → value v ≡ value w → v ≡ w
value_injective v w lv lw hv hw e = sym (word_value v lv hv) ∙ ap (to_bits binary32) e ∙ word_value w lw hw

-- ---- negation of the word is negation of the float, NaN included
odd_neg : (d : ℕ) (s : Bool) (q k l : ℕ) → odd d (not s) q k l ≡ neg (odd d s q k l)
unfolding odd neg
odd_neg d s zero k l = refl
odd_neg d s (suc q) k l = refl

pick_neg : (b c s : Bool) (x y : Float) → y ≡ neg x → cond b (cond c (inf (not s)) nan) y ≡ neg (cond b (cond c (inf s) nan) x)
unfolding neg
pick_neg true true s x y h = refl
pick_neg true false s x y h = refl
pick_neg false c s x y h = h

fields_neg : (s : Bool) (x t : ℕ) → of_fields binary32 (not s) x t ≡ neg (of_fields binary32 s x t)
unfolding of_fields
fields_neg s zero t = odd_neg 24 s t 0 149
fields_neg s (suc x) t = pick_neg (eqb (suc x) 255) (eqb t 0) s (odd 24 s (2 ^ 23 + t) x 149) (odd 24 (not s) (2 ^ 23 + t) x 149) (odd_neg 24 s (2 ^ 23 + t) x 149)

-- the float of a word, from its sign bit and its other bits
read : Bool → ℕ → Float
read s n = of_fields binary32 s (n / 8388608) (n % 8388608)

value_is : (w : ℕ) → w < 0x1_0000_0000 → value w ≡ read (negative w) (w % 0x8000_0000)
unfolding of_bits read
value_is w l =
    let t : w % 8388608 ≡ w % 0x8000_0000 % 8388608 = omega arith in
    ap (λ (n : ℕ). of_fields binary32 (leb 0x8000_0000 w) (w % 0x8000_0000 / 8388608) n) t
    ∙ ap (λ (s : Bool). read s (w % 0x8000_0000)) (sym (negative_is_lem w l))

pub value_negated : (w : ℕ) → w < 0x1_0000_0000 → value (negated w) ≡ neg (value w)
unfolding read
value_negated w l =
    value_is (negated w) (negated_fits w l)
    ∙ ap (read (negative (negated w))) (negated_size w)
    ∙ ap (λ (s : Bool). read s (w % 0x8000_0000)) (negative_negated w)
    ∙ fields_neg (negative w) (w % 0x8000_0000 / 8388608) (w % 0x8000_0000 % 8388608)
    ∙ sym (ap neg (value_is w l))
