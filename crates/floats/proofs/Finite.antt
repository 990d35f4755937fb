-- Which words and which floats are finite. Assumes nothing.
use mathlib.Core.Path.{◌≡◌, refl, sym, ap, ◌∙◌, subst}
use mathlib.Core.Bool.{Bool, true, false, not, cond}
use Prim.Native.Nat.{ℕ, zero, suc, ◌+◌, ◌/◌, ◌%◌, ◌^◌, ◌<◌}
use native.Mathlib.Omega.{arith}
use lib.Dec.{T, leb, eqb}
use lib.Ieee.{Float, nan, inf, fin, binary32, odd, of_fields, of_bits, to_bits, is_nan, nan_bits, fits}
use lib.Ieee.Scale.{finite}
use Rattle.std.specs.Float.{float_is_finite}
use lib.Ieee.Bits.{nan_bits_is, of_bits-to_bits}
use borrow.Author.Tests.{eq-eqb, ne_eqb, eqb-true, eqb-false, not-true}
use Rattle.floats.specs.Value.{value, is_finite, negative, negated, far, far_with, least, most}
use Rattle.floats.proofs.Words.{on_case, negated_size, least_has, most_has}

-- ---- a word is finite unless its exponent is all ones
odd_finite : (d : ℕ) (s : Bool) (q k l : ℕ) → finite (odd d s q k l) ≡ true
unfolding odd
odd_finite d s zero k l = refl
odd_finite d s (suc q) k l = refl

pick_finite : (b c s : Bool) (x : Float) → finite x ≡ true → finite (cond b (cond c (inf s) nan) x) ≡ not b
pick_finite true true s x h = refl
pick_finite true false s x h = refl
pick_finite false c s x h = h

finite_fields : (s : Bool) (x t : ℕ) → finite (of_fields binary32 s x t) ≡ not (eqb x 255)
unfolding of_fields
finite_fields s zero t = odd_finite 24 s t 0 149
finite_fields s (suc x) t = pick_finite (eqb (suc x) 255) (eqb t 0) s (odd 24 s (2 ^ 23 + t) x 149) (odd_finite 24 s (2 ^ 23 + t) x 149)

pub finite_word : (w : ℕ) → is_finite w ≡ not (eqb (w % 2147483648 / 8388608) 255)
unfolding is_finite of_bits
finite_word w = finite_fields (leb 2147483648 w) (w % 2147483648 / 8388608) (w % 8388608)

pub finite_exponent : (w : ℕ) → is_finite w ≡ true → w % 2147483648 / 8388608 < 255
finite_exponent w h = let n : w % 2147483648 / 8388608 ≡ 255 → ⊥ = eqb-false _ _ (not-true _ (sym (finite_word w) ∙ h)) in omega arith

-- 1 more in the exponent carries into the sign bit where it was all ones
pub raised_sign : (w : ℕ) → not (negative (w % 2147483648 + 8388608)) ≡ is_finite w
unfolding negative
raised_sign w = sym (finite_word w ∙ ap not (on_case (eqb (w % 2147483648 / 8388608) 255)
    (λ e. let h : w % 2147483648 / 8388608 ≡ 255 = eqb-true _ _ e in e ∙ sym (eq-eqb ((w % 2147483648 + 8388608) / 2147483648 % 2) 1 (omega arith)))
    (λ e. let h : w % 2147483648 / 8388608 ≡ 255 → ⊥ = eqb-false _ _ e in
    e ∙ sym (ne_eqb ((w % 2147483648 + 8388608) / 2147483648 % 2) 1 (λ (k : (w % 2147483648 + 8388608) / 2147483648 % 2 ≡ 1). omega arith)))))

-- a link, which is a number below 2 ^ 16, is a finite word
pub small_finite : (w : ℕ) → w < 65536 → is_finite w ≡ true
small_finite w l = finite_word w ∙ ap not (ne_eqb (w % 2147483648 / 8388608) 255 (λ (e : w % 2147483648 / 8388608 ≡ 255). omega arith))

-- ---- a finite float is no NaN, so its bits may be read and written
pub finite_number : (x : Float) → finite x ≡ true → T (not (is_nan x))
unfolding is_nan
finite_number nan h = subst T (sym h) tt
finite_number (inf s) h = tt
finite_number (fin s m e) h = tt

pub finite_bits : (w : ℕ) → is_finite w ≡ true → T (not (nan_bits binary32 w))
unfolding is_finite
finite_bits w h = subst (λ (b : Bool). T (not b)) (sym (nan_bits_is binary32 w)) (finite_number (value w) h)

pub finite_word_of : (x : Float) → T (fits binary32 x) → finite x ≡ true → is_finite (to_bits binary32 x) ≡ true
unfolding is_finite
finite_word_of x f h = ap finite (of_bits-to_bits binary32 x f) ∙ h

-- ---- what is made of finite words is finite
pub finite_of : (x : Float) (w : ℕ) → x ≡ value w → is_finite w ≡ true → finite x ≡ true
unfolding is_finite
finite_of x w e h = ap finite e ∙ h

pub finite_negated : (w : ℕ) → is_finite (negated w) ≡ is_finite w
finite_negated w = finite_word (negated w) ∙ ap (λ (n : ℕ). not (eqb (n / 8388608) 255)) (negated_size w) ∙ sym (finite_word w)

pub finite_far : is_finite far ≡ true
unfolding is_finite far of_bits
finite_far = refl

pub finite_far_with : (s : Bool) → is_finite (far_with s) ≡ true
unfolding far_with
finite_far_with true = finite_negated far ∙ finite_far
finite_far_with false = finite_far

module _ (v w : ℕ) (p : is_finite v ≡ true) (q : is_finite w ≡ true) where
  pub finite_least : is_finite (least v w) ≡ true
  finite_least = least_has (λ n. is_finite n ≡ true) v w p q

  pub finite_most : is_finite (most v w) ≡ true
  finite_most = most_has (λ n. is_finite n ≡ true) v w p q

-- ---- std's test of a float is the same
pub finite_is : (x : Float) → float_is_finite x ≡ finite x
unfolding float_is_finite
finite_is nan = refl
finite_is (inf s) = refl
finite_is (fin s m e) = refl
