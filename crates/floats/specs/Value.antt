-- A value of a grid: the 32 bits of an IEEE 754 binary32, as a number below 2 ^ 32. Assumes nothing.
use Rattle.std.specs.Prelude.{Bool, true, false, cond, ℕ, ◌+◌, ◌-◌, ◌/◌, ◌%◌, eqb, Float}
use Rattle.std.specs.Float.{binary32}
use Rattle.std.specs.Float.Ieee.{of_bits, lt, eq}
use Rattle.std.specs.Float.Ieee.Scale.{finite}

-- "All signs and values are IEEE 754 binary32": the float that the bits stand for
abbrev pub value : ℕ → Float
value w = of_bits binary32 w

-- neither NaN nor infinite
unfoldable pub is_finite : ℕ → Bool
is_finite w = finite (value w)

-- "Sign is the sign bit, so -0 is negative"
unfoldable pub negative : ℕ → Bool
negative w = eqb (w / 0x8000_0000 % 2) 1

-- the same bits with the other sign
unfoldable pub negated : ℕ → ℕ
negated w = cond (negative w) (w - 0x8000_0000) (w + 0x8000_0000)

-- "`far` is the largest finite binary32 (bits 7F7FFFFF)"
unfoldable pub far : ℕ
far = 0x7F7F_FFFF

-- far with a sign
unfoldable pub far_with : Bool → ℕ
far_with s = cond s (negated far) far

-- "Equality at insert is numeric: the two zeros are equal"
unfoldable pub equal : ℕ → ℕ → Bool
equal v w = eq (value v) (value w)

-- "Minimum and maximum treat -0 as below +0": a negative value before a positive one, and values of one sign as numbers
unfoldable pub before : ℕ → ℕ → Bool
before v w = cond (negative v) (cond (negative w) (lt (value v) (value w)) true) (cond (negative w) false (lt (value v) (value w)))

unfoldable pub least : ℕ → ℕ → ℕ
least v w = cond (before v w) v w

unfoldable pub most : ℕ → ℕ → ℕ
most v w = cond (before v w) w v
