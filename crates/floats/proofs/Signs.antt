-- The laws of signs, which carry every theorem on the sign of a grid; they hold of every number. Assumes nothing.
use mathlib.Core.Path.{◌≡◌, refl, ◌∙◌, ap}
use mathlib.Core.Bool.{Bool, true, false, not, ◌&&◌, ◌||◌, cond}
use Prim.Native.Nat.{ℕ, zero, suc, ◌+◌, ◌-◌, ◌/◌, ◌%◌, ◌<◌}
use native.Mathlib.Omega.{arith}
use lib.Dec.{eqb}
use lib.Bits.{bit_or, or_shr, or_mod}
use lib.Ieee.{lt}
use borrow.Author.Tests.{eq-eqb, ne_eqb, eqb-true, eqb-false}
use Rattle.floats.specs.Value.{value, negative, negated, far, far_with, before, least, most}

pub negative_far : negative far ≡ false
unfolding negative far
negative_far = refl

pub negative_negated : (w : ℕ) → negative (negated w) ≡ not (negative w)
unfolding negative negated
negative_negated w = go (eqb (w / 0x8000_0000 % 2) 1) refl
  where
    go : (s : Bool) → eqb (w / 0x8000_0000 % 2) 1 ≡ s → eqb (cond s (w - 0x8000_0000) (w + 0x8000_0000) / 0x8000_0000 % 2) 1 ≡ not s
    go true e = let a : w / 0x8000_0000 % 2 ≡ 1 = eqb-true _ _ e in ne_eqb ((w - 0x8000_0000) / 0x8000_0000 % 2) 1 (λ (h : (w - 0x8000_0000) / 0x8000_0000 % 2 ≡ 1). omega arith)
    go false e = let a : w / 0x8000_0000 % 2 ≡ 1 → ⊥ = eqb-false _ _ e in eq-eqb ((w + 0x8000_0000) / 0x8000_0000 % 2) 1 (omega arith)

pub negative_far_with : (s : Bool) → negative (far_with s) ≡ s
unfolding far_with
negative_far_with true = negative_negated far ∙ ap not negative_far
negative_far_with false = negative_far

-- of two values of one sign either has it; of two signs the negative one comes first
both : (v w : ℕ) → (negative (least v w) ≡ (negative v || negative w)) × (negative (most v w) ≡ (negative v && negative w))
unfolding least most before
both v w = go (negative v) (negative w) (lt (value v) (value w)) refl refl
  where
    first : Bool → Bool → Bool → Bool
    first s t x = cond s (cond t x true) (cond t false x)

    go : (s t x : Bool) → negative v ≡ s → negative w ≡ t → (negative (cond (first s t x) v w) ≡ (s || t)) × (negative (cond (first s t x) w v) ≡ (s && t))
    go true true true p q = (p, q)
    go true true false p q = (q, p)
    go true false x p q = (p, q)
    go false true x p q = (q, p)
    go false false true p q = (p, q)
    go false false false p q = (q, p)

pub negative_least : (v w : ℕ) → negative (least v w) ≡ (negative v || negative w)
negative_least v w = (both v w).0

pub negative_most : (v w : ℕ) → negative (most v w) ≡ (negative v && negative w)
negative_most v w = (both v w).1

-- bits joined: negative where either is
pub negative_or : (v w : ℕ) → negative (bit_or v w) ≡ (negative v || negative w)
unfolding negative
negative_or v w =
    ap (λ (n : ℕ). eqb (n % 2) 1) (or_shr v w 31) ∙ ap (λ (n : ℕ). eqb n 1) (or_mod (v / 0x8000_0000) (w / 0x8000_0000) 1)
    ∙ go (v / 0x8000_0000 % 2) (w / 0x8000_0000 % 2) (omega arith) (omega arith)
  where
    go : (a b : ℕ) → a < 2 → b < 2 → eqb (bit_or a b) 1 ≡ (eqb a 1 || eqb b 1)
    go zero zero h l = refl
    go zero (suc zero) h l = refl
    go (suc zero) zero h l = refl
    go (suc zero) (suc zero) h l = refl
    go zero (suc (suc b)) h l = absurd (omega arith)
    go (suc zero) (suc (suc b)) h l = absurd (omega arith)
    go (suc (suc a)) b h l = absurd (omega arith)
