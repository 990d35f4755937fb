-- The slot of a voxel's number at each level, and the low 7 bits of a signed coordinate. Assumes nothing.
use mathlib.Core.Path.{◌≡◌, ap, ◌∙◌}
use Prim.Native.Nat.{ℕ, zero, suc, ◌+◌, ◌-◌, ◌*◌, ◌/◌, ◌%◌, ◌^◌, ◌<◌, ◌≤◌}
use native.Mathlib.Omega.{arith}
use lib.IntN.{ℤ, pos, negsuc}
use mir.Syntax.{w32}
use mir.Val.{SFits, of_z}
use Rattle.std.proofs.Math.Pow.{pow_mono}
use Rattle.std.proofs.lemmas.Nat.{pow_pos}
use Rattle.grid.specs.Geometry.{masked, total, part, slot_of}
use Rattle.grid.specs.Node.{size}
use Rattle.nodes.specs.Walk.{branching, below, point_of}
use Rattle.nodes.specs.Level.{IsLevel}

-- ---- the three levels, by the digits of the voxel's number
-- what holds of each level's constants holds of any's
pub by_level : (P : ℕ → ℕ → ℕ → ℕ → Type 0) → P 2 3 512 7 → P 1 2 64 4 → P 0 2 64 2 → (l : ℕ) {b m t : ℕ} → IsLevel l b m t → P l b m t
unfolding size total
by_level P p q r zero h = rw (h.branches, h.sized, h.totals) r
by_level P p q r (suc zero) h = rw (h.branches, h.sized, h.totals) q
by_level P p q r (suc (suc zero)) h = rw (h.branches, h.sized, h.totals) p
by_level P p q r (suc (suc (suc l))) h = absurd (omega (arith, h.known))

-- a shift of 1
pub one_left : (k : ℕ) → k ≤ 7 → 1 * 2 ^ k % 18446744073709551616 ≡ 2 ^ k
one_left k h = omega (arith, pow_mono h)

pub one_left_some : (k : ℕ) → k ≤ 7 → 0 < 1 * 2 ^ k % 18446744073709551616
one_left_some k h = rw (one_left k h) (pow_pos k)

-- what the law of a level says of its constants
module _ {l b m t : ℕ} (h : IsLevel l b m t) where
  pub few : (b ≤ t) × (t ≤ 7) × (m ≤ 512)
  few = by_level (λ l b m t. (b ≤ t) × (t ≤ 7) × (m ≤ 512)) (omega arith, omega arith, omega arith) (omega arith, omega arith, omega arith) (omega arith, omega arith, omega arith) l h

  -- the digit of the coordinate x, by the constants that the code has read
  pub digit_is : (x : ℕ) {b' t' t'' : ℕ} → t' ≡ t → t'' ≡ t → b' ≡ b → x % (1 * 2 ^ t' % 18446744073709551616) / 2 ^ (t'' - b') ≡ part b (t - b) (pos x)
  unfolding part masked
  digit_is x p q r =
      let e : t ≡ b + (t - b) = omega (arith, few) in
      λ i. x % (ap (λ (k : ℕ). 1 * 2 ^ k % 18446744073709551616) p ∙ one_left t few.1 ∙ ap (λ (k : ℕ). 2 ^ k) e) i / 2 ^ (q i - r i)

  -- the slot by its digits, on the way to which no number is large
  module _ (v : ℕ) {k x y z : ℕ} (e : k ≡ b) (ex : x ≡ part b (t - b) (pos (v / 16384))) (ey : y ≡ part b (t - b) (pos (v / 128))) (ez : z ≡ part b (t - b) (pos v)) where
    side : 1 * 2 ^ k % 18446744073709551616 ≡ 2 ^ b
    side = ap (λ (i : ℕ). 1 * 2 ^ i % 18446744073709551616) e ∙ one_left b (omega (arith, few))

    abbrev SlotLow : (m s x y z : ℕ) → Type 0
    SlotLow m s x y z = (x * s < m) × (x * s + y < m) × ((x * s + y) * s < m) × ((x * s + y) * s + z < m)

    pub slot_low : SlotLow m (1 * 2 ^ k % 18446744073709551616) x y z
    unfolding part masked
    slot_low =
        rw (side, ex, ey, ez) (by_level (λ l b m t. SlotLow m (2 ^ b) (part b (t - b) (pos (v / 16384))) (part b (t - b) (pos (v / 128))) (part b (t - b) (pos v)))
        (omega arith, omega arith, omega arith, omega arith) (omega arith, omega arith, omega arith, omega arith) (omega arith, omega arith, omega arith, omega arith) l h)

    pub slot_is : (x * (1 * 2 ^ k % 18446744073709551616) + y) * (1 * 2 ^ k % 18446744073709551616) + z ≡ slot_of (branching l) (below l) (point_of v)
    unfolding slot_of part total masked
    slot_is =
        rw (side, ex, ey, ez)
        (by_level (λ l b m t. (part b (t - b) (pos (v / 16384)) * 2 ^ b + part b (t - b) (pos (v / 128))) * 2 ^ b + part b (t - b) (pos v) ≡ slot_of (branching l) (below l) (point_of v))
        (omega arith) (omega arith) (omega arith) l h)

-- ---- the low 7 bits of a 32-bit signed number: 2 ^ 32 is a multiple of 128
pub low_is : (z : ℤ) → SFits w32 z → of_z w32 z % 128 ≡ masked 7 z
unfolding masked
low_is (pos n) h = omega arith
low_is (negsuc n) h = omega (arith, h.sfits)
