-- Words as numbers, with no float: the sign bit and the rest of a word, its negation, and what least and most keep. Assumes nothing.
use mathlib.Core.Path.{◌≡◌, refl, sym, ap, ◌∙◌}
use mathlib.Core.Logic.{◌⊎◌, inl, inr}
use mathlib.Core.Bool.{Bool, true, false, cond}
use Prim.Native.Nat.{ℕ, ◌+◌, ◌-◌, ◌*◌, ◌/◌, ◌%◌, ◌<◌, ◌≤◌}
use native.Mathlib.Omega.{arith}
use lib.Dec.{eqb, leb}
use lib.Pow.{pow_pos}
use lib.Bits.{bit_xor, xor_block, xor_zero_r}
use borrow.Author.Tests.{eqb-true, eqb-false, le-leb, lt-leb}
use Rattle.floats.specs.Value.{negative, negated, before, least, most}

pub on_case : {A : Type 0} (b : Bool) → (b ≡ true → A) → (b ≡ false → A) → A
on_case true f g = f refl
on_case false f g = g refl

-- ---- a 32-bit word is its sign bit and the 31 bits of its size
pub negative_word : (w : ℕ) → negative w ≡ true → 0x8000_0000 ≤ w
unfolding negative
negative_word w e = let h : w / 0x8000_0000 % 2 ≡ 1 = eqb-true _ _ e in omega arith

pub positive_word : (w : ℕ) → w < 0x1_0000_0000 → negative w ≡ false → w < 0x8000_0000
unfolding negative
positive_word w l e = let h : w / 0x8000_0000 % 2 ≡ 1 → ⊥ = eqb-false _ _ e in omega arith

pub negative_is_lem : (w : ℕ) → w < 0x1_0000_0000 → negative w ≡ leb 0x8000_0000 w
negative_is_lem w l = on_case (negative w)
    (λ e. e ∙ sym (le-leb 0x8000_0000 w (negative_word w e)))
    (λ e. e ∙ sym (lt-leb 0x8000_0000 w (positive_word w l e)))

-- ---- negation moves the sign bit alone
negated_has : (P : ℕ → Type 0) (w : ℕ) → (w / 0x8000_0000 % 2 ≡ 1 → P (w - 0x8000_0000)) → ((w / 0x8000_0000 % 2 ≡ 1 → ⊥) → P (w + 0x8000_0000)) → P (negated w)
unfolding negated negative
negated_has P w down up = go (eqb (w / 0x8000_0000 % 2) 1) (eqb-true _ _) (eqb-false _ _)
  where
    go : (s : Bool) → (s ≡ true → w / 0x8000_0000 % 2 ≡ 1) → (s ≡ false → w / 0x8000_0000 % 2 ≡ 1 → ⊥) → P (cond s (w - 0x8000_0000) (w + 0x8000_0000))
    go true t f = down (t refl)
    go false t f = up (f refl)

pub negated_size : (w : ℕ) → negated w % 0x8000_0000 ≡ w % 0x8000_0000
negated_size w = negated_has (λ n. n % 0x8000_0000 ≡ w % 0x8000_0000) w (λ h. omega arith) (λ h. omega arith)

pub negated_fits : (w : ℕ) → w < 0x1_0000_0000 → negated w < 0x1_0000_0000
negated_fits w l = negated_has (λ n. n < 0x1_0000_0000) w (λ h. omega arith) (λ h. omega arith)

pub negated_twice : (w : ℕ) → negated (negated w) ≡ w
negated_twice w = negated_has (λ n. negated n ≡ w) w
    (λ h. negated_has (λ n. n ≡ w) (w - 0x8000_0000) (λ k. omega arith) (λ k. omega arith))
    (λ h. negated_has (λ n. n ≡ w) (w + 0x8000_0000) (λ k. omega arith) (λ k. omega arith))

flipped : (a r : ℕ) → r < 0x8000_0000 → bit_xor (a * 0x8000_0000 + r) 0x8000_0000 ≡ bit_xor a 1 * 0x8000_0000 + r
flipped a r l = xor_block 31 a 1 r 0 l (pow_pos 31) ∙ ap (λ (n : ℕ). bit_xor a 1 * 0x8000_0000 + n) (xor_zero_r r)

pub xor_negated : (w : ℕ) → w < 0x1_0000_0000 → bit_xor w 0x8000_0000 ≡ negated w
xor_negated w l = negated_has (λ n. bit_xor w 0x8000_0000 ≡ n) w
    (λ h. let e : w ≡ 1 * 0x8000_0000 + (w - 0x8000_0000) = omega arith in
    omega (arith, ap (λ (n : ℕ). bit_xor n 0x8000_0000) e, flipped 1 (w - 0x8000_0000) (omega arith)))
    (λ h. let e : w ≡ 0 * 0x8000_0000 + w = omega arith in
    omega (arith, ap (λ (n : ℕ). bit_xor n 0x8000_0000) e, flipped 0 w (omega arith)))

-- ---- what both of two words have, their least and most have
pick : (P : ℕ → Type 0) (b : Bool) {v w : ℕ} → P v → P w → P (cond b v w)
pick P true p q = p
pick P false p q = q

module _ (P : ℕ → Type 0) (v w : ℕ) (p : P v) (q : P w) where
  pub least_has : P (least v w)
  unfolding least
  least_has = pick P (before v w) p q

  pub most_has : P (most v w)
  unfolding most
  most_has = pick P (before v w) q p

module _ (v w : ℕ) where
  pub least_one : (least v w ≡ v) ⊎ (least v w ≡ w)
  least_one = least_has (λ n. (n ≡ v) ⊎ (n ≡ w)) v w (inl refl) (inr refl)

  pub most_one : (most v w ≡ v) ⊎ (most v w ≡ w)
  most_one = most_has (λ n. (n ≡ v) ⊎ (n ≡ w)) v w (inl refl) (inr refl)

module _ (v w : ℕ) (p : v < 0x1_0000_0000) (q : w < 0x1_0000_0000) where
  pub least_fits : least v w < 0x1_0000_0000
  least_fits = least_has (λ n. n < 0x1_0000_0000) v w p q

  pub most_fits : most v w < 0x1_0000_0000
  most_fits = most_has (λ n. n < 0x1_0000_0000) v w p q
