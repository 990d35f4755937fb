-- The first bit that is on: by the leading zeros of the first word that is not 0. Assumes nothing.
use mathlib.Core.Path.{◌≡◌, refl, sym, ap, ◌∙◌, subst}
use mathlib.Core.Logic.{inl, inr}
use mathlib.Core.List.{List}
use mathlib.Core.Bool.{Bool, false, not, ◌&&◌, and-true, false≢true}
use Prim.Native.Nat.{ℕ, suc, ◌+◌, ◌-◌, ◌*◌, ◌/◌, ◌%◌, ◌^◌, ◌≤◌, ◌<◌}
use native.Mathlib.Nat.{div-eq_of_lt-le, lt_of_lt_of_le, pow-suc}
use native.Mathlib.Omega.{arith}
use lib.Dec.{eqb}
use lib.ListN.{get_or}
use lib.Bits.{and_le_l}
use lib.Arith.{lt_of_le-ne}
use lib.Pow.{pow_mono}
use lib.Count.{count_leading_zeros, leading_top}
use borrow.Author.Tests.{eq-eqb, ne_eqb}
use Rattle.bitset.specs.Set.{weight, word_bit, bit_of}
pub use Rattle.bitset.specs.On.{Leads, less}
use Rattle.bitset.specs.declared.OnBits.{OnBits}
use Rattle.bitset.proofs.Digits.{lt_or_le, digit, digit_above}
use Rattle.bitset.proofs.Words.{ones, bit_rem, bit_digit, zero_bit, and_acts, not_bit, weight_lt, weight_bit}
use Rattle.bitset.proofs.Sets.{bit_is}

pub leads : (w : ℕ) → (w ≡ 0 → ⊥) → w < 2 ^ 64 → Leads w (count_leading_zeros 64 w)
leads w ne h =
    let t = leading_top 64 w (pos w ne) h in
    let j = t.0 in
    let z = count_leading_zeros 64 w in
    let e : z + suc j ≡ 64 = t.1 in
    let d : w / 2 ^ j ≡ 1 = div-eq_of_lt-le (2 ^ j) (low (2 ^ j) w t.2) (high (2 ^ j) w (subst (λ (n : ℕ). w < n) (pow-suc 2 j) t.3)) in
    let jz : 63 - z ≡ j = omega arith in
    record {
      within = omega arith;
      on = bit_digit w z (omega arith) ∙ ap (λ (k : ℕ). eqb (digit k w) 1) jz ∙ ap (λ (x : ℕ). eqb (x % 2) 1) d;
      before = λ r l. bit_digit w r (omega arith) ∙ ap (λ (x : ℕ). eqb x 1) (digit_above (63 - r) w (lt_of_lt_of_le t.3 (pow_mono (under r z j l e))));
    }
  where
    pos : (w : ℕ) → (w ≡ 0 → ⊥) → 0 < w
    pos w ne = omega arith

    low : (p w : ℕ) → p ≤ w → 1 * p ≤ w
    low p w h = omega arith

    high : (p w : ℕ) → w < p * 2 → w < (1 + 1) * p
    high p w h = omega arith

    under : (r z j : ℕ) → r < z → z + suc j ≡ 64 → suc j ≤ 63 - r
    under r z j l e = omega arith

-- the word w without bit i
pub less_bit : (w i k : ℕ) → word_bit (less w i) k ≡ word_bit w k && not (eqb (k % 64) (i % 64))
less_bit w i k = and_acts.by_bits w (ones - weight i) k ∙ ap (λ (t : Bool). word_bit w k && t) (not_bit (weight i) k (weight_lt i) ∙ ap not (weight_bit i k))

module _ {w i : ℕ} (d : Leads w i) where
  pub less_off : word_bit (less w i) i ≡ false
  less_off = less_bit w i i ∙ rw (eq-eqb (i % 64) (i % 64) refl, d.on) refl

  -- it is a lesser one
  pub less_lt : less w i < w
  less_lt = lt_of_le-ne (and_le_l w (ones - weight i)) (λ e. false≢true (sym less_off ∙ ap (λ (v : ℕ). word_bit v i) e ∙ d.on))

  -- the other bits are as they were
  pub less_other : (k : ℕ) → k < 64 → (k ≡ i → ⊥) → word_bit (less w i) k ≡ word_bit w k
  less_other k h p =
      less_bit w i k ∙ ap (λ (t : Bool). word_bit w k && not t) (ne_eqb (k % 64) (i % 64) (λ o. p (omega (arith, o, h, d.within)))) ∙ and-true (word_bit w k)

-- a loop over the bits that are on begins with the whole word
pub begins : {s t : OnBits} {w : ℕ} → s ≡ t → t.rest ≡ w → s.rest ≡ w
begins e f = ap (λ (s : OnBits). s.rest) e ∙ f

-- the words before i are 0, and so are the first z bits of word i
pub none_before : (ws : List ℕ) (i z : ℕ) → z ≤ 64 → ((p : ℕ) → p < i → get_or ws p 0 ≡ 0) → ((r : ℕ) → r < z → word_bit (get_or ws i 0) r ≡ false) → (j : ℕ) → j < 64 * i + z → bit_of ws j ≡ false
none_before ws i z h before here j l =
    bit_is ws j ∙ elim (lt_or_le (j / 64) i) [
      | inl q ↦ ap (λ (w : ℕ). word_bit w j) (before (j / 64) q) ∙ zero_bit j
      | inr q ↦ let e : j / 64 ≡ i = omega arith in ap (λ (p : ℕ). word_bit (get_or ws p 0) j) e ∙ bit_rem (get_or ws i 0) j ∙ here (j % 64) (omega arith)
    ]
