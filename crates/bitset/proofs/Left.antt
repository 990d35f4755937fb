-- The bits of a word that are on, tested from the first to the last by a loop that takes each away: what is left to be tested. Assumes nothing.
use mathlib.Core.Path.{◌≡◌, refl, sym, ap, ◌∙◌, subst}
use mathlib.Core.Logic.{inl, inr}
use mathlib.Core.Bool.{Bool, true, false, cond, false≢true}
use Prim.Native.Nat.{ℕ, ◌<◌}
use borrow.Table.Steps.{cases}
use Rattle.bitset.specs.Set.{word_bit, every}
use Rattle.bitset.proofs.Digits.{is_or_not}
use Rattle.bitset.proofs.Words.{zero_bit}
use Rattle.bitset.proofs.Every.{every_intro, every_elim, every_alike}
use Rattle.bitset.proofs.First.{Leads, less, less_off, less_other}

-- l holds of each bit of w that is on
abbrev pub left : (ℕ → Bool) → ℕ → Bool
left l w = every (λ i. cond (word_bit w i) (l i) true) 64

module _ (l : ℕ → Bool) where
  -- at first these are the bits that b says are on
  pub left_all : (b : ℕ → Bool) (w : ℕ) → ((i : ℕ) → i < 64 → word_bit w i ≡ b i) → every (λ i. cond (b i) (l i) true) 64 ≡ left l w
  left_all b w e = every_alike (λ i. cond (b i) (l i) true) (λ i. cond (word_bit w i) (l i) true) 64 (λ i q. ap (λ (a : Bool). cond a (l i) true) (sym (e i q)))

  -- t is what the whole test says
  module _ {t : Bool} {w : ℕ} (h : t ≡ left l w) where
    pub left_none : w ≡ 0 → true ≡ t
    left_none z = sym (h ∙ every_intro (λ i. cond (word_bit w i) (l i) true) 64 (λ i q. ap (λ (v : ℕ). cond (word_bit v i) (l i) true) z ∙ rw (zero_bit i) refl))

    module _ {i : ℕ} (d : Leads w i) where
      pub left_fails : l i ≡ false → false ≡ t
      left_fails f = sym (h ∙ cases (left l w) (λ e. absurd (false≢true (sym f ∙ rw d.on at (every_elim (λ i. cond (word_bit w i) (l i) true) 64 e i d.within)))) (λ e. e))

      pub left_more : l i ≡ true → t ≡ left l (less w i)
      left_more p = h ∙ every_alike (λ k. cond (word_bit w k) (l k) true) (λ k. cond (word_bit (less w i) k) (l k) true) 64 (λ k q. elim (is_or_not k i) [
        | inl e ↦ subst (λ (k : ℕ). cond (word_bit w k) (l k) true ≡ cond (word_bit (less w i) k) (l k) true) (sym e) (rw (d.on, less_off d) p)
        | inr e ↦ sym (rw (less_other d k q e) refl)
      ])
