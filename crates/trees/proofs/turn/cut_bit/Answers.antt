use mathlib.Core.Path.{refl, sym, ap, ◌∙◌}
use Prim.Native.Nat.{ℕ}
use Rattle.bitset.specs.Set.{word_bit}
use Rattle.bitset.proofs.Words.{weight_bit, zero_bit}
use Rattle.trees.proofs.turn.cut_bit.Goals as goal

pub returns-then-cuts : goal.returns-then-cuts
returns-then-cuts c = λ k. ap (λ (w : ℕ). word_bit w k) c.value_mask.ensures ∙ weight_bit _ k ∙ sym (rw (sym c.cuts.ensures ∙ c.if-cuts.true) refl)

pub returns-else-cuts : goal.returns-else-cuts
returns-else-cuts c = λ k. zero_bit k ∙ sym (rw (sym c.cuts.ensures ∙ c.if-cuts.false) refl)
