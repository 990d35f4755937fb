use Rattle.floats.specs.Value.{negative, negated, far, far_with}
use Rattle.floats.proofs.far_word.Goals as goal

pub returns-then-negative : goal.returns-then-negative
unfolding far_with negated negative far
returns-then-negative c = simp c.if-negative.true

pub returns-else-negative : goal.returns-else-negative
unfolding far_with far
returns-else-negative c = simp c.if-negative.false
