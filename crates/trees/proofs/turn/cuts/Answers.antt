use mathlib.Core.Path.{refl, sym, ◌∙◌}
use Rattle.trees.proofs.turn.cuts.Goals as goal

pub passed-requires : goal.passed-requires
passed-requires c = sym c.finite_word.ensures ∙ c.if-finite_word.true

pub returns-then-finite_word : goal.returns-then-finite_word
returns-then-finite_word c = c.passed.ensures ∙ sym (rw (sym c.finite_word.ensures ∙ c.if-finite_word.true) refl)

pub returns-else-finite_word : goal.returns-else-finite_word
returns-else-finite_word c = c.if-finite_word.false ∙ sym (rw (sym c.finite_word.ensures ∙ c.if-finite_word.false) refl)
