use mathlib.Core.Path.{ap, ◌∙◌}
use Rattle.floats.specs.Value.{far_with}
use Rattle.signs.proofs.leaf.far_like.Goals as goal

pub returns : goal.returns
returns c = c.far_word.ensures ∙ ap far_with c.negative_word.ensures
