use mathlib.Core.Path.{ap, ◌∙◌}
use Rattle.nodes.specs.Change.{mark_s}
use Rattle.nodes.specs.Pool.{state}
use Rattle.pool.proofs.pair.combine_unmark.Goals as goal

pub returns-clause-turned : goal.returns-clause-turned
unfolding state
returns-clause-turned c = c.set_mark.ensures _ _ _ ∙ ap (mark_s _ 0) c.combined.ensures.turned
