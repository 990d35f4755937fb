use mathlib.Core.Path.{ap, ◌∙◌}
use Rattle.nodes.specs.Change.{mark_s}
use Rattle.nodes.specs.Pool.{state}
use Rattle.nodes.proofs.Paths.{top_stands}
use Rattle.pool.proofs.pair.copy_unmark.Goals as goal

pub copy-requires : goal.copy-requires
copy-requires c = let z = c.requires in (top_stands _ _ z.0, top_stands _ _ z.1)

pub returns-clause-turned : goal.returns-clause-turned
unfolding state
returns-clause-turned c = c.set_mark.ensures _ _ _ ∙ ap (mark_s _ 0) c.copy.ensures.turned
