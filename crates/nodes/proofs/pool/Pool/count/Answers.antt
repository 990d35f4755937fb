use mathlib.Core.Path.{sym, ◌∙◌}
use Rattle.nodes.specs.Pool.{state}
use Rattle.nodes.proofs.States.{st_count}
use Rattle.nodes.proofs.pool.Pool.count.Goals as goal

pub returns : goal.returns
unfolding state
returns c = c.count.ensures ∙ sym (st_count _ _ _ _)
