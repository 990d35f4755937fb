use mathlib.Core.Path.{sym, ◌∙◌}
use Rattle.nodes.specs.Pool.{state}
use Rattle.nodes.proofs.States.{cells_of, val_may, st_val}
use Rattle.nodes.proofs.pool.Pool.val.Goals as goal

pub val-requires : goal.val-requires
val-requires c = val_may (cells_of c.args.self.now.sized) c.requires

pub returns : goal.returns
unfolding state
returns c = c.val.ensures ∙ sym (st_val _ _ _ c.requires)
