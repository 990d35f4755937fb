use mathlib.Core.Path.{sym, ◌∙◌}
use Rattle.nodes.specs.Pool.{state}
use Rattle.nodes.proofs.States.{cells_of, kid_may, st_kid}
use Rattle.nodes.proofs.pool.Pool.kid.Goals as goal

pub kid-requires : goal.kid-requires
kid-requires c = kid_may (cells_of c.args.self.now.sized) c.requires

pub returns : goal.returns
unfolding state
returns c = c.kid.ensures ∙ sym (st_kid _ _ _ c.requires)
