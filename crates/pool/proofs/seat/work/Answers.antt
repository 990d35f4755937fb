use mathlib.Core.Path.{refl, sym, ◌∙◌}
use Rattle.nodes.specs.Pool.{state}
use Rattle.nodes.proofs.Paths.{top_stands}
use Rattle.nodes.proofs.States.{cells_of}
use Rattle.pool.specs.Task.{work_s}
use Rattle.pool.proofs.seat.work.Goals as goal

pub turn-requires : goal.turn-requires
turn-requires c = top_stands _ _ c.requires

pub fill_signs-requires : goal.fill_signs-requires
fill_signs-requires c = (cells_of c.args.pool.now.sized, c.requires)

pub returns-in-Signs-clause-turned : goal.returns-in-Signs-clause-turned
unfolding work_s state
returns-in-Signs-clause-turned c = c.fill_signs.ensures _ ∙ sym (rw c.in-Signs.is refl)
