use mathlib.Core.Path.{refl, sym, ◌∙◌}
use Rattle.nodes.specs.Pool.{state}
use Rattle.trees.specs.Turn.{flat_s}
use Rattle.trees.proofs.turn.flat.Goals as goal

pub returns-in-Flip-clause-turned : goal.returns-in-Flip-clause-turned
unfolding flat_s state
returns-in-Flip-clause-turned c = c.flip.ensures _ _ ∙ sym (rw c.in-Flip.is refl)
