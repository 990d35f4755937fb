use mathlib.Core.Path.{refl, ◌∙◌}
use native.Mathlib.Omega.{arith}
use Rattle.nodes.proofs.Changes.{painted}
use Rattle.nodes.proofs.cells.paint.Goals as goal
use Rattle.nodes.proofs.cells.paint.Goals.{then-on, else-on}

pub returns : goal.returns
returns c =
    elim c.if-on.branch [
      | then-on w ↦ painted _ _ _ _ _ (omega arith) (omega arith) (w.masks-is ∙ rw w.if-on.true refl)
      | else-on w ↦ painted _ _ _ _ _ (omega arith) (omega arith) (w.masks-is ∙ rw w.if-on.false refl)
    ]
