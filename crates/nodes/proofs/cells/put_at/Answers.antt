use mathlib.Core.Path.{refl}
use Rattle.nodes.proofs.Changes.{put_step}
use Rattle.nodes.proofs.cells.put_at.Goals as goal

pub returns : goal.returns
returns c book x k m e =
    put_step _ _ _ _ _ book _ _ c.requires.0 m e refl c.set.ensures
