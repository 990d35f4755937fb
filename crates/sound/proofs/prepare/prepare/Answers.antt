use Rattle.floats.specs.Value.{far_with}
use Rattle.sound.proofs.Ready.{ready, cells_kept}
use Rattle.sound.proofs.prepare.prepare.Goals as goal

pub returns : goal.returns
unfolding far_with
returns c =
    record { ready = ready _ _ c.far_word.ensures c.fill.ensures c.empty_tops.ensures c.free_all.ensures; kept = cells_kept _ _ _ _ c.fill.ensures c.empty_tops.ensures }
