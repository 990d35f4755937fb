use mathlib.Core.Path.{refl, sym, ◌∙◌}
use Rattle.voxels.specs.Answers.{shown_r}
use Rattle.voxels.proofs.Ends.{ends_err, ends_ok}
use Rattle.voxels.proofs.voxel.shown.Goals as goal

pub returns-in_err-at : goal.returns-in_err-at
returns-in_err-at c book p i e = let v = c.args.pool.now in ends_err v.n v.slots.now v.masks.now book i p e shown_r refl (sym c.reached.ensures ∙ c.in_err-at.was) c.from_residual.ensures.1

pub returns-then-active_at : goal.returns-then-active_at
returns-then-active_at c book p i e =
    let v = c.args.pool.now in
    ends_ok v.n v.slots.now v.masks.now book i p e shown_r (sym c.reached.ensures ∙ c.in_ok-at.was) (c.active_at.ensures book) (rw (c.if-active_at.true, c.float_of.ensures) refl)

pub returns : goal.returns
returns c book p i e =
    let v = c.args.pool.now in
    ends_ok v.n v.slots.now v.masks.now book i p e shown_r (sym c.reached.ensures ∙ c.in_ok-at.was) (c.active_at.ensures book) (rw c.if-active_at.false refl)
