use mathlib.Core.Path.{refl, sym, ◌∙◌}
use Rattle.voxels.specs.Answers.{signed_r}
use Rattle.voxels.proofs.Ends.{ends_err, ends_either, signed_slot}
use Rattle.voxels.proofs.sign.signed.Goals as goal

pub returns-in_err-w : goal.returns-in_err-w
returns-in_err-w c book p i e =
    let v = c.args.pool.now in
    ends_err v.n v.slots.now v.masks.now book i p e (λ q. signed_r q c.args.filled) refl (sym c.reached.ensures ∙ c.in_err-w.was) c.from_residual.ensures.1

pub returns-then-not-filled : goal.returns-then-not-filled
returns-then-not-filled c book p i e =
    let v = c.args.pool.now in
    ends_either v.n v.slots.now v.masks.now book i p e (λ q. signed_r q c.args.filled)
    (sym c.reached.ensures ∙ c.in_ok-w.was) (λ x. sym (signed_slot _ _ _ x ∙ rw c.if-not-filled.true refl))

pub returns : goal.returns
returns c book p i e =
    let v = c.args.pool.now in
    ends_either v.n v.slots.now v.masks.now book i p e (λ q. signed_r q c.args.filled)
    (sym c.reached.ensures ∙ c.in_ok-w.was) (λ x. sym (signed_slot _ _ _ x ∙ rw (c.if-not-filled.false, c.negative_word.ensures) refl))
