use mathlib.Core.Path.{refl, sym, ap, ◌∙◌}
use Rattle.nodes.specs.Layout.{st}
use Rattle.nodes.specs.Walk.{need_remove_r}
use Rattle.voxels.specs.Answers.{afford_s, blocked_r}
use Rattle.voxels.proofs.Ends.{ends_err, ends_ok, ends_either, remove_slot}
use Rattle.voxels.proofs.Afford.{afford_none}
use borrow.Table.Steps.{cases}
use Rattle.voxels.proofs.voxel.remove_blocked.Goals as goal

pub returns-in_err-at : goal.returns-in_err-at
returns-in_err-at c p i e =
    let v = c.args.pool.now in
    let b = c.args.book.now in
    ends_err v.n v.slots.now v.masks.now b i p e (λ q. blocked_r v.n (st v.n v.slots.now v.masks.now b) q (need_remove_r q)) refl
    (sym c.reached.ensures ∙ c.in_err-at.was) c.from_residual.ensures.1

pub returns-then-at-eq0 : goal.returns-then-at-eq0
returns-then-at-eq0 c p i e =
    let v = c.args.pool.now in
    let b = c.args.book.now in
    ends_either v.n v.slots.now v.masks.now b i p e (λ q. blocked_r v.n (st v.n v.slots.now v.masks.now b) q (need_remove_r q))
    (sym c.reached.ensures ∙ c.in_ok-at.was)
    (λ x. afford_none _ _ _ _ _ (cases x (λ t. rw (t, c.if-at-eq0.true) refl) (λ t. rw t refl)) ∙ sym (remove_slot _ _ _ _ x))

pub returns : goal.returns
returns c p i e =
    let v = c.args.pool.now in
    let b = c.args.book.now in
    ends_ok v.n v.slots.now v.masks.now b i p e (λ q. blocked_r v.n (st v.n v.slots.now v.masks.now b) q (need_remove_r q))
    (sym c.reached.ensures ∙ c.in_ok-at.was) (c.active_at.ensures b)
    (c.afford.ensures _ _ ∙ ap (afford_s v.n (st v.n v.slots.now v.masks.now b)) c.need_remove.ensures ∙ sym (remove_slot _ _ _ _ c.active_at.result))
