use mathlib.Core.Path.{refl, sym, ap, ◌∙◌}
use Rattle.nodes.specs.Layout.{st}
use Rattle.nodes.specs.Walk.{need_insert_r}
use Rattle.voxels.specs.Answers.{afford_s, blocked_r}
use Rattle.voxels.proofs.Ends.{ends_err, ends_ok, ends_either, reached_told, insert_slot, leaf_need}
use Rattle.voxels.proofs.Afford.{afford_none}
use Rattle.voxels.proofs.voxel.insert_blocked.Goals as goal

pub returns-in_err-at : goal.returns-in_err-at
returns-in_err-at c p i e =
    let v = c.args.pool.now in
    let b = c.args.book.now in
    ends_err v.n v.slots.now v.masks.now b i p e (λ q. blocked_r v.n (st v.n v.slots.now v.masks.now b) q (need_insert_r q c.args.w)) refl
    (sym c.reached.ensures ∙ c.in_err-at.was) c.from_residual.ensures.1

pub returns-then-at-eq0 : goal.returns-then-at-eq0
returns-then-at-eq0 c p i e =
    let v = c.args.pool.now in
    let b = c.args.book.now in
    ends_either v.n v.slots.now v.masks.now b i p e (λ q. blocked_r v.n (st v.n v.slots.now v.masks.now b) q (need_insert_r q c.args.w))
    (sym c.reached.ensures ∙ c.in_ok-at.was)
    (λ x. afford_none _ _ _ _ _ (leaf_need x _ c.if-at-eq0.true) ∙ sym (insert_slot _ _ _ _ c.args.w x))

pub need_insert-requires : goal.need_insert-requires
need_insert-requires c = ((reached_told _ (sym c.reached.ensures ∙ c.in_ok-at.was)).2, c.requires.2)

pub returns : goal.returns
returns c p i e =
    let v = c.args.pool.now in
    let b = c.args.book.now in
    ends_ok v.n v.slots.now v.masks.now b i p e (λ q. blocked_r v.n (st v.n v.slots.now v.masks.now b) q (need_insert_r q c.args.w))
    (sym c.reached.ensures ∙ c.in_ok-at.was) (c.active_at-active.ensures b)
    (c.afford.ensures _ _ ∙ ap (afford_s v.n (st v.n v.slots.now v.masks.now b)) c.need_insert.ensures ∙ sym (insert_slot _ _ _ _ c.args.w c.active_at-active.result))
