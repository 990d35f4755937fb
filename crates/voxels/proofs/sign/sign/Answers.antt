use mathlib.Core.Path.{refl}
use Rattle.seats.specs.Call.{Sign}
use Rattle.nodes.specs.Layout.{st}
use Rattle.nodes.specs.Walk.{point_of}
use Rattle.voxels.specs.Answers.{mem_of, whether_of}
use Rattle.voxels.proofs.Promises.{admits, barred_says, sign_says}
use Rattle.voxels.proofs.Ends.{ends_in}
use Rattle.voxels.proofs.sign.sign.Goals as goal

pub returns-in_err-n : goal.returns-in_err-n
returns-in_err-n c p e =
    let a = c.args in
    barred_says whether_of (λ n. refl) a.seat (Sign p) (mem_of a.slots.now a.masks.now a.book.now) _ c.from_residual.ensures.1 c.in_err-n.ensures.told

pub signed-requires : goal.signed-requires
signed-requires c =
    let a = c.args in
    ends_in _ (st _ a.slots.now a.masks.now a.book.now) a.seat _ (c.in_ok-n.ensures.fit.1, c.seek.ensures _ _ c.path.ensures.0)

pub returns : goal.returns
returns c p e =
    let a = c.args in
    let d = admits (mem_of a.slots.now a.masks.now a.book.now) _ a.seat c.in_ok-n.ensures.told in
    sign_says d.0 a.seat a.v p d.1 e (c.signed.ensures _ (point_of a.v) a.seat (d.1, c.seek.ensures _ _ c.path.ensures.0))
