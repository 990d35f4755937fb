use mathlib.Core.Bool.{not}
use mathlib.Core.Path.{ap}
use Rattle.voxels.proofs.Afford.{afford_none, afford_out, afford_bad, afford_few, afford_yes}
use Rattle.voxels.proofs.free.afford.Goals.{then-n-free-via-then-n-free, then-n-free-via-else-n-free+then-not-all_linked}
use Rattle.voxels.proofs.free.afford.Goals as goal

pub returns-then-need-eq0 : goal.returns-then-need-eq0
returns-then-need-eq0 c slots masks = afford_none _ slots masks _ _ c.if-need-eq0.true

pub returns-then-n-free : goal.returns-then-n-free
returns-then-n-free c slots masks = elim c.then-n-free.branch [
  | then-n-free-via-then-n-free w ↦ afford_out _ slots masks _ _ _ c.count-free.ensures c.if-need-eq0.false w.if-n-free.true
  | then-n-free-via-else-n-free+then-not-all_linked w ↦
      afford_bad _ slots masks _ _ _ c.count-free.ensures c.if-need-eq0.false w.if-n-free.false (w.all_linked.ensures slots masks) (ap not w.if-not-all_linked.true)
]

pub returns-then-free-need : goal.returns-then-free-need
returns-then-free-need c slots masks =
    afford_few _ slots masks _ _ _ c.count-free.ensures c.if-need-eq0.false c.if-n-free.false (c.all_linked.ensures slots masks) (ap not c.if-not-all_linked.false) c.if-free-need.true

pub returns : goal.returns
returns c slots masks =
    afford_yes _ slots masks _ _ _ c.count-free.ensures c.if-need-eq0.false c.if-n-free.false (c.all_linked.ensures slots masks) (ap not c.if-not-all_linked.false) c.if-free-need.false
