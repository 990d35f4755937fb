use native.Mathlib.Omega.{arith}
use Rattle.signs.proofs.Along.{along_none, along_more, all_y}
use Rattle.signs.proofs.rows.row_y.Goals as goal

pub loop-y-init : goal.loop-y-init
loop-y-init g c = along_none

pub loop-y-preserved : goal.loop-y-preserved
loop-y-preserved g c = along_more c.loop-y.invariant c.loop-y.auto.slots c.behind-j.ensures c.row_z.ensures

pub returns : goal.returns
returns g c = λ q e h d. all_y (omega arith) c.side-m.ensures c.args.i (c.loop-y.invariant.goes q e h d)
