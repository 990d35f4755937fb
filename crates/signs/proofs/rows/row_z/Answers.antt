use native.Mathlib.Omega.{arith}
use Rattle.signs.proofs.Along.{along_none, along_more, all_z}
use Rattle.signs.proofs.rows.row_z.Goals as goal

pub loop-z-init : goal.loop-z-init
loop-z-init g c = along_none

pub loop-z-preserved : goal.loop-z-preserved
loop-z-preserved g c = along_more c.loop-z.invariant c.loop-z.auto.slots c.behind-k.ensures c.write.ensures

pub returns : goal.returns
returns g c = λ q e h d. all_z (omega arith) c.side-z-end.ensures c.args.i (c.loop-z.invariant.goes q e h d)
