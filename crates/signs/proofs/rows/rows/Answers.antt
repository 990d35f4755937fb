use native.Mathlib.Omega.{arith}
use mathlib.Core.Path.{refl}
use Rattle.signs.proofs.Along.{along_none, along_more, all_x}
use Rattle.signs.proofs.rows.rows.Goals as goal

pub loop-x-init : goal.loop-x-init
loop-x-init g c = along_none

pub loop-x-preserved : goal.loop-x-preserved
loop-x-preserved g c = along_more c.loop-x.invariant c.loop-x.auto.slots c.behind-i.ensures c.row_y.ensures

pub returns : goal.returns
returns g c = λ q h. all_x (omega arith) c.side-m.ensures refl (c.loop-x.invariant.goes q _ h (c.start-i.ensures q h))
