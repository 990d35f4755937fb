use Prim.Native.Nat.{◌+◌}
use Rattle.signs.specs.Signs.{write_s}
use Rattle.signs.proofs.Along.{Along}
use Rattle.signs.proofs.rows.row_z.Given as goal

abbrev pub invariant-loop-z : goal.invariant-loop-z
invariant-loop-z g l = let t = g.C.Carry in let bs = t.deeper l.node in Along t.carried (t.shows l.node) bs (λ z. l.i + z) (λ q. write_s bs q.x) l.fn.sign l.initial.slots l.z l.k l.slots
