use Prim.Native.Nat.{◌+◌, ◌*◌}
use Rattle.signs.specs.Signs.{row_z}
use Rattle.signs.proofs.Along.{Along}
use Rattle.signs.proofs.rows.row_y.Given as goal

abbrev pub invariant-loop-y : goal.invariant-loop-y
invariant-loop-y g l =
    let t = g.C.Carry in
    let bs = t.deeper l.node in
    Along t.carried (t.shows l.node) bs (λ y. l.i + y * l.m) (λ q. row_z (t.branches l.node) bs q.n q.x) l.fn.sign l.initial.slots l.y l.j l.slots
