use Prim.Native.Nat.{◌*◌}
use Rattle.signs.specs.Signs.{row_y}
use Rattle.signs.proofs.Along.{Along}
use Rattle.signs.proofs.rows.rows.Given as goal

abbrev pub invariant-loop-x : goal.invariant-loop-x
invariant-loop-x g l =
    let t = g.C.Carry in
    let bs = t.deeper l.node in
    Along t.carried (t.shows l.node) bs (λ x. x * (l.m * l.m)) (λ q. row_y (t.branches l.node) bs q.n q.x) l.initial.i l.initial.slots l.x l.i l.slots
