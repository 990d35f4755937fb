-- `bitset::shr` meets its contract. The words from q on have the bits that have moved, and those below are as they were. Assumes nothing.
use mathlib.Core.Path.{ap, ◌∙◌}
use mathlib.Core.Bool.{Bool, ◌&&◌}
use Prim.Native.Nat.{◌+◌, ◌-◌, ◌*◌}
use lib.Dec.{leb}
use Rattle.bitset.proofs.Loops.{back_more, back_left, back_all}
use native.Mathlib.Omega.{arith}
use Rattle.bitset.proofs.shr.Goals as goal

pub loop-q-preserved : goal.loop-q-preserved
loop-q-preserved c =
    let a = c.args in
    let l = c.loop-q in
    back_more l.invariant c.loop-q-test.true c.moved_word.result
    (λ r h. c.moved_word.ensures r h ∙ ap (λ (b : Bool). leb a.s (64 * (l.q - 1) + r) && b) (back_left l.invariant (64 * (l.q - 1) + r - a.s) (omega arith)))

pub returns : goal.returns
returns c = back_all c.loop-q.invariant c.loop-q-test.false
