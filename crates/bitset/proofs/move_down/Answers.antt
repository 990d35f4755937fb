-- `bitset::move_down` meets its contract. The words below q have the bits that have moved, and the rest is as it was. Assumes nothing.
use mathlib.Core.Path.{◌≡◌, ap, ◌∙◌}
use Prim.Native.Nat.{◌+◌, ◌*◌}
use Rattle.bitset.specs.Set.{bit_of}
use Rattle.bitset.proofs.Sets.{bit_past}
use Rattle.bitset.proofs.Loops.{front_more, front_left, front_all}
use native.Mathlib.Omega.{arith}
use Rattle.bitset.proofs.move_down.Goals as goal

pub loop-q-preserved : goal.loop-q-preserved
loop-q-preserved c =
    let a = c.args in
    let l = c.loop-q in
    front_more l.invariant (omega arith) c.window.result
    (λ r h.
    let e : 64 * l.q + a.s + r ≡ 64 * l.q + r + a.s = omega arith in
    c.window.ensures r h ∙ front_left l.invariant (64 * l.q + a.s + r) (omega arith) ∙ ap (bit_of a.ws.now) e)

pub returns : goal.returns
returns c =
    let a = c.args in
    front_all c.loop-q.invariant c.loop-q-test.false (λ k h. bit_past a.ws.now (k + a.s) (omega arith))
