use mathlib.Core.Path.{ap, ◌∙◌}
use Prim.Native.Nat.{ℕ}
use native.Mathlib.Omega.{arith}
use lib.Dec.{ltb}
use Rattle.voxels.proofs.Afford.{link_at}
use Rattle.voxels.proofs.free.linked.Goals as goal

pub returns-else-free-j : goal.returns-else-free-j
returns-else-free-j c slots masks =
    let a = c.args in
    let l = c.if-free-j.false in
    ap (λ (k : ℕ). ltb k a.n) c.stacked.ensures ∙ link_at a.n slots masks _ a.free a.j c.requires.1 (omega (arith, l))
