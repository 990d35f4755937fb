use native.Mathlib.Omega.{arith}
use Rattle.nodes.proofs.Seeks.{path_made}
use Rattle.nodes.proofs.geometry.path.Goals as goal

pub returns : goal.returns
returns c =
    let a = c.slot.ensures in
    let b = c.slot-2.ensures in
    let d = c.slot-3.ensures in
    (path_made _ a.is b.is d.is, omega (arith, a.within, b.within, d.within))
