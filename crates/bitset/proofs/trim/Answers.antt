-- `bitset::trim` meets its contract. Assumes nothing.
use Prim.Native.Nat.{◌-◌}
use lib.ListN.{length}
use Rattle.bitset.proofs.Sets.{set_trim}
use native.Mathlib.Omega.{arith}
use Rattle.bitset.proofs.trim.Goals as goal

pub returns : goal.returns
returns c =
    let a = c.args in
    let ws = a.ws.now in
    set_trim ws (length ws - 1) c.unused_mask-mask.result a.n (omega arith) (omega arith) c.unused_mask-mask.ensures
