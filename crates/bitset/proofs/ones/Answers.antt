-- `bitset::ones` meets its contract. Assumes nothing.
use mathlib.Core.Path.{ap, ◌∙◌}
use Prim.Native.Nat.{◌*◌}
use lib.ListN.{length}
use mathlib.Core.Bool.{Bool, ◌&&◌, and-true}
use lib.Dec.{ltb}
use Rattle.bitset.proofs.Words.{ones_bit}
use Rattle.bitset.proofs.ones.Goals as goal

pub returns : goal.returns
returns c =
    let m = 64 * length c.args.ws.now in
    λ k. c.with.ensures k ∙ ap (λ (b : Bool). ltb k m && b) (ones_bit k) ∙ and-true (ltb k m)
