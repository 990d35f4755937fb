use mathlib.Core.Bool.{not}
use mathlib.Core.Path.{ap, ◌∙◌}
use Prim.Native.Nat.{ℕ}
use lib.Bits.{bit_and}
use lib.Dec.{eqb}
use lib.ListN.{get_or}
use Rattle.bitset.proofs.Sets.{has_own}
use Rattle.nodes.proofs.Seeks.{bit_mask}
use Rattle.nodes.proofs.memory.bit_in.Goals as goal

pub returns : goal.returns
returns c =
    let a = c.args in
    let w = get_or a.masks.now a.q 0 in
    ap (λ (m : ℕ). not (eqb (bit_and w m) 0)) c.value_mask.ensures ∙ bit_mask w a.k ∙ has_own a.masks.now a.q a.k c.requires.1
