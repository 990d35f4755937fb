use mathlib.Core.Bool.{not}
use mathlib.Core.Path.{ap, ◌∙◌}
use Prim.Native.Nat.{ℕ}
use lib.Bits.{bit_and}
use lib.Dec.{eqb}
use Rattle.nodes.proofs.Seeks.{bit_mask}
use Rattle.signs.proofs.leaf.LeafWords.on.Goals as goal

pub returns : goal.returns
returns c = let v = c.args.self.v in ap (λ (m : ℕ). not (eqb (bit_and v m) 0)) c.value_mask.ensures ∙ bit_mask v c.args.k
