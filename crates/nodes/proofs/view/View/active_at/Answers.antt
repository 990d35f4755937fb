use mathlib.Core.Path.{refl, sym}
use native.Mathlib.Omega.{arith}
use Rattle.nodes.proofs.Seeks.{val_here}
use Rattle.nodes.proofs.view.View.active_at.Goals as goal

pub returns : goal.returns
returns c book x k m e = sym (val_here _ c.args.self.now.masks.now book m e (omega arith) c.bit_in.ensures refl)
