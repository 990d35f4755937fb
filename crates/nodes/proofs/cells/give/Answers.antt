use mathlib.Core.Path.{refl}
use native.Mathlib.Omega.{arith}
use Rattle.nodes.proofs.Books.{give_step}
use Rattle.nodes.proofs.cells.give.Goals as goal

pub returns : goal.returns
returns c = λ slots masks. give_step _ _ _ c.requires.0 slots masks _ _ c.count-free.ensures (omega arith) c.requires.2 refl
