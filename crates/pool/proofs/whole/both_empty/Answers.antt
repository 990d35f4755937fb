use mathlib.Core.Bool.{not}
use mathlib.Core.Path.{ap}
use Rattle.pool.proofs.WholePromises.{kids_on, vals_say}
use Rattle.pool.proofs.whole.both_empty.Goals as goal

pub returns-then-not-is_empty : goal.returns-then-not-is_empty
returns-then-not-is_empty c slots book = kids_on _ slots _ book _ c.requires.1 _ c.is_empty.ensures (ap not c.if-not-is_empty.true)

pub returns : goal.returns
returns c slots book =
    vals_say _ slots _ book _ c.requires.1 _ c.is_empty.ensures (ap not c.if-not-is_empty.false) _ c.is_empty-2.ensures
