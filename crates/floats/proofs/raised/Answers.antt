use mathlib.Core.Path.{refl}
use Rattle.floats.proofs.Finite.{raised_sign}
use Rattle.floats.proofs.raised.Goals as goal

pub returns : goal.returns
returns c = (refl, raised_sign c.args.w)
