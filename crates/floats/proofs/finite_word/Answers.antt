use mathlib.Core.Path.{sym}
use Rattle.floats.proofs.Finite.{finite_word}
use Rattle.floats.proofs.finite_word.Goals as goal

pub returns : goal.returns
returns c = sym (finite_word c.args.w)
