use mathlib.Core.Path.{sym}
use native.Mathlib.Omega.{arith}
use Rattle.floats.proofs.Words.{negative_is_lem}
use Rattle.floats.proofs.negative_word.Goals as goal

pub returns : goal.returns
returns c = sym (negative_is_lem c.args.w (omega arith))
