use native.Mathlib.Omega.{arith}
use Rattle.floats.proofs.Words.{xor_negated}
use Rattle.floats.proofs.negated_word.Goals as goal

pub returns : goal.returns
returns c = xor_negated c.args.w (omega arith)
