use native.Mathlib.Omega.{arith}
use Rattle.floats.proofs.Least.{least_joined}
use Rattle.floats.proofs.least_word.Goals as goal

pub returns : goal.returns
returns c =
    least_joined c.args.v c.args.w (omega arith) (omega arith) c.requires.v_value c.requires.w_value
    c.float_of-x.ensures c.float_of-y.ensures c.chosen_word.ensures c.chosen_word-2.ensures
