use lib.Ieee.{nan_bits}
use Rattle.calls.proofs.GridAnswer.without.Goals as goal

pub float_from_bits-result : goal.float_from_bits-result
unfolding nan_bits
float_from_bits-result c = tt
