use Rattle.floats.proofs.Finite.{finite_bits}
use Rattle.floats.proofs.float_of.Goals as goal

pub float_from_bits-result : goal.float_from_bits-result
float_from_bits-result c = finite_bits c.args.w c.requires
