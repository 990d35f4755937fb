use Rattle.floats.proofs.Finite.{finite_number}
use Rattle.floats.proofs.word_of.Goals as goal

pub float_to_bits-result : goal.float_to_bits-result
float_to_bits-result c = finite_number c.args.x c.requires
