-- `bitset::value_mask` meets its contract. Assumes nothing.
use Rattle.bitset.proofs.Words.{weight_is}
use Rattle.bitset.proofs.value_mask.Goals as goal

pub returns : goal.returns
returns c = weight_is c.args.i
