-- `bitset::at` meets its contract: the code is the definition. Assumes nothing.
use mathlib.Core.Path.{refl}
use Rattle.bitset.specs.Set.{bit_of}
use Rattle.bitset.proofs.at.Goals as goal

pub returns : goal.returns
unfolding bit_of
returns c = refl
