-- `bitset::off` meets its contract. Assumes nothing.
use Rattle.bitset.proofs.Sets.{set_off}
use native.Mathlib.Omega.{arith}
use Rattle.bitset.proofs.off.Goals as goal

pub returns : goal.returns
returns c = set_off _ _ _ (omega arith) c.value_mask.ensures
