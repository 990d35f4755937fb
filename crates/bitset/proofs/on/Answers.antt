-- `bitset::on` meets its contract. Assumes nothing.
use Rattle.bitset.proofs.Sets.{set_on}
use native.Mathlib.Omega.{arith}
use Rattle.bitset.proofs.on.Goals as goal

pub returns : goal.returns
returns c = set_on _ _ _ (omega arith) c.value_mask.ensures
