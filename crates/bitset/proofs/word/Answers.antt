-- `bitset::word` meets its contract. Assumes nothing.
use Rattle.bitset.proofs.Sets.{has_own}
use native.Mathlib.Omega.{arith}
use Rattle.bitset.proofs.word.Goals as goal

pub returns-then-offset-n : goal.returns-then-offset-n
returns-then-offset-n c = (omega arith, has_own c.args.ws.now c.args.offset)
