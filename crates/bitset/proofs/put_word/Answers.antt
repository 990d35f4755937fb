-- `bitset::put_word` meets its contract. Assumes nothing.
use borrow.Author.Tests.{lt-ltb}
use Rattle.bitset.proofs.Sets.{bit_set}
use native.Mathlib.Omega.{arith}
use Rattle.bitset.proofs.put_word.Goals as goal

pub returns-then-there-clause-stored : goal.returns-then-there-clause-stored
returns-then-there-clause-stored c = simp (lt-ltb _ _ c.if-there.true) (bit_set _ _ _ (omega arith))
