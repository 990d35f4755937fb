-- `next` of `bitset::OnBits` meets its contract. Assumes nothing.
use native.Mathlib.Omega.{arith}
use Rattle.bitset.proofs.First.{leads, less_lt}
use Rattle.bitset.proofs.OnBitsIterator.next.Goals as goal

pub returns-clause-steps : goal.returns-clause-steps
returns-clause-steps c = (leads _ c.if-self-eq0.false (omega arith), c.without-self.ensures)

pub returns-clause-goes : goal.returns-clause-goes
returns-clause-goes c =
    record {
      on = λ _. (tt, tt, omega (arith, less_lt (leads _ c.if-self-eq0.false (omega arith)), c.without-self.ensures));
      keeps = tt;
      rests = λ _. tt;
    }
