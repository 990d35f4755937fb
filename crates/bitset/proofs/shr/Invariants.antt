use Rattle.bitset.specs.Set.{up}
use Rattle.bitset.proofs.Loops.{Back}
use Rattle.bitset.proofs.shr.Given as goal

abbrev pub invariant-loop-q : goal.invariant-loop-q
invariant-loop-q l = Back (up l.initial.ws l.s) l.initial.ws l.ws l.q
