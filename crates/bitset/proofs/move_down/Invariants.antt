use Prim.Native.Nat.{◌+◌}
use Rattle.bitset.specs.Set.{bit_of}
use Rattle.bitset.proofs.Loops.{Front}
use Rattle.bitset.proofs.move_down.Given as goal

abbrev pub invariant-loop-q : goal.invariant-loop-q
invariant-loop-q l = Front (λ k. bit_of l.initial.ws (k + l.s)) l.initial.ws l.ws l.q
