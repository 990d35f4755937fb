use lib.ListN.{get_or}
use Rattle.trees.specs.Turn.{cuts}
use Rattle.trees.proofs.Turns.{Marked}
use Rattle.trees.proofs.turn.cut_bits.Given as goal

abbrev pub invariant-loop-i : goal.invariant-loop-i
invariant-loop-i l = Marked (λ r. cuts l.t (get_or l.w-items r 0)) l.bits l.i
