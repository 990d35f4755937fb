use Rattle.std.proofs.Common.{◌≤◌, ◌-◌, length}
use Rattle.replay.proofs.filled.Given as goal

abbrev pub invariant-loop-n : goal.invariant-loop-n
invariant-loop-n l = l.n ≤ length l.b

abbrev pub decreases-loop-n : goal.decreases-loop-n
decreases-loop-n l = length l.initial.b - l.n
