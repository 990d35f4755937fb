use mathlib.Core.Path.{◌≡◌}
use Prim.Native.Nat.{◌+◌, ◌-◌, ◌*◌}
use Rattle.nodes.specs.Each.{each_s}
use Rattle.nodes.specs.Pool.{Same, state}
use Rattle.trees.specs.Combine.{join_o}
use Rattle.csg.proofs.Combines.{step}
use Rattle.csg.proofs.combine.+combine.Given as goal

abbrev pub decreases-combine : goal.decreases-combine
decreases-combine l = l.level * 2 + 1

abbrev pub decreases-combine_slot : goal.decreases-combine_slot
decreases-combine_slot l = l.level * 2

abbrev pub invariant-combine-loop-k : goal.invariant-combine-loop-k
invariant-combine-loop-k l =
    record {
      kept : Same l.initial.pool l.pool;
      joined : state l.pool ≡ each_s (step (join_o l.join) l.initial.pool.n (l.level - 1) l.x l.y) l.k (state l.initial.pool);
    }
