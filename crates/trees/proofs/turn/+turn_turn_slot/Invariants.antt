use mathlib.Core.Path.{◌≡◌}
use Prim.Native.Nat.{◌+◌, ◌-◌, ◌*◌}
use Rattle.nodes.specs.Each.{each_s}
use Rattle.nodes.specs.Pool.{Same, state}
use Rattle.nodes.specs.Walk.{branching, below}
use Rattle.trees.specs.Turn.{turn_at, turn_m}
use Rattle.trees.proofs.turn.+turn_turn_slot.Given as goal

abbrev pub decreases-turn : goal.decreases-turn
decreases-turn l = l.level * 2 + 1

abbrev pub decreases-turn_slot : goal.decreases-turn_slot
decreases-turn_slot l = l.level * 2

abbrev pub invariant-turn-loop-k : goal.invariant-turn-loop-k
invariant-turn-loop-k l =
    record {
      kept : Same l.initial.pool l.pool;
      turned : state l.pool ≡ each_s (turn_at l.work (below (l.level - 1)) (turn_m (branching (l.level - 1)) (below (l.level - 1)) l.work l.initial.pool.n) l.initial.pool.n l.x) l.k
          (state l.initial.pool);
    }
