use mathlib.Core.Path.{◌≡◌}
use Prim.Native.Nat.{◌+◌, ◌-◌, ◌*◌, ◌≤◌}
use Rattle.nodes.specs.Each.{each_s}
use Rattle.nodes.specs.Pool.{Same, state}
use Rattle.nodes.specs.Walk.{branching, below}
use Rattle.trees.specs.Copy.{branch_at, copy_m}
use Rattle.trees.proofs.copy.+branch_branches.Given as goal

abbrev pub decreases-branch : goal.decreases-branch
decreases-branch l = l.level * 2

abbrev pub decreases-branches : goal.decreases-branches
decreases-branches l = l.level * 2 + 1

abbrev pub invariant-branches-loop-k : goal.invariant-branches-loop-k
invariant-branches-loop-k l =
    record {
      within : l.k ≤ l.m;
      kept : Same l.initial.pool l.pool;
      copied : state l.pool ≡ each_s (branch_at (copy_m (branching (l.level - 1)) (below (l.level - 1)) l.initial.pool.n) l.initial.pool.n l.x l.y) l.k (state l.initial.pool);
    }

abbrev pub decreases-branches-loop-k : goal.decreases-branches-loop-k
decreases-branches-loop-k l = l.m - l.k
