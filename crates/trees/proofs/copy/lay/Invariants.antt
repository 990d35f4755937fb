use mathlib.Core.Path.{◌≡◌}
use Prim.Native.Nat.{◌*◌}
use Rattle.nodes.specs.Pool.{Same, state}
use Rattle.trees.specs.Copy.{lay_s}
use Rattle.trees.proofs.copy.lay.Given as goal

abbrev pub invariant-loop-j : goal.invariant-loop-j
invariant-loop-j l =
    record {
      kept : Same l.initial.pool l.pool;
      laid : state l.pool ≡ lay_s (64 * l.j) l.x l.y (state l.initial.pool);
    }
