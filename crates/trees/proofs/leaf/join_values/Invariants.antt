use mathlib.Core.Path.{◌≡◌}
use Prim.Native.Nat.{ℕ, ◌+◌, ◌*◌, ◌<◌, ◌≤◌}
use lib.ListN.{get_or}
use Rattle.grid.specs.Combine.{joined}
use Rattle.trees.specs.Combine.{join_o}
use Rattle.trees.proofs.leaf.join_values.Given as goal

abbrev pub invariant-loop-i : goal.invariant-loop-i
invariant-loop-i l =
    record {
      done : (k : ℕ) → k < l.i → get_or l.slots (64 * (64 + l.c) + k) 0 ≡ joined (join_o l.join) (get_or l.initial.slots (64 * (64 + l.c) + k) 0) (get_or l.initial.slots (64 * (64 + l.d) + k) 0);
      before : (p : ℕ) → p < 64 * (64 + l.c) → get_or l.slots p 0 ≡ get_or l.initial.slots p 0;
      after : (p : ℕ) → 64 * (64 + l.c) + l.i ≤ p → get_or l.slots p 0 ≡ get_or l.initial.slots p 0;
    }
