use mathlib.Core.Path.{◌≡◌}
use mathlib.Core.List.{List}
use Prim.Native.Nat.{ℕ, ◌+◌, ◌-◌}
use Rattle.std.specs.List.{sum_by}
use Rattle.nodes.specs.Layout.{st}
use Rattle.nodes.specs.Walk.{branching, below}
use Rattle.trees.specs.Below.{reached_m}
use Rattle.trees.proofs.Listed.{to_give}
use Rattle.trees.proofs.Counts.{cells_link}
use Rattle.trees.proofs.below.+reached.Given as goal

abbrev pub decreases-reached : goal.decreases-reached
decreases-reached l = l.level

abbrev pub invariant-loop-c : goal.invariant-loop-c
invariant-loop-c l =
    let v = l.view in
    (book : List ℕ) → l.cells + sum_by (cells_link v.n (l.level - 1) (st v.n v.slots.now v.masks.now book)) (to_give l.c-iterator)
    ≡ reached_m (branching l.level) (below l.level) v.n (st v.n v.slots.now v.masks.now book) l.x
