use mathlib.Core.Path.{◌≡◌}
use mathlib.Core.List.{List}
use Prim.Native.Nat.{ℕ, ◌-◌}
use Rattle.std.specs.List.{list_any}
use Rattle.nodes.specs.Layout.{st}
use Rattle.nodes.specs.Walk.{branching, below}
use Rattle.trees.specs.Below.{hollow_m}
use Rattle.trees.proofs.Listed.{to_give}
use Rattle.trees.proofs.Counts.{hollow_link}
use Rattle.trees.proofs.below.+hollow.Given as goal

abbrev pub decreases-hollow : goal.decreases-hollow
decreases-hollow l = l.level

abbrev pub invariant-loop-c : goal.invariant-loop-c
invariant-loop-c l =
    let v = l.view in
    (book : List ℕ) → list_any (hollow_link v.n (l.level - 1) (st v.n v.slots.now v.masks.now book)) (to_give l.c-iterator)
    ≡ hollow_m (branching l.level) (below l.level) v.n (st v.n v.slots.now v.masks.now book) l.x
