use mathlib.Core.Path.{◌≡◌}
use mathlib.Core.List.{List}
use Prim.Native.Nat.{ℕ, ◌-◌}
use Rattle.grid.specs.Node.{size}
use Rattle.nodes.specs.Layout.{st}
use Rattle.nodes.specs.Walk.{branching, below}
use Rattle.signs.specs.Signs.{start_s}
use Rattle.signs.proofs.fill.UpperCarry.start.Given as goal

abbrev pub invariant-loop-k : goal.invariant-loop-k
invariant-loop-k l =
    let t = l.self in
    let m = size (branching t.level) in
    (book : List ℕ) → let s = st t.n l.slots t.masks.now book in start_s (below t.level) t.n s t.x 0 m ≡ start_s (below t.level) t.n s t.x l.k (m - l.k)
