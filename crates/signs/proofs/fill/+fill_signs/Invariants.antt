use mathlib.Core.Path.{◌≡◌}
use mathlib.Core.List.{List}
use Prim.Native.Nat.{ℕ}
use Rattle.nodes.specs.Layout.{st}
use Rattle.nodes.specs.Each.{each_s}
use Rattle.signs.proofs.Fills.{under}
use Rattle.signs.proofs.fill.+fill_signs.Given as goal

abbrev pub decreases-fill_signs : goal.decreases-fill_signs
decreases-fill_signs l = l.level

abbrev pub invariant-loop-k : goal.invariant-loop-k
invariant-loop-k l = (book : List ℕ) → st l.n l.slots l.masks book ≡ each_s (under l.n l.level l.x) l.k (st l.n l.initial.slots l.masks book)
