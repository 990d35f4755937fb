use mathlib.Core.Path.{◌≡◌}
use Prim.Native.Nat.{◌-◌}
use Rattle.trees.proofs.Listed.{to_give}
use Rattle.trees.proofs.links.LinksIterator.next.Given as goal

abbrev pub invariant-loop-i : goal.invariant-loop-i
invariant-loop-i l = to_give l.initial.self ≡ to_give l.self

abbrev pub decreases-loop-i : goal.decreases-loop-i
decreases-loop-i l = l.self.last - l.self.group
