use Prim.Native.Nat.{◌+◌, ◌*◌}
use mathlib.Core.Path.{◌≡◌}
use Rattle.bitset.proofs.Left.{left}
use Rattle.nodes.specs.Test.{link_b}
use Rattle.sound.specs.Whole.{state}
use Rattle.sound.specs.Slots.{group, branch_b}
use Rattle.sound.proofs.test.Whole.links.Given as goal

abbrev pub invariant-loop-i : goal.invariant-loop-i
invariant-loop-i l = group (branch_b l.self.n (state l.self) l.x) l.j ≡ left (λ i. link_b l.self.n (state l.self) l.x (64 * l.j + i)) l.i-iterator.rest
