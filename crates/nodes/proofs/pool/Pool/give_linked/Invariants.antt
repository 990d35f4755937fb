use Prim.Native.Nat.{◌+◌}
use mathlib.Core.Path.{◌≡◌}
use Rattle.nodes.specs.Each.{each_s}
use Rattle.nodes.specs.Pool.{Same, state}
use Rattle.nodes.specs.Wipe.{unlink_s}
use Rattle.nodes.proofs.Wipes.{links_left}
use Rattle.nodes.proofs.pool.Pool.give_linked.Given as goal

abbrev pub invariant-loop-i : goal.invariant-loop-i
invariant-loop-i l = record {
  kept : Same l.initial.self l.self;
  left : links_left l.initial.self.n l.c l.i-iterator.rest (state l.self) ≡ each_s (unlink_s l.initial.self.n (8 + l.c)) 64 (state l.initial.self);
}
