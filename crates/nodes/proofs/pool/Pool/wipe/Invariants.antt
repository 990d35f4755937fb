use mathlib.Core.Path.{◌≡◌}
use Rattle.nodes.specs.Pool.{Same, state}
use Rattle.nodes.specs.Each.{each_s}
use Rattle.nodes.specs.Wipe.{wipe_at, empty_m}
use Rattle.nodes.proofs.pool.Pool.wipe.Given as goal

abbrev pub invariant-loop-k : goal.invariant-loop-k
invariant-loop-k l = record {
  kept : Same l.initial.self l.self;
  done : state l.self ≡ each_s (wipe_at (empty_m l.initial.self.n 1) l.initial.self.n l.w l.active l.seat) l.k (state l.initial.self);
}
