use Prim.Native.Nat.{◌+◌}
use mathlib.Core.Path.{◌≡◌}
use Rattle.grid.specs.Node.{sum}
use Rattle.sound.specs.Links.{links_of}
use Rattle.sound.specs.Whole.{state}
use Rattle.sound.proofs.test.Whole.all_links.Given as goal

abbrev pub invariant-loop-c : goal.invariant-loop-c
invariant-loop-c l = l.all ≡ sum (8 + l.c) (links_of (state l.self))
