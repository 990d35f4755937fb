use Prim.Native.Nat.{ℕ, ◌*◌, ◌<◌}
use mathlib.Core.Path.{◌≡◌}
use mathlib.Core.Bool.{true}
use Rattle.sound.specs.Whole.{state}
use Rattle.sound.specs.Own.{own_b}
use Rattle.sound.proofs.test.Whole.untouched.Given as goal

abbrev pub invariant-loop-j : goal.invariant-loop-j
invariant-loop-j l = (c : ℕ) → c < 64 * l.j → own_b (state l.self) c ≡ true
