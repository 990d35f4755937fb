use mathlib.Core.Path.{◌≡◌}
use mathlib.Core.Bool.{cond}
use Prim.Native.Nat.{ℕ}
use lib.ListN.{get_or}
use lib.Dec.{ltb}
use Rattle.floats.specs.Value.{negated}
use Rattle.trees.proofs.turn.flip_words.Given as goal

abbrev pub invariant-loop-w : goal.invariant-loop-w
invariant-loop-w l = (k : ℕ) → get_or l.cell k 0 ≡ cond (ltb k l.w-index) (negated (get_or l.initial.cell k 0)) (get_or l.initial.cell k 0)
