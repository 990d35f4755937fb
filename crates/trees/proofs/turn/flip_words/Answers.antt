use native.Mathlib.Omega.{arith}
use Prim.Native.Nat.{◌%◌}
use Rattle.std.proofs.lemmas.Grind.{common_steps}
use Rattle.trees.proofs.turn.flip_words.Goals as goal

pub returns : goal.returns
returns c = λ i. grind (arith, common_steps, c.loop-w.invariant (i % 64))
