use mathlib.Core.Path.{ap, ◌∙◌}
use Prim.Native.Nat.{ℕ, ◌/◌}
use native.Mathlib.Omega.{arith}
use lib.ListN.{get_or}
use Rattle.bitset.specs.Set.{word_bit}
use Rattle.sound.proofs.Groups.{run_fits, kids_are}
use Rattle.sound.proofs.test.Whole.kids.Goals as goal

pub bounds-self-word_of : goal.bounds-self-word_of
bounds-self-word_of c = omega (arith, c.word_of.ensures, run_fits _ c.requires)

pub returns : goal.returns
returns c i h = ap (λ (p : ℕ). word_bit (get_or c.args.self.now.masks.now (p / 64) 0) i) c.word_of.ensures ∙ kids_are _ c.requires _ _ _ i h
