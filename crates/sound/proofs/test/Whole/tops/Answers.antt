use Rattle.std.proofs.Common.{rules}
use native.Mathlib.Omega.{arith}
use borrow.Author.Count.{below_none}
use Rattle.bitset.proofs.Every.{every_intro}
use Rattle.sound.proofs.Chains.{all_below}
use Rattle.sound.proofs.test.Whole.tops.Goals as goal

pub returns : goal.returns
returns c = all_below _ 0 8 (omega arith) (every_intro _ 0 (below_none _)) _ _ _ c.all.ensures.ran (λ x b q k. search rules)
