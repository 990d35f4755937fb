use Rattle.std.proofs.Common.{rules}
use mathlib.Core.Path.{ap, ◌∙◌}
use native.Mathlib.Omega.{arith}
use Rattle.bitset.specs.Set.{every}
use Rattle.nodes.specs.Test.{stacked_b}
use Rattle.sound.specs.Whole.{state}
use Rattle.sound.proofs.Chains.{all_below}
use Rattle.sound.proofs.test.Whole.all_stacked.Goals as goal

pub returns : goal.returns
returns c =
    let p = stacked_b c.args.self.now.n (state c.args.self.now) in
    all_below p _ _ (omega arith) c.requires.passed _ _ _ c.all.ensures.ran (λ x b q k. search rules) ∙ ap (every p) c.count.ensures
