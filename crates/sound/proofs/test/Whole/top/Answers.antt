use Rattle.std.proofs.Common.{rules}
use mathlib.Core.Path.{◌∙◌}
use native.Mathlib.Omega.{arith}
use borrow.Author.Count.{below_none}
use Rattle.bitset.proofs.Every.{every_intro}
use Rattle.sound.specs.Whole.{state}
use Rattle.sound.specs.Slots.{either_b, group}
use Rattle.sound.proofs.Chains.{all_below}
use Rattle.sound.proofs.Checks.{fork_top, node_fork}
use Rattle.sound.proofs.Groups.{top_groups}
use Rattle.sound.proofs.test.Whole.top.Goals as goal

pub returns : goal.returns
returns c =
    let s = state c.args.self.now in
    let p = either_b c.args.self.now.n s c.args.t in
    node_fork _ s _ (fork_top s _ c.requires) _
    (all_below (group p) 0 8 (omega arith) (every_intro _ 0 (below_none _)) _ _ _ c.all.ensures.ran (λ x b q k. search rules) ∙ top_groups p _ c.requires)
