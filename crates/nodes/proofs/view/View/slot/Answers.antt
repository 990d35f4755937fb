use native.Mathlib.Omega.{arith}
use mathlib.Core.Path.{◌∙◌}
use Rattle.nodes.proofs.States.{word_may, kid_may}
use Rattle.nodes.proofs.Paths.{view_leaf, view_branch, view_closed}
use Rattle.nodes.proofs.view.View.slot.Goals as goal
use Rattle.nodes.proofs.view.View.slot.Goals.{else-level-gt0-via-then-level-gt0+else-kid, else-level-gt0-via-else-level-gt0}

pub kid-requires : goal.kid-requires
kid-requires c = kid_may c.args.self.now.fit c.requires

pub word-requires : goal.word-requires
word-requires c = word_may c.args.self.now.fit c.requires

pub returns-then-kid : goal.returns-then-kid
returns-then-kid c book = view_branch _ _ book c.requires _ (λ e. omega arith) c.word.ensures c.kid.ensures c.if-kid.true

pub returns-else-level-gt0 : goal.returns-else-level-gt0
returns-else-level-gt0 c book =
    elim c.else-level-gt0.branch [
      | else-level-gt0-via-then-level-gt0+else-kid w ↦ view_closed _ _ book c.requires _ (λ e. omega arith) w.kid.ensures w.if-kid.false (c.closed.ensures book)
      | else-level-gt0-via-else-level-gt0 w ↦ c.closed.ensures book ∙ view_leaf _ _ _ _ (omega arith)
    ]
