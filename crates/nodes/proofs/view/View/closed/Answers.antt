use mathlib.Core.Bool.{true, false}
use Rattle.nodes.proofs.States.{word_may, val_may}
use Rattle.nodes.proofs.Paths.{closed_by}
use Rattle.nodes.proofs.view.View.closed.Goals as goal

pub word-w-requires : goal.word-w-requires
word-w-requires c = word_may c.args.self.now.fit c.requires

pub val-requires : goal.val-requires
val-requires c = val_may c.args.self.now.fit c.requires

pub returns-then-val : goal.returns-then-val
returns-then-val c = λ book. closed_by _ _ book c.requires true c.word-w.ensures c.val.ensures c.if-val.true

pub returns-else-val : goal.returns-else-val
returns-else-val c = λ book. closed_by _ _ book c.requires false c.word-w.ensures c.val.ensures c.if-val.false
