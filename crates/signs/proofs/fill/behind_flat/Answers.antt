use Rattle.nodes.proofs.States.{word_may, val_may}
use Rattle.signs.proofs.SignAt.{behind_active, behind_hidden}
use Rattle.signs.proofs.fill.behind_flat.Goals as goal

pub val-requires : goal.val-requires
val-requires c = val_may c.args.view.now.fit c.requires

pub word-requires : goal.word-requires
word-requires c = word_may c.args.view.now.fit c.requires

pub returns-then-val : goal.returns-then-val
returns-then-val c = λ book. behind_active _ _ book c.requires _ c.val.ensures c.if-val.true c.word.ensures c.negative_word.ensures

pub returns : goal.returns
returns c = λ book. behind_hidden _ _ book c.requires _ c.val.ensures c.if-val.false
