use mathlib.Core.Bool.{not}
use mathlib.Core.Path.{ap}
use borrow.Author.Tests.{not-true, not-false}
use Rattle.nodes.proofs.States.{word_may, kid_may}
use Rattle.nodes.proofs.Paths.{child_none, child_by}
use Rattle.nodes.proofs.view.View.child.Goals as goal

pub kid-requires : goal.kid-requires
kid-requires c = kid_may c.args.self.now.fit c.requires

pub returns-then-not-kid : goal.returns-then-not-kid
returns-then-not-kid c book = child_none _ _ book c.requires c.kid.ensures (not-true _ (ap not c.if-not-kid.true))

pub word-c-requires : goal.word-c-requires
word-c-requires c = word_may c.args.self.now.fit c.requires

pub returns : goal.returns
returns c book = child_by _ _ book c.requires c.kid.ensures (not-false _ (ap not c.if-not-kid.false)) c.word-c.ensures c.then_some.ensures
