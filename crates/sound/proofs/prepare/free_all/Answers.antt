use mathlib.Core.Path.{◌∙◌}
use lib.ListN.{length-set}
use Rattle.sound.proofs.Ready.{freed}
use Rattle.sound.proofs.prepare.free_all.Goals as goal

pub shape_of-book : goal.shape_of-book
shape_of-book c =
    length-set c.count_up-2.new.ws _ _ ∙ c.count_up-2.ensures.long ∙ c.count_up.ensures.long ∙ c.fill.ensures.long

pub returns : goal.returns
returns c =
    freed c.args.n c.requires.book_fit c.fill.ensures c.count_up.ensures c.count_up-2.ensures
