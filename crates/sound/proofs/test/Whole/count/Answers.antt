use mathlib.Core.Path.{sym, ◌∙◌}
use Rattle.sound.proofs.Book.{st_count}
use Rattle.sound.proofs.test.Whole.count.Goals as goal

pub returns : goal.returns
returns c = c.count.ensures ∙ sym (st_count _ _ _ _)
