use mathlib.Core.Path.{sym, ◌∙◌}
use Rattle.sound.proofs.Links.{cell_links, no_links}
use Rattle.sound.proofs.test.Whole.cell_links.Goals as goal

pub returns-then-forks : goal.returns-then-forks
returns-then-forks c = c.bits.ensures ∙ cell_links _ _ _ _ c.args.c c.requires (sym c.forks.ensures ∙ c.if-forks.true)

pub returns-else-forks : goal.returns-else-forks
returns-else-forks c = no_links _ _ (sym c.forks.ensures ∙ c.if-forks.false)
