use mathlib.Core.Path.{sym, ap, ◌∙◌}
use mathlib.Core.Bool.{not}
use Rattle.sound.specs.Whole.{state}
use Rattle.sound.proofs.Checks.{node_free}
use Rattle.sound.proofs.Groups.{cell_fails, leaf_passes, middle_says}
use Rattle.sound.proofs.test.Whole.cell.Goals as goal

pub returns-then-not-lives : goal.returns-then-not-lives
returns-then-not-lives c = node_free _ _ _ (sym c.lives.ensures ∙ c.if-not-lives.true)

pub returns-then-not-values : goal.returns-then-not-values
returns-then-not-values c =
    cell_fails _ (state c.args.self.now) c.args.c (sym c.lives.ensures ∙ c.if-not-lives.false) _ c.values.ensures c.args.self.now.fits.most c.if-not-values.true

pub returns-then-not-forks : goal.returns-then-not-forks
returns-then-not-forks c =
    ap not c.if-not-forks.true
    ∙ leaf_passes _ (state c.args.self.now) c.args.c (sym c.lives.ensures ∙ c.if-not-lives.false) _ c.values.ensures c.if-not-values.false (sym c.forks.ensures ∙ c.if-not-forks.true)

pub returns-else-not-forks : goal.returns-else-not-forks
returns-else-not-forks c =
    middle_says _ (state c.args.self.now) c.args.c (sym c.lives.ensures ∙ c.if-not-lives.false) _ c.values.ensures c.if-not-values.false (sym c.forks.ensures ∙ c.if-not-forks.false) _ c.links.ensures
