use mathlib.Core.Path.{◌∙◌}
use Rattle.sound.specs.Whole.{state}
use Rattle.sound.proofs.Groups.{values_fail, values_pass}
use Rattle.sound.proofs.test.Whole.eithers.Goals as goal

pub returns-then-values : goal.returns-then-values
returns-then-values c = values_pass c.args.self.now.n (state c.args.self.now) c.args.x c.args.j _ c.values.ensures c.if-values.true _ c.links.ensures

pub returns-else-values : goal.returns-else-values
returns-else-values c = c.if-values.false ∙ values_fail c.args.self.now.n (state c.args.self.now) c.args.x c.args.j _ c.values.ensures c.args.self.now.fits.most c.if-values.false
