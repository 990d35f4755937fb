use mathlib.Core.Path.{◌≡◌, refl, ◌∙◌}
use mathlib.Core.Bool.{Bool, true, false, cond}
use Rattle.std.specs.Prelude.{Some, None}
use Rattle.std.specs.Bool.{then_some}
use Rattle.means.specs.Mem.{fits}
use Rattle.sound.proofs.lengths.cells.Goals as goal

then_is : {A : Type 0} (b : Bool) (x : A) → then_some b x ≡ cond b (Some x) None
then_is true x = refl
then_is false x = refl

pub returns : goal.returns
unfolding fits
returns c m p q r = c.then_some.ensures ∙ then_is c.fit.result _ ∙ rw (c.fit.ensures, c.saturating_sub-n.ensures, p, q, r) refl
