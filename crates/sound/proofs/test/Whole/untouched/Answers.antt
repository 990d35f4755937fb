use mathlib.Core.Path.{sym, ◌∙◌}
use native.Mathlib.Omega.{arith}
use Rattle.sound.proofs.Own.{own_more}
use Rattle.sound.proofs.test.Whole.untouched.Goals as goal

pub loop-j-preserved : goal.loop-j-preserved
loop-j-preserved c k h = own_more _ _ c.loop-j.invariant (sym c.own.ensures ∙ c.if-not-own.false) k (omega arith)
