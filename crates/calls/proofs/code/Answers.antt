use mathlib.Core.Path.{sym, ap, ◌∙◌}
use Rattle.calls.specs.Forms.{code_f}
use Rattle.calls.proofs.Laws.{says_code}
use Rattle.calls.proofs.code.Goals as goal

pub returns-in-Ok : goal.returns-in-Ok
returns-in-Ok c d m m' h = says_code d m m' h (sym (ap code_f c.in-Ok.is))

pub returns-in-Err : goal.returns-in-Err
returns-in-Err c d m m' h = says_code d m m' h (c.number.ensures ∙ sym (ap code_f c.in-Err.is))
