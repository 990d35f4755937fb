use mathlib.Core.Path.{sym, ◌∙◌}
use native.Mathlib.Omega.{arith}
use Rattle.nodes.proofs.Places.{placed}
use Rattle.nodes.proofs.States.{st_kid, st_val}
use Rattle.trees.proofs.Slots.{hidden_no, hidden_fork}
use Rattle.trees.proofs.slot.hidden.Goals as goal

pub val-requires : goal.val-requires
val-requires c = (c.requires.0, placed c.requires.0.most c.requires.1 _ (omega arith))

pub returns-then-val : goal.returns-then-val
returns-then-val c = λ slots book l _. hidden_no _ l _ _ (c.val.ensures ∙ sym (st_val slots _ book c.requires.1)) c.if-val.true

pub kid-requires : goal.kid-requires
kid-requires c = placed c.requires.0.most c.requires.1 _ (omega (arith, c.requires.0.masks_fit))

pub returns : goal.returns
returns c = λ slots book l h. let i = c.requires.1 in hidden_fork _ l _ _ (c.val.ensures ∙ sym (st_val slots _ book i)) c.if-val.false (λ e. omega arith) (c.kid.ensures ∙ sym (st_kid slots _ book i))
