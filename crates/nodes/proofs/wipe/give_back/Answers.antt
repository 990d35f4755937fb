use mathlib.Core.Path.{sym, ◌∙◌}
use Rattle.nodes.proofs.States.{st_count}
use Rattle.nodes.proofs.Wipes.{back_out, back_full, back_by}
use Rattle.nodes.proofs.wipe.give_back.Goals as goal
use Rattle.nodes.proofs.wipe.give_back.Goals.{else-c-n-via-then-c-n+else-count-n, else-c-n-via-else-c-n}

pub returns-then-count-n : goal.returns-then-count-n
returns-then-count-n c slots masks = back_by _ _ c.if-c-n.true (c.count.ensures ∙ sym (st_count _ slots masks _)) c.if-count-n.true (c.give.ensures slots masks)

pub returns-else-c-n : goal.returns-else-c-n
returns-else-c-n c slots masks =
    elim c.else-c-n.branch [
      | else-c-n-via-then-c-n+else-count-n w ↦ back_full _ _ w.if-c-n.true (w.count.ensures ∙ sym (st_count _ slots masks _)) w.if-count-n.false
      | else-c-n-via-else-c-n w ↦ back_out _ _ w.if-c-n.false
    ]
