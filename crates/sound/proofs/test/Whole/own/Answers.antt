use mathlib.Core.Path.{◌∙◌}
use native.Mathlib.Omega.{arith}
use Rattle.sound.proofs.Book.{word_in}
use Rattle.sound.proofs.Own.{own_run}
use Rattle.sound.proofs.test.Whole.own.Goals as goal

pub returns : goal.returns
returns c =
    let p = c.args.self.now in
    c.in_turn.ensures ∙ own_run p.n p.slots.now p.masks.now p.book.now c.args.p c.requires _ _ (λ i l. word_in p.book.now _ _ i (omega arith)) (λ i l. word_in p.book.now _ _ i (omega arith))
