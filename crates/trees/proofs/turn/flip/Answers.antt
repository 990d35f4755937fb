use mathlib.Core.Path.{sym, ap, ◌∙◌}
use Prim.Native.Nat.{ℕ}
use native.Mathlib.Omega.{arith}
use Rattle.floats.specs.Value.{negated}
use Rattle.nodes.specs.Layout.{st}
use Rattle.nodes.proofs.Places.{placed}
use Rattle.nodes.proofs.States.{st_slot}
use Rattle.trees.specs.Slot.{word_s}
use Rattle.trees.proofs.turn.flip.Goals as goal

pub word-w-requires : goal.word-w-requires
word-w-requires c = placed c.requires.0.most c.requires.1 _ (omega (arith, c.requires.0.slots_fit))

pub returns : goal.returns
returns c = λ masks book.
    let a = c.args in
    c.set_value.ensures masks book ∙ ap (λ (w : ℕ). word_s a.x a.k w (st a.n a.slots.now masks book)) (c.negated_word.ensures ∙ ap negated (c.word-w.ensures ∙ sym (st_slot _ masks book c.requires.1)))
