use mathlib.Core.Path.{refl, sym, ◌∙◌}
use mathlib.Core.List.{[]}
use native.Mathlib.Omega.{arith}
use Rattle.nodes.proofs.States.{word_may}
use Rattle.nodes.proofs.Places.{cell_in}
use Rattle.nodes.proofs.Paths.{stands_below}
use Rattle.trees.proofs.Slots.{child_low}
use Rattle.signs.proofs.SignAt.{sign_read, sign_leaf, sign_flat, sign_down}
use Rattle.signs.proofs.fill.+sign_of.Goals as goal

pub word-requires : goal.word-requires
word-requires t c = word_may c.args.view.now.fit c.requires.1

pub returns-then-level-eq0 : goal.returns-then-level-eq0
returns-then-level-eq0 t c = λ book.
    sign_leaf _ _ c.args.level _ _ c.if-level-eq0.true (sign_read _ _ book c.requires.1 c.word.ensures c.negative_word.ensures)

pub child-requires : goal.child-requires
child-requires t c = c.requires.1

pub word-requires-in_default : goal.word-requires-in_default
word-requires-in_default t c = word_may c.args.view.now.fit c.requires.1

pub returns-in_default : goal.returns-in_default
returns-in_default t c = λ book.
    sign_flat _ _ c.args.level _ _ c.if-level-eq0.false c.in_default.is (c.child.ensures book) (sign_read _ _ book c.requires.1 c.word-in_default.ensures c.negative_word-in_default.ensures)

pub overflow_sub-level : goal.overflow_sub-level
overflow_sub-level t c = let h = c.if-level-eq0.false in omega arith

pub overflow_add-c : goal.overflow_add-c
overflow_add-c t c =
    omega (arith, child_low _ _ [] c.requires.1 (sym c.in-Some.is ∙ c.child.ensures []), c.args.view.now.fit.most)

pub sign_of-requires : goal.sign_of-requires
sign_of-requires t c =
    let h = c.if-level-eq0.false in
    let l = child_low _ _ [] c.requires.1 (sym c.in-Some.is ∙ c.child.ensures []) in
    (omega arith, (stands_below c.requires.0 h _ l, cell_in l _ _ refl (omega arith)))

pub returns : goal.returns
returns t c = λ book.
    sign_down _ _ c.args.level _ _ c.if-level-eq0.false c.in-Some.is (c.child.ensures book) (c.sign_of.ensures book)
