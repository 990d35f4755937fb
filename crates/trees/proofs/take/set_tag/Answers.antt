use native.Mathlib.Omega.{arith}
use Rattle.nodes.proofs.Places.{wide_most}
use Rattle.trees.proofs.Takes.{tag_step}
use Rattle.trees.proofs.take.set_tag.Goals as goal

pub overflow_add-book : goal.overflow_add-book
overflow_add-book c = omega (arith, wide_most c.args.x)

pub overflow_add-book-2 : goal.overflow_add-book-2
overflow_add-book-2 c = omega (arith, wide_most c.args.x)

pub overflow_cast-book : goal.overflow_cast-book
overflow_cast-book c = omega (arith, wide_most c.args.x)

pub returns : goal.returns
returns c = λ slots masks. tag_step _ _ slots masks _ _ c.requires.0 c.requires.1
