use mathlib.Core.Path.{◌∙◌}
use native.Mathlib.Omega.{arith}
use Rattle.bitset.proofs.First.{leads}
use Rattle.signs.proofs.LeafRows.{starts_none, starts_at}
use Rattle.signs.proofs.leaf.LeafWordsCarry.start.Goals as goal

pub returns-then-self-eq0 : goal.returns-then-self-eq0
returns-then-self-eq0 c = λ q a. c.far_word.ensures ∙ starts_none _ a c.if-self-eq0.true

pub returns : goal.returns
returns c = λ q a. c.far_like.ensures ∙ starts_at _ a (leads _ c.if-self-eq0.false (omega arith))
