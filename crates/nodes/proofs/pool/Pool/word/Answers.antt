use mathlib.Core.Path.{sym, ◌∙◌}
use Rattle.nodes.specs.Pool.{state}
use Rattle.nodes.proofs.States.{cells_of, word_may, st_slot}
use Rattle.nodes.proofs.pool.Pool.word.Goals as goal

pub word-requires : goal.word-requires
word-requires c = word_may (cells_of c.args.self.now.sized) c.requires

pub returns : goal.returns
unfolding state
returns c = c.word.ensures ∙ sym (st_slot _ _ _ c.requires)
