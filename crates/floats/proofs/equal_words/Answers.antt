use mathlib.Core.Path.{ap₂}
use lib.Ieee.{eq}
use Rattle.floats.specs.Value.{equal}
use Rattle.floats.proofs.equal_words.Goals as goal

pub returns : goal.returns
unfolding equal
returns c = ap₂ eq c.float_of.ensures c.float_of-2.ensures
