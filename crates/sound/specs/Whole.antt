-- The pool that the test looks at, as a state. Assumes nothing.
use Rattle.nodes.specs.State.{St}
use Rattle.nodes.specs.Layout.{st}
use Rattle.sound.specs.declared.test.Whole.{Whole}

abbrev pub state : Whole → St
state p = st p.n p.slots.now p.masks.now p.book.now
