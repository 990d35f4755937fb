use Prim.Native.Nat.{◌+◌}
use native.Mathlib.Omega.{arith}
use mathlib.Core.Path.{◌∙◌}
use Rattle.sound.specs.Whole.{state}
use Rattle.sound.proofs.Links.{links_none, links_more, links_few}
use Rattle.sound.proofs.test.Whole.all_links.Goals as goal

pub loop-c-init : goal.loop-c-init
loop-c-init c = c.top_links-all.ensures ∙ links_none _ c.args.from c.requires.bare

pub overflow_add-all : goal.overflow_add-all
overflow_add-all c =
    let s = state c.args.self.now in
    omega (arith, links_few s (c.loop-c.c + 1), links_more s c.loop-c.c c.loop-c.invariant c.cell_links-all.ensures)

pub loop-c-preserved : goal.loop-c-preserved
loop-c-preserved c = links_more _ c.loop-c.c c.loop-c.invariant c.cell_links-all.ensures
