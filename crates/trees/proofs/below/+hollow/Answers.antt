use mathlib.Core.Path.{ap, ◌∙◌}
use Prim.Native.Nat.{◌-◌}
use native.Mathlib.Omega.{arith}
use Rattle.std.specs.List.{list_any}
use Rattle.nodes.specs.Layout.{st}
use Rattle.nodes.proofs.Paths.{stands_below}
use Rattle.trees.proofs.Listed.{begins}
use Rattle.trees.proofs.Counts.{hollow_link, hollow_links, hollow_leaf}
use Rattle.trees.proofs.below.+hollow.Goals as goal

pub returns-then-level-eq0 : goal.returns-then-level-eq0
returns-then-level-eq0 t c = λ book. hollow_leaf _ _ _ c.args.level c.if-level-eq0.true

pub loop-c-init : goal.loop-c-init
loop-c-init t c = λ book.
    let v = c.args.view.now in
    let s = st v.n v.slots.now v.masks.now book in
    ap (list_any (hollow_link v.n (c.args.level - 1) s)) (begins c.into_iter-c-iterator.ensures.into_iter_gives
    (c.links_of-c-items.ensures book)) ∙ hollow_links v.n s c.args.x c.args.level c.if-level-eq0.false

pub hollow-requires : goal.hollow-requires
hollow-requires t c = (omega (arith, c.if-level-eq0.false), stands_below c.requires c.if-level-eq0.false _ c.if-c-view.true)
