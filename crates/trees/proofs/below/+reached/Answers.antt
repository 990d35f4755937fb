use mathlib.Core.Path.{ap, ◌∙◌}
use mathlib.Core.List.{[]}
use Prim.Native.Nat.{◌+◌, ◌-◌}
use native.Mathlib.Omega.{arith}
use Rattle.std.specs.List.{sum_by}
use Rattle.nodes.specs.Layout.{st}
use Rattle.nodes.proofs.Paths.{stands_below}
use Rattle.trees.proofs.Listed.{begins}
use Rattle.trees.proofs.Counts.{cells_link, cells_more, reached_links, reached_leaf, reached_few}
use Rattle.trees.proofs.below.+reached.Goals as goal

pub returns-then-level-eq0 : goal.returns-then-level-eq0
returns-then-level-eq0 t c = λ book. reached_leaf _ _ _ c.args.level c.if-level-eq0.true

pub loop-c-init : goal.loop-c-init
loop-c-init t c = λ book.
    let v = c.args.view.now in
    let s = st v.n v.slots.now v.masks.now book in
    let e = ap (sum_by (cells_link v.n (c.args.level - 1) s))
    (begins c.into_iter-c-iterator.ensures.into_iter_gives (c.links_of-c-items.ensures book)) ∙ reached_links v.n s c.args.x c.args.level c.if-level-eq0.false in
    omega (arith, e)

pub reached-requires : goal.reached-requires
reached-requires t c = (omega (arith, c.if-level-eq0.false), stands_below c.requires c.if-level-eq0.false _ c.if-c-view.true)

pub overflow_add-cells : goal.overflow_add-cells
overflow_add-cells t c = let v = c.args.view.now in omega (
  arith,
  reached_few v.n (c.args.level - 1) (st v.n v.slots.now v.masks.now [])
      (8 + c.in-Some.c) (omega (arith, c.requires.known)),
  c.reached.ensures [],
)

pub overflow_add-cells-then-c-view : goal.overflow_add-cells-then-c-view
overflow_add-cells-then-c-view t c =
    let v = c.args.view.now in
    let s = st v.n v.slots.now v.masks.now [] in
    omega (
      arith,
      reached_few v.n c.args.level s c.args.x c.requires.known,
      cells_more v.n (c.args.level - 1) s c.loop-c.cells
          (c.loop-c.invariant []) c.in-Some.ensures.steps c.if-c-view.true (c.reached.ensures []),
    )
