use mathlib.Core.Path.{ap}
use Prim.Native.Nat.{ℕ, ◌/◌}
use native.Mathlib.Omega.{arith}
use Rattle.trees.proofs.Listed.{node_groups, links_all}
use Rattle.trees.proofs.links.links_of.Goals as goal

pub bounds-view-group : goal.bounds-view-group
bounds-view-group c = let g = node_groups c.requires c.size_in.ensures in omega (arith, c.word_of-group.ensures, g.some, g.fit, c.args.view.now.fit.masks_fit)

pub invariant_of-result : goal.invariant_of-result
invariant_of-result c =
    let g = node_groups c.requires c.size_in.ensures in
    let v = c.args.view.now.fit in
    record {
      order = omega (arith, g.some);
      words = omega (arith, c.word_of-group.ensures, g.some, g.fit, v.slots_fit);
      kids = omega (arith, c.word_of-group.ensures, g.some, g.fit, v.masks_fit);
    }

pub returns : goal.returns
returns c = λ book.
    let g = node_groups c.requires c.size_in.ensures in
    links_all _ _ _ c.requires (ap (λ (w : ℕ). w / 64) c.word_of-group.ensures) (omega (arith, c.size_in.ensures, g.some, g.fill)) c.on_in.ensures book
