use mathlib.Core.Path.{sym, ap, ◌∙◌}
use Prim.Native.Nat.{◌+◌, ◌*◌}
use Rattle.bitset.proofs.First.{begins}
use Rattle.bitset.proofs.Left.{left, left_all, left_none, left_fails, left_more}
use Rattle.nodes.specs.Test.{link_b}
use Rattle.sound.specs.Whole.{state}
use Rattle.sound.proofs.test.Whole.links.Goals as goal

pub loop-i-init : goal.loop-i-init
loop-i-init c =
    let p = c.args.self.now in
    left_all (λ i. link_b p.n (state p) c.args.x (64 * c.args.j + i)) _ _ c.kids.ensures
    ∙ sym (ap (left (λ i. link_b p.n (state p) c.args.x (64 * c.args.j + i))) (begins c.into_iter-i-iterator.ensures.into_iter_gives c.on_in-i-items.ensures))

pub returns-then-not-link : goal.returns-then-not-link
returns-then-not-link c = left_fails _ c.loop-i.invariant c.in-Some.ensures.steps.0 (sym c.link.ensures ∙ c.if-not-link.true)

pub loop-i-preserved : goal.loop-i-preserved
loop-i-preserved c =
    let p = c.args.self.now in
    let next = c.in-Some.ensures.steps in
    left_more _ c.loop-i.invariant next.0 (sym c.link.ensures ∙ c.if-not-link.false) ∙ sym (ap (left (λ i. link_b p.n (state p) c.args.x (64 * c.args.j + i))) next.1)

pub returns : goal.returns
returns c = left_none _ c.loop-i.invariant c.in-None.ensures.steps.0
