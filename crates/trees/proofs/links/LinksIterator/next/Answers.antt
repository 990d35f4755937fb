use mathlib.Core.Path.{refl, sym, ap, ◌∙◌}
use mathlib.Core.List.{◌∷◌}
use Prim.Native.Nat.{ℕ, ◌+◌, ◌*◌}
use native.Mathlib.Omega.{arith}
use lib.ListN.{get_or}
use Rattle.trees.specs.Links.{links_left}
use Rattle.trees.proofs.Listed.{one_less, links_first, links_on, links_end}
use Rattle.trees.proofs.links.LinksIterator.next.Goals as goal

pub loop-i-init : goal.loop-i-init
loop-i-init c = refl

pub returns-in-Some-clause-steps : goal.returns-in-Some-clause-steps
returns-in-Some-clause-steps c =
    let s = c.loop-i.self in
    c.loop-i.invariant ∙ links_first _ _ _ s.order c.in-Some.ensures.steps.0
    ∙ ap (λ (w : ℕ). get_or s.slots.now (64 * s.group + c.in-Some.i) 0 ∷ links_left s.slots.now s.masks.now s.last s.group w) (sym c.in-Some.ensures.steps.1)

pub returns-in-Some-clause-goes : goal.returns-in-Some-clause-goes
returns-in-Some-clause-goes c = record { on = λ _. (tt, tt, one_less (returns-in-Some-clause-steps c)); keeps = tt; rests = λ _. tt }

pub returns-then-self-clause-steps : goal.returns-then-self-clause-steps
returns-then-self-clause-steps c =
    let z = c.in_default.ensures.steps in
    (c.loop-i.invariant ∙ links_end _ _ _ c.if-self.true z.0, links_end _ _ _ c.if-self.true z.1)

pub loop-i-smaller : goal.loop-i-smaller
loop-i-smaller c = omega (arith, c.loop-i.self.order, c.if-self.false)

pub loop-i-preserved : goal.loop-i-preserved
loop-i-preserved c =
    let s = c.loop-i.self in
    c.loop-i.invariant ∙ links_on _ _ _ s.group c.in_default.ensures.steps.0
    ∙ ap (links_left s.slots.now s.masks.now s.last (s.group + 1)) (sym c.on_in-self.ensures)
