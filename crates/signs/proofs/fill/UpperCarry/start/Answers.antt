use mathlib.Core.Bool.{not, false}
use mathlib.Core.Path.{◌≡◌, ap}
use native.Mathlib.Omega.{arith}
use Rattle.grid.specs.Node.{size}
use Rattle.nodes.specs.Walk.{branching, below}
use Rattle.signs.specs.Seen.{Seen, seen}
use Rattle.signs.specs.Signs.{start_s}
use Rattle.signs.proofs.SignAt.{start_first, start_none, start_on, start_found, shown}
use Rattle.signs.proofs.fill.UpperCarry.start.Goals as goal

pub loop-k-init : goal.loop-k-init
loop-k-init c = λ book. start_first _ _ _ _ _

pub returns-then-not-hidden : goal.returns-then-not-hidden
returns-then-not-hidden c =
    let l = c.args.self.level in
    shown (λ (q : Seen). c.sign_of.result ≡ start_s (below l) q.n (seen q c.args.slots.now) q.x 0 (size (branching l)))
    (λ book. start_found _ _ _ _ _ _ (c.loop-k.invariant book) (omega arith) (c.hidden.ensures _ book _ c.args.self.above) (ap not c.if-not-hidden.true) (c.sign_of.ensures book))

pub loop-k-preserved : goal.loop-k-preserved
loop-k-preserved c = λ book. start_on _ _ _ _ _ _ (c.loop-k.invariant book) (omega arith) (c.hidden.ensures _ book _ c.args.self.above) (ap not c.if-not-hidden.false)

pub returns : goal.returns
returns c =
    let l = c.args.self.level in
    shown (λ (q : Seen). false ≡ start_s (below l) q.n (seen q c.args.slots.now) q.x 0 (size (branching l))) (λ book. start_none _ _ _ _ _ _ (c.loop-k.invariant book) (omega arith))
