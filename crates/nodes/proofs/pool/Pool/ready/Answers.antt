use mathlib.Core.Path.{sym, ◌∙◌}
use native.Mathlib.Omega.{arith}
use borrow.Author.Tests.{ltb-true, leb-true, leb-false, le-ltb}
use Rattle.nodes.specs.Pool.{state}
use Rattle.nodes.proofs.Books.{ready_none, ready_many, ready_last}
use Rattle.nodes.proofs.pool.Pool.ready.Goals as goal
use Rattle.nodes.proofs.pool.Pool.ready.Goals.{then-free-gt0, else-free-gt0}

pub returns-then-free-self : goal.returns-then-free-self
unfolding state
returns-then-free-self c =
    elim c.if-free-gt0.branch [
      | then-free-gt0 w ↦ ready_last _ _ _ _ c.count-free.ensures (λ e. omega (arith, w.if-free-gt0.true)) (leb-true _ _ (sym w.value-is ∙ c.if-free-self.true)) c.stacked.ensures
      | else-free-gt0 w ↦ absurd (omega (arith, ltb-true _ _ (sym w.value-is ∙ c.if-free-self.true), w.if-free-gt0.false))
    ]

pub returns-else-free-self : goal.returns-else-free-self
unfolding state
returns-else-free-self c =
    elim c.if-free-gt0.branch [
      | then-free-gt0 w ↦ c.if-free-self.false ∙ ready_many _ _ _ _ c.count-free.ensures (λ e. omega (arith, w.if-free-gt0.true)) (leb-false _ _ (sym w.value-is ∙ c.if-free-self.false))
      | else-free-gt0 w ↦ w.value-is ∙ le-ltb 0 _ (omega (arith, w.if-free-gt0.false)) ∙ ready_none _ _ _ _ c.count-free.ensures (omega (arith, w.if-free-gt0.false))
    ]
