use Rattle.std.proofs.Common.{rules}
use Prim.Native.Nat.{ℕ}
use mathlib.Core.Path.{sym, ap, ◌∙◌}
use Rattle.bitset.proofs.First.{begins}
use Rattle.nodes.specs.Layout.{st}
use Rattle.nodes.specs.Pool.{state}
use Rattle.nodes.proofs.Wipes.{links_left, links_all, links_more, some_last}
use Rattle.nodes.proofs.pool.Pool.give_linked.Goals as goal

pub loop-i-init : goal.loop-i-init
loop-i-init c =
    let a = c.args.self.now in
    record {
      kept = search rules;
      left = ap (λ (r : ℕ). links_left a.n c.args.c r (state a)) (begins c.into_iter-i-iterator.ensures.into_iter_gives c.on_in-i-items.ensures) ∙ links_all a c.requires;
    }

pub loop-i-preserved : goal.loop-i-preserved
unfolding state
loop-i-preserved c =
    let v = c.loop-i.invariant in
    let a = c.loop-i.self in
    let next = c.in-Some.ensures.steps in
    record {
      kept = search rules;
      left = ap (λ (r : ℕ). links_left c.args.self.now.n c.args.c r (st a.n a.slots.now a.masks.now c.give_back.new.book)) next.1
          ∙ links_more a (rw v.kept.n c.requires) v.kept.n next.0 (c.give_back.ensures _ _) ∙ v.left;
    }

pub returns-clause-turned : goal.returns-clause-turned
returns-clause-turned c = sym (some_last _ _ c.in-None.ensures.steps.0) ∙ c.loop-i.invariant.left
