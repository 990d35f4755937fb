use Rattle.std.proofs.Common.{rules}
use mathlib.Core.Path.{sym, ◌∙◌}
use native.Mathlib.Omega.{arith}
use Rattle.nodes.specs.Pool.{state}
use Rattle.nodes.proofs.Paths.{stands_below}
use Rattle.nodes.proofs.Each.{each_none, each_more}
use Rattle.trees.proofs.Slots.{child_go}
use Rattle.trees.proofs.Turns.{turn_flat, turn_down, turn_near, leaf_stands, turn_all}
use Rattle.trees.proofs.turn.+turn_turn_slot.Goals as goal

pub turn-loop-k-init : goal.turn-loop-k-init
turn-loop-k-init t c = record { kept = search rules; turned = each_none _ _ }

pub turn-loop-k-preserved : goal.turn-loop-k-preserved
turn-loop-k-preserved t c =
    let v = c.loop-k.invariant in
    record {
      kept = search rules;
      turned = each_more _ _ _ v.turned (simp v.kept.n at c.turn_slot.ensures.turned);
    }

pub turn-returns-clause-turned : goal.turn-returns-clause-turned
turn-returns-clause-turned t c = turn_all _ _ _ _ c.args.level c.loop-k.k c.if-level-eq0.false (omega (arith, c.loop-k-test.false, c.loop-k.auto.k-end)) c.loop-k.invariant.turned

pub turn_slot-returns-in_default-clause-turned : goal.turn_slot-returns-in_default-clause-turned
turn_slot-returns-in_default-clause-turned t c = turn_flat _ _ _ _ _ _ _ (sym c.in_default.is ∙ c.child.ensures) c.flat.ensures.turned

pub turn_slot-turn-requires : goal.turn_slot-turn-requires
turn_slot-turn-requires t c =
    (omega (arith, c.requires.2), stands_below c.requires.0 (λ e. omega (arith, c.requires.2)) _ (child_go _ (state c.args.pool.now) c.args.x c.args.k (sym c.in-Some.is ∙ c.child.ensures)).low)

pub turn_slot-returns-clause-turned : goal.turn_slot-returns-clause-turned
turn_slot-returns-clause-turned t c =
    let f = c.turn.ensures in
    turn_down _ _ _ _ _ _ _ (sym c.in-Some.is ∙ c.child.ensures) f.turned (simp f.kept.n at c.back-2.ensures.turned)

pub turn_slot-leaf-requires : goal.turn_slot-leaf-requires
turn_slot-leaf-requires t c =
    let i = (child_go _ (state c.args.pool.now) c.args.x c.args.k (sym c.in-Some.is ∙ c.child.ensures)).low in
    leaf_stands (stands_below c.requires.0 (λ e. omega (arith, c.requires.2)) _ i) (omega (arith, c.if-level-eq1.true))

pub turn_slot-returns-then-level-eq1-clause-turned : goal.turn_slot-returns-then-level-eq1-clause-turned
turn_slot-returns-then-level-eq1-clause-turned t c =
    let f = c.leaf.ensures in
    turn_near _ _ _ _ _ c.args.level c.if-level-eq1.true (sym c.in-Some.is ∙ c.child.ensures) f.turned (simp f.kept.n at c.back.ensures.turned)
