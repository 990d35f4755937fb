use mathlib.Core.Path.{refl}
use native.Mathlib.Omega.{arith}
use Rattle.nodes.proofs.Voxels.{few, slot_low, slot_is}
use Rattle.nodes.proofs.geometry.Level.slot.Goals as goal

pub overflow_mul-result : goal.overflow_mul-result
overflow_mul-result g c = omega (arith, few g.Self.Level.law, (slot_low g.Self.Level.law c.args.v c.BRANCHING-side.ensures c.digit.ensures refl refl).0)

pub overflow_add-result : goal.overflow_add-result
overflow_add-result g c = omega (arith, few g.Self.Level.law, (slot_low g.Self.Level.law c.args.v c.BRANCHING-side.ensures c.digit.ensures c.digit-2.ensures refl).1)

pub overflow_mul-result-2 : goal.overflow_mul-result-2
overflow_mul-result-2 g c = omega (arith, few g.Self.Level.law, (slot_low g.Self.Level.law c.args.v c.BRANCHING-side.ensures c.digit.ensures c.digit-2.ensures refl).2)

pub overflow_add-result-2 : goal.overflow_add-result-2
overflow_add-result-2 g c = omega (arith, few g.Self.Level.law, slot_low g.Self.Level.law c.args.v c.BRANCHING-side.ensures c.digit.ensures c.digit-2.ensures c.digit-3.ensures)

pub returns : goal.returns
returns g c = record {
  is = slot_is g.Self.Level.law c.args.v c.BRANCHING-side.ensures c.digit.ensures c.digit-2.ensures c.digit-3.ensures;
  within = (slot_low g.Self.Level.law c.args.v c.BRANCHING-side.ensures c.digit.ensures c.digit-2.ensures c.digit-3.ensures).3;
}
