use Rattle.std.proofs.Common.{rules}
use mathlib.Core.Path.{refl}
use native.Mathlib.Omega.{arith}
use Prim.Native.Nat.{ℕ, ◌<◌}
use Rattle.nodes.specs.Range.{In}
use Rattle.grid.specs.Node.{size}
use Rattle.nodes.proofs.Paths.{slot_of_lem, top_stands}
use Rattle.nodes.proofs.Each.{each_none}
use Rattle.nodes.proofs.Wipes.{wipe_more, wipe_all}
use Rattle.nodes.proofs.pool.Pool.wipe.Goals as goal

in_top : (n x k : ℕ) → x < 8 → k < 512 → In n x k
unfolding size
in_top n x k h l = slot_of_lem (top_stands n x h) refl l

pub loop-k-init : goal.loop-k-init
loop-k-init c = record { kept = search rules; done = each_none _ _ }

pub shed-requires : goal.shed-requires
shed-requires c =
    let h = c.requires in
    (top_stands _ _ h, in_top _ _ _ h c.loop-k-test.true, omega arith)

pub loop-k-preserved : goal.loop-k-preserved
loop-k-preserved c =
    let v = c.loop-k.invariant in
    record {
      kept = search rules;
      done = wipe_more _ _ _ _ _ _ v.done (simp v.kept.n at c.shed.ensures.turned) c.set_slot.ensures.turned;
    }

pub returns-clause-turned : goal.returns-clause-turned
returns-clause-turned c = wipe_all _ _ _ _ _ c.loop-k.k (omega (arith, c.loop-k-test.false)) c.loop-k.invariant.done
