use Rattle.std.proofs.Common.{rules}
use mathlib.Core.Path.{◌≡◌, sym, ◌∙◌}
use Prim.Native.Nat.{◌-◌}
use native.Mathlib.Omega.{arith}
use Rattle.nodes.specs.Pool.{state}
use Rattle.nodes.specs.Walk.{branching, below}
use Rattle.nodes.proofs.Places.{wide_groups}
use Rattle.nodes.proofs.Paths.{stands_below}
use Rattle.nodes.proofs.Each.{each_none}
use Rattle.trees.specs.Copy.{copy_m}
use Rattle.trees.proofs.Slots.{child_go}
use Rattle.trees.proofs.Copies.{branch_none, branch_full, cell_slots, branch_down, no_branch, branch_more, branch_all}
use Rattle.trees.proofs.copy.+branch_branches.Goals as goal

pub branch-returns-in_default-clause-turned : goal.branch-returns-in_default-clause-turned
branch-returns-in_default-clause-turned t c =
    let a = c.args in
    branch_none a.pool.now.n (a.level - 1) a.x a.y a.k (state a.pool.now) (sym c.in_default.is ∙ c.child.ensures)

pub branch-returns-then-not-ready-clause-turned : goal.branch-returns-then-not-ready-clause-turned
branch-returns-then-not-ready-clause-turned t c =
    let a = c.args in
    branch_full a.pool.now.n (a.level - 1) a.x a.y a.k (state a.pool.now) (sym c.in-Some.is ∙ c.child.ensures) c.ready.ensures c.if-not-ready.true

pub branch-claim-d-requires : goal.branch-claim-d-requires
branch-claim-d-requires t c = (c.requires.3, sym c.ready.ensures ∙ c.if-not-ready.false)

pub branch-lay-requires : goal.branch-lay-requires
branch-lay-requires t c =
    let k = c.claim-d.ensures in
    let i = (child_go _ (state c.args.pool.now) c.args.x c.args.k (sym c.in-Some.is ∙ c.child.ensures)).low in
    (omega (arith, i, k.kept.n), omega (arith, i, k.cell.0, k.kept.n), cell_slots i, cell_slots {n = c.args.pool.now.n} (omega (arith, i, k.cell.0)))

pub branch-branches-requires : goal.branch-branches-requires
branch-branches-requires t c =
    let p = c.requires in
    let k = c.claim-d.ensures in
    let l = c.lay.ensures in
    let i = (child_go _ (state c.args.pool.now) c.args.x c.args.k (sym c.in-Some.is ∙ c.child.ensures)).low in
    let z : c.args.level ≡ 0 → ⊥ = λ e. omega (arith, p.4) in
    (omega (arith, p.4), (rw (l.kept.n, k.kept.n) (stands_below p.0 z _ i), rw (l.kept.n, k.kept.n) (stands_below p.1 z _ (omega (arith, i, k.cell.0))), omega (arith, c.if-level-gt1.true)))

pub branch-returns-else-level-gt1-clause-turned : goal.branch-returns-else-level-gt1-clause-turned
branch-returns-else-level-gt1-clause-turned t c =
    let a = c.args in
    let k = c.claim-d.ensures in
    branch_down a.pool.now.n (a.level - 1) a.x a.y a.k (state a.pool.now) (sym c.in-Some.is ∙ c.child.ensures) c.ready.ensures c.if-not-ready.false (omega (arith, c.if-level-gt1.false))
    k.turned k.cell.1 c.lay.ensures.turned (no_branch _ (a.level - 1) _ _ _ (omega (arith, c.if-level-gt1.false)))

pub branch-returns-then-level-gt1-clause-turned : goal.branch-returns-then-level-gt1-clause-turned
branch-returns-then-level-gt1-clause-turned t c =
    let a = c.args in
    let k = c.claim-d.ensures in
    branch_down a.pool.now.n (a.level - 1) a.x a.y a.k (state a.pool.now) (sym c.in-Some.is ∙ c.child.ensures) c.ready.ensures c.if-not-ready.false (omega (arith, c.requires.0.known))
    k.turned k.cell.1 c.lay.ensures.turned (simp (c.lay.ensures.kept.n, k.kept.n) at c.branches.ensures.turned)

pub branches-loop-k-init : goal.branches-loop-k-init
branches-loop-k-init t c = record { within = omega arith; kept = search rules; copied = each_none _ _ }

pub branches-loop-k-smaller : goal.branches-loop-k-smaller
branches-loop-k-smaller t c = omega (arith, c.next_branch-k.ensures.0, c.loop-k-test.true)

pub branches-loop-k-preserved : goal.branches-loop-k-preserved
branches-loop-k-preserved t c =
    let a = c.args in
    let v = c.loop-k.invariant in
    let r = c.next_branch-k.ensures in
    record {
      within = omega (arith, r.1, c.loop-k-test.true, c.requires.0.slots, c.size_in-m.ensures, wide_groups c.args.x);
      kept = search rules;
      copied = branch_more (copy_m (branching (a.level - 1)) (below (a.level - 1)) a.pool.now.n) a.pool.now.n a.x a.y c.loop-k.k _ _ v.copied (simp v.kept.n at c.branch-pool.ensures.turned) r.0 r.2;
    }

pub branches-returns-clause-turned : goal.branches-returns-clause-turned
branches-returns-clause-turned t c =
    let l = c.loop-k in
    branch_all _ c.args.level _ _ _ l.k c.requires.2 (omega (arith, c.loop-k-test.false, l.invariant.within, c.size_in-m.ensures)) l.invariant.copied
