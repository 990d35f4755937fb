use Rattle.std.proofs.Common.{rules}
use mathlib.Core.Path.{◌≡◌, ap, ◌∙◌}
use Prim.Native.Nat.{ℕ, ◌*◌}
use native.Mathlib.Omega.{arith}
use Rattle.nodes.specs.Pool.{state}
use Rattle.nodes.proofs.Places.{wide_groups}
use Rattle.trees.specs.Copy.{lay_s}
use Rattle.trees.proofs.Copies.{group_slots, group_words, group_low, group_laid, none_laid}
use Rattle.trees.proofs.copy.lay.Goals as goal

pub word_of-from-requires : goal.word_of-from-requires
word_of-from-requires c = (omega (arith, c.args.pool.now.sized.most, c.requires.0), omega arith)

pub word_of-to-requires : goal.word_of-to-requires
word_of-to-requires c = (omega (arith, c.args.pool.now.sized.most, c.requires.1), omega arith)

pub loop-j-init : goal.loop-j-init
loop-j-init c = record { kept = search rules; laid = none_laid c.args.x c.args.y _ }

pub overflow_add-g : goal.overflow_add-g
overflow_add-g c =
    omega (arith, group_low _ c.args.x c.requires.0 c.requires.2 c.loop-j-test.true c.word_of-from.ensures, c.args.pool.now.sized.most)

pub overflow_add-h : goal.overflow_add-h
overflow_add-h c =
    omega (arith, group_low _ c.args.y c.requires.1 c.requires.3 c.loop-j-test.true c.word_of-to.ensures, c.args.pool.now.sized.most)

pub copy_words-requires : goal.copy_words-requires
copy_words-requires c =
    let z = c.loop-j.pool.sized in
    let e = c.loop-j.invariant.kept.n in
    let g = group_low _ c.args.x c.requires.0 c.requires.2 c.loop-j-test.true c.word_of-from.ensures in
    let h = group_low _ c.args.y c.requires.1 c.requires.3 c.loop-j-test.true c.word_of-to.ensures in
    (omega (arith, g, e, z.slots_fit), omega (arith, h, e, z.slots_fit))

pub copy_masks-requires : goal.copy_masks-requires
copy_masks-requires c =
    let z = c.loop-j.pool.sized in
    let e = c.loop-j.invariant.kept.n in (
      record { most = z.most; masks_fit = z.masks_fit },
      omega (arith, e, group_low _ c.args.x c.requires.0 c.requires.2 c.loop-j-test.true c.word_of-from.ensures),
      omega (arith, e, group_low _ c.args.y c.requires.1 c.requires.3 c.loop-j-test.true c.word_of-to.ensures),
    )

pub loop-j-preserved : goal.loop-j-preserved
unfolding state
loop-j-preserved c =
    let v = c.loop-j.invariant in
    let p = c.requires in
    let ex = c.word_of-from.ensures in
    let ey = c.word_of-to.ensures in
    let t = c.loop-j-test.true in
    record {
      kept = search rules;
      laid = rw v.kept.n (group_laid _ _ _ _ _ c.args.x c.args.y _ _ c.loop-j.j (group_words _ c.args.x p.0 p.2 t ex) (group_words _ c.args.y p.1 p.3 t ey)
          (group_slots _ c.args.x p.0 p.2 t ex) (group_slots _ c.args.y p.1 p.3 t ey) _ _ c.copy_words.ensures (simp v.kept.n at c.copy_masks.ensures) _ _ (simp v.kept.n at v.laid));
    }

pub returns-clause-turned : goal.returns-clause-turned
returns-clause-turned c =
    let e : 64 * c.loop-j.j ≡ c.args.m = omega (arith, c.loop-j-test.false, c.loop-j.auto.j-end, c.requires.2, wide_groups c.args.x) in
    c.loop-j.invariant.laid ∙ ap (λ (m : ℕ). lay_s m c.args.x c.args.y (state c.args.pool.now)) e
