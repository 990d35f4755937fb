use mathlib.Core.Path.{refl}
use mathlib.Core.List.{[]}
use native.Mathlib.Omega.{arith}
use Rattle.nodes.specs.Pool.{state}
use Rattle.nodes.proofs.Places.{wide_most, word_lt}
use Rattle.trees.proofs.Copies.{after_none, after_low, after_first}
use Rattle.trees.proofs.copy.next_branch.Goals as goal

pub word_of-requires : goal.word_of-requires
word_of-requires c = (omega (arith, c.args.pool.now.sized.most, c.requires.node), omega (arith, c.requires.slot, wide_most c.args.x))

pub bounds-pool-word_of : goal.bounds-pool-word_of
bounds-pool-word_of c = omega (arith, c.word_of.ensures, word_lt c.requires, c.args.pool.now.sized.masks_fit)

pub overflow_add-result : goal.overflow_add-result
overflow_add-result c = omega (arith, c.requires.slot, wide_most c.args.x)

pub returns-then-w-eq0 : goal.returns-then-w-eq0
unfolding state
returns-then-w-eq0 c =
    (omega arith, omega arith, after_none _ _ _ _ _ _ c.requires c.word_of.ensures c.if-w-eq0.true)

pub overflow_add-result-2 : goal.overflow_add-result-2
overflow_add-result-2 c = omega (arith, c.requires.slot, wide_most c.args.x)

pub overflow_cast-result : goal.overflow_cast-result
overflow_cast-result c = omega (arith, after_low _ [] c.args.pool.now.masks.now [] _ _ c.requires c.word_of.ensures refl c.if-w-eq0.false)

pub overflow_add-result-3 : goal.overflow_add-result-3
overflow_add-result-3 c =
    omega (arith, c.requires.slot, wide_most c.args.x, after_low _ [] c.args.pool.now.masks.now [] _ _ c.requires c.word_of.ensures refl c.if-w-eq0.false)

pub returns : goal.returns
unfolding state
returns c = (
  omega arith,
  omega (arith, after_low _ [] c.args.pool.now.masks.now [] _ _ c.requires c.word_of.ensures refl c.if-w-eq0.false),
  after_first _ _ _ _ _ _ c.requires c.word_of.ensures refl c.if-w-eq0.false,
)
