use Rattle.nodes.specs.Pool.{state}
use Rattle.trees.specs.Combine.{join_o}
use Rattle.pool.proofs.Pairs.{combined_is}
use Rattle.pool.proofs.pair.combined.Goals as goal

pub wipe-requires : goal.wipe-requires
wipe-requires c = c.requires.at_y.0

pub returns-clause-turned : goal.returns-clause-turned
returns-clause-turned c =
    let a = c.args in
    let k = c.combine.ensures in
    combined_is (join_o a.join) a.pool.now.n a.a a.b (state a.pool.now) k.turned c.far_word.ensures (simp k.kept.n at c.wipe.ensures.turned)
