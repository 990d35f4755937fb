use Rattle.std.proofs.Common.{rules}
use mathlib.Core.Path.{◌∙◌}
use Rattle.nodes.specs.Pool.{state}
use Rattle.nodes.proofs.Paths.{top_stands}
use Rattle.nodes.proofs.Pools.{st_by}
use Rattle.voxels.proofs.voxel.insert_by_walk.Goals as goal

pub insert-requires : goal.insert-requires
insert-requires c = (top_stands _ _ c.requires.1, c.requires.2)

pub returns : goal.returns
unfolding state
returns c = let u = c.insert in st_by u.new.self u.ensures.kept.n (search rules) (search rules) (search rules) ∙ u.ensures.turned
