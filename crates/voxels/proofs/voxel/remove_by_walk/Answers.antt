use Rattle.std.proofs.Common.{rules}
use mathlib.Core.Path.{◌∙◌}
use Rattle.nodes.specs.Pool.{state}
use Rattle.nodes.proofs.Paths.{top_stands}
use Rattle.nodes.proofs.Pools.{st_by}
use Rattle.voxels.proofs.voxel.remove_by_walk.Goals as goal

pub remove-requires : goal.remove-requires
remove-requires c = top_stands _ _ c.requires.1

pub returns : goal.returns
unfolding state
returns c = let u = c.remove in st_by u.new.self u.ensures.kept.n (search rules) (search rules) (search rules) ∙ u.ensures.turned
