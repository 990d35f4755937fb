use Rattle.nodes.proofs.Paths.{top_stands}
use Rattle.pool.proofs.seat.fill_signs.Goals as goal

pub fill_signs-requires : goal.fill_signs-requires
fill_signs-requires c = (c.requires.0, top_stands _ _ c.requires.1)
