use Rattle.nodes.proofs.Paths.{top_stands}
use Rattle.pool.proofs.seat.solid.Goals as goal

pub hollow-requires : goal.hollow-requires
hollow-requires c = top_stands _ _ c.requires
