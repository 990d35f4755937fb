use Rattle.trees.specs.Combine.{join_o}
use Rattle.csg.proofs.Combines.{stays_branch, stays_value}
use Rattle.csg.proofs.combine.stays.Goals as goal
use Rattle.csg.proofs.combine.stays.Goals.{in-Tile, in-Tile-2}

pub returns-in_default : goal.returns-in_default
returns-in_default c = let a = c.args in stays_branch _ a.level a.x a.k c.requires.1 c.slot.ensures (join_o a.join) c.in_default.is

pub returns : goal.returns
returns c =
    let a = c.args in
    elim c.match-slot.branch [
      | in-Tile w ↦ stays_value _ a.level a.x a.k c.requires.1 c.slot.ensures (join_o a.join) w.in-Tile.is w.w-is c.negative_word.ensures c.stays_with.ensures
      | in-Tile-2 w ↦ stays_value _ a.level a.x a.k c.requires.1 c.slot.ensures (join_o a.join) w.in-Tile.is w.w-is c.negative_word.ensures c.stays_with.ensures
    ]
