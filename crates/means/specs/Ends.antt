-- Where the walk to a point ends in a grid, and what a lookup and a sign read there. Assumes nothing.
use Rattle.std.specs.Prelude.{Bool, false, List, [], ◌∷◌, ℕ, length}
use Rattle.std.proofs.Math.Option.{Option, none, some}
use Rattle.floats.specs.Value.{negative}
use Rattle.grid.specs.Geometry.{Point, slot_of}
use Rattle.grid.specs.Node.{Node, on_slot}
use Rattle.nodes.specs.Walk.{Reach, active, hidden, broken}

-- the meaning's walk: the slot reached, with its level and its value
unfoldable pub ends : (bs : List ℕ) → Node bs → Point → Reach
ends [] g p = absurd g
ends (b ∷ bs) g p = on_slot (λ c. ends bs c p) (active (length bs)) (hidden (length bs)) (g (slot_of b bs p))

-- a lookup shows active slots alone; the sign is that of either
abbrev pub shown : Reach → Option ℕ
shown (active l w) = some w
shown (hidden l w) = none
shown broken = none

abbrev pub signed : Reach → Bool
signed (active l w) = negative w
signed (hidden l w) = negative w
signed broken = false
