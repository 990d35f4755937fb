-- A step at each slot of a node, in order: what the calls on a whole seat are made of. Assumes nothing.
use Rattle.std.specs.Prelude.{ℕ, zero, suc}
use Rattle.nodes.specs.State.{St}

-- the step at the first m slots
unfoldable pub each_s : (ℕ → St → St) → ℕ → St → St
each_s f zero s = s
each_s f (suc m) s = f m (each_s f m s)
