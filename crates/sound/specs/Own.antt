-- A cell that is free at its own place of the stack, as preparing leaves each. Assumes nothing.
use Rattle.std.specs.Prelude.{Bool, ◌&&◌, ℕ, eqb}
use Rattle.nodes.specs.State.{St}

abbrev pub own_b : St → ℕ → Bool
own_b s c = eqb (s.tag c) c && eqb (s.stack c) c
