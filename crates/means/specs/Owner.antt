-- Which seat a used cell belongs to, by the use marks alone: a cell hangs below a top, or below a cell that hangs below a top. Assumes nothing.
use Rattle.std.specs.Prelude.{Bool, cond, ◌&&◌, ℕ, ◌-◌, ◌/◌, ltb, leb, eqb}
use Rattle.nodes.specs.State.{St}

-- the node that links to the used cell c
abbrev pub above : St → ℕ → ℕ
above s c = (s.tag c - 65536) / 512

unfoldable pub owner : St → ℕ → ℕ
owner s c = cond (ltb (above s c) 8) (above s c) (above s (above s c - 8))

-- seat t owns cell c
abbrev pub owns : St → ℕ → ℕ → Bool
owns s t c = leb 65536 (s.tag c) && eqb (owner s c) t
