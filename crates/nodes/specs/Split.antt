-- A remove above the leaves on its way down: what it does at a slot, and where it goes on. Assumes nothing.
use Rattle.std.specs.Prelude.{true, cond, ℕ, ltb, Option, Some, None}
use Rattle.floats.specs.Value.{is_finite}
use Rattle.nodes.specs.State.{St}
use Rattle.nodes.specs.Insert.{grow_s, grow_r}
use Rattle.nodes.specs.declared.walk.Slot.{Slot}
use Rattle.nodes.specs.declared.walk.Slot.TheVariants.{Branch, Tile, Hidden}

-- from a slot that is no tile
unfoldable pub go_on_r : ℕ → Slot → Option ℕ
go_on_r n (Branch c) = cond (ltb c n) (Some c) None
go_on_r n (Tile u) = None
go_on_r n (Hidden u) = None

-- at slot k of node x, which is the slot given
unfoldable pub split_s : ℕ → ℕ → ℕ → St → Slot → St
split_s n x k s (Branch c) = s
split_s n x k s (Tile u) = cond (is_finite u) (grow_s n x k u true s) s
split_s n x k s (Hidden u) = s

unfoldable pub split_r : ℕ → St → Slot → Option ℕ
split_r n s (Branch c) = cond (ltb c n) (Some c) None
split_r n s (Tile u) = cond (is_finite u) (grow_r n s) None
split_r n s (Hidden u) = None
