-- An insert above the leaves in two parts: what it does at a slot, and where it goes on. Assumes nothing.
use Rattle.std.specs.Prelude.{Bool, true, false, cond, ℕ, ◌+◌, ltb, Option, Some, None}
use Rattle.floats.specs.Value.{far}
use Rattle.nodes.specs.State.{St}
use Rattle.nodes.specs.Change.{attach_s, next}
use Rattle.nodes.specs.Walk.{ready_s, stays}
use Rattle.nodes.specs.declared.walk.Slot.{Slot}
use Rattle.nodes.specs.declared.walk.Slot.TheVariants.{Branch, Tile, Hidden}

-- a branch is added below slot k of node x, if a cell can be had
unfoldable pub grow_s : ℕ → ℕ → ℕ → ℕ → Bool → St → St
grow_s n x k u a s = cond (ready_s n s) (attach_s x k u a s) s

unfoldable pub grow_r : ℕ → St → Option ℕ
grow_r n s = cond (ready_s n s) (Some (next s)) None

-- at slot k of node x, which is the slot given and no tile
unfoldable pub open_s : ℕ → ℕ → ℕ → St → Slot → St
open_s n x k s (Branch c) = s
open_s n x k s (Tile u) = grow_s n x k far false s
open_s n x k s (Hidden u) = grow_s n x k far false s

unfoldable pub open_r : ℕ → St → Slot → Option ℕ
open_r n s (Branch c) = cond (ltb c n) (Some c) None
open_r n s (Tile u) = grow_r n s
open_r n s (Hidden u) = grow_r n s

-- at slot k of node x, which is the slot given
unfoldable pub step_s : ℕ → ℕ → ℕ → ℕ → St → Slot → St
step_s n w x k s (Branch c) = s
step_s n w x k s (Tile u) = cond (stays u w) s (grow_s n x k u true s)
step_s n w x k s (Hidden u) = grow_s n x k far false s

unfoldable pub step_r : ℕ → ℕ → St → Slot → Option ℕ
step_r n w s (Branch c) = cond (ltb c n) (Some c) None
step_r n w s (Tile u) = cond (stays u w) None (grow_r n s)
step_r n w s (Hidden u) = grow_r n s

-- `go` goes on in the cell that was found
abbrev pub onward : (ℕ → St → St) → Option ℕ → St → St
onward go (Some c) s = go (8 + c) s
onward go None s = s
