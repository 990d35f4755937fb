-- The walk to a point, on any state, sound or not: over the branching b of a node and those below it, bs, so that the level of the node is the length of bs.
-- Assumes nothing.
use Rattle.std.specs.Prelude.{Bool, true, false, not, cond, ◌&&◌, ◌||◌, List, [], ◌∷◌, ℕ, zero, suc, ◌+◌, ◌*◌, ◌/◌, ◌%◌, ℤ, pos, length, ltb, leb, Option, Some, None}
use Rattle.floats.specs.Value.{is_finite, equal, far}
use Rattle.grid.specs.Geometry.{Point, masked, slot_of}
use Rattle.nodes.specs.State.{St}
use Rattle.nodes.specs.Change.{put_s, attach_s, next}
use Rattle.nodes.specs.declared.walk.Slot.{Slot}
use Rattle.nodes.specs.declared.walk.Slot.TheVariants as slot

-- ---- the table of levels of the grid of 128, with branching 3, 2 and 2: 2 is a top, 1 a middle node, 0 a leaf

abbrev pub branching : ℕ → ℕ
branching zero = 2
branching (suc zero) = 2
branching (suc (suc l)) = 3

abbrev pub below : ℕ → List ℕ
below zero = []
below (suc l) = branching l ∷ below l

-- ---- the code passes a voxel by its number, x * 2 ^ 14 + y * 2 ^ 7 + z, with coordinates masked to 7 bits

-- the voxels of a grid, 2 ^ 21
abbrev pub voxels : ℕ
voxels = 2097152

abbrev pub voxel_at : ℤ → ℤ → ℤ → ℕ
voxel_at x y z = masked 7 x * 16384 + masked 7 y * 128 + masked 7 z

abbrev pub voxel_of : Point → ℕ
voxel_of p = voxel_at p.x p.y p.z

abbrev pub point_of : ℕ → Point
point_of v = record { x = pos (v / 16384); y = pos (v / 128 % 128); z = pos (v % 128) }

-- ---- one slot

-- slot k of node x, which is no branch
abbrev pub closed_s : St → ℕ → ℕ → Slot
closed_s s x k = cond (s.val x k) (slot.Tile (s.slot x k)) (slot.Hidden (s.slot x k))

-- what slot k of node x is, where bs is below the node: a leaf has no branch
unfoldable pub view_s : List ℕ → St → ℕ → ℕ → Slot
view_s [] s x k = closed_s s x k
view_s (c ∷ bs) s x k = cond (s.kid x k) (slot.Branch (s.slot x k)) (closed_s s x k)

-- slot k of node x above the leaves leads to a cell of the pool
abbrev pub child_s : ℕ → St → ℕ → ℕ → Bool
child_s n s x k = s.kid x k && ltb (s.slot x k) n

-- and to which
abbrev pub child_r : ℕ → St → ℕ → ℕ → Option ℕ
child_r n s x k = cond (child_s n s x k) (Some (s.slot x k)) None

-- ---- where a walk ends

-- in an active or a hidden slot of a level, with its value; or nowhere
pub data Reach : Type 0 where
  active hidden : ℕ → ℕ → Reach
  broken : Reach

-- refusal 5: "the value reached isn't finite"
abbrev pub reach_at : ℕ → St → ℕ → ℕ → Reach
reach_at l s x k = cond (is_finite (s.slot x k)) (cond (s.val x k) (active l (s.slot x k)) (hidden l (s.slot x k))) broken

-- refusal 5: "on the path walked .. a link leaves the pool, a slot is in both masks"
unfoldable pub reach_s : (b : ℕ) (bs : List ℕ) → ℕ → St → ℕ → Point → Reach
reach_s b [] n s x p = reach_at 0 s x (slot_of b [] p)
reach_s b (c ∷ bs) n s x p =
    let k = slot_of b (c ∷ bs) p in
    cond (s.kid x k)
    (cond (s.val x k) broken (cond (ltb (s.slot x k) n) (reach_s c bs n s (8 + s.slot x k) p) broken))
    (reach_at (suc (length bs)) s x k)

-- the cells that an insert of the word w needs, and a remove: one for each level below the slot reached
abbrev pub need_insert_r : Reach → ℕ → ℕ
need_insert_r (active l u) w = cond (equal u w) 0 l
need_insert_r (hidden l u) w = l
need_insert_r broken w = 0

abbrev pub need_remove_r : Reach → ℕ
need_remove_r (active l u) = l
need_remove_r (hidden l u) = 0
need_remove_r broken = 0

-- ---- insert

-- the next free cell can be had: there is one, the count is within the cells, and the link does not leave the pool
abbrev pub ready_s : ℕ → St → Bool
ready_s n s = ltb 0 s.count && (leb s.count n && ltb (next s) n)

-- an insert of the word w stops at a tile of u: it is equal; or it is not finite, which is carried nowhere
abbrev pub stays : ℕ → ℕ → Bool
stays u w = not (is_finite u) || equal u w

-- a branch is added below slot k of node x, its slots holding u, and `go` goes on in it; if no cell can be had nothing is done
abbrev pub grown_m : (ℕ → St → St) → ℕ → ℕ → ℕ → ℕ → Bool → St → St
grown_m go n x k u a s = cond (ready_s n s) (go (8 + next s) (attach_s x k u a s)) s

-- an insert of the word w at slot k of node x above the leaves, where it is the slot given and `go` goes on below
abbrev pub insert_at : (ℕ → St → St) → ℕ → ℕ → ℕ → ℕ → St → Slot → St
insert_at go n w x k s (slot.Branch c) = cond (ltb c n) (go (8 + c) s) s
insert_at go n w x k s (slot.Tile u) = cond (stays u w) s (grown_m go n x k u true s)
insert_at go n w x k s (slot.Hidden u) = grown_m go n x k far false s

-- the word w is inserted at the point p below node x
unfoldable pub insert_m : (b : ℕ) (bs : List ℕ) → ℕ → Point → ℕ → ℕ → St → St
insert_m b [] n p w x s = put_s x (slot_of b [] p) w true s
insert_m b (c ∷ bs) n p w x s = insert_at (insert_m c bs n p w) n w x (slot_of b (c ∷ bs) p) s (view_s (c ∷ bs) s x (slot_of b (c ∷ bs) p))
