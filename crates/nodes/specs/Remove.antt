-- The remove walk, on any state, sound or not. Assumes nothing.
use Rattle.std.specs.Prelude.{Bool, true, not, cond, ◌&&◌, ◌||◌, List, [], ◌∷◌, ℕ, ◌+◌, ◌*◌, ◌/◌, ◌%◌, eqb, ltb}
use Rattle.floats.specs.Value.{is_finite}
use Rattle.bitset.specs.Set.{bit_of, every}
use Rattle.grid.specs.Geometry.{Point, slot_of}
use Rattle.nodes.specs.State.{St}
use Rattle.nodes.specs.Change.{hide_s, release_s}
use Rattle.nodes.specs.Walk.{view_s, grown_m}
use Rattle.nodes.specs.declared.walk.Slot.{Slot}
use Rattle.nodes.specs.declared.walk.Slot.TheVariants as slot

-- the mask has no bit on in the 64 slots of node y
abbrev pub none_s : (ℕ → ℕ → Bool) → ℕ → Bool
none_s m y = every (λ j. not (m y j)) 64

-- no bit is on in the word of the value masks that has the bit of place i, but for that bit
abbrev pub alone_s : ℕ → List ℕ → ℕ → Bool
alone_s n masks i = every (λ j. eqb j (i % 64) || not (bit_of masks (64 * (64 + n + i / 64) + j))) 64

-- no slot of the cell that is node y, with bs below it, is active or a branch
unfoldable pub bare_s : List ℕ → St → ℕ → Bool
bare_s [] s y = none_s s.val y
bare_s (c ∷ bs) s y = none_s s.val y && none_s s.kid y

-- "a branch on the path that is then empty is released": the cell below slot k of node x, with bs below it; where it is not in the pool, or there is no
-- room in the stack, nothing is done
abbrev pub shut_m : List ℕ → ℕ → ℕ → ℕ → St → St
shut_m bs n x k s = cond (ltb (s.slot x k) n && (bare_s bs s (8 + s.slot x k) && ltb s.count n)) (release_s x k s) s

-- a remove at slot k of node x above the leaves, where it is the slot given, bs is below the cell that it may lead to and `go` goes on there. A
-- value that is not finite is carried nowhere
abbrev pub remove_at : List ℕ → (ℕ → St → St) → ℕ → ℕ → ℕ → St → Slot → St
remove_at bs go n x k s (slot.Branch c) = cond (ltb c n) (shut_m bs n x k (go (8 + c) s)) s
remove_at bs go n x k s (slot.Tile u) = cond (is_finite u) (grown_m go n x k u true s) s
remove_at bs go n x k s (slot.Hidden u) = s

-- the voxel at the point p below node x is removed
unfoldable pub remove_m : (b : ℕ) (bs : List ℕ) → ℕ → Point → ℕ → St → St
remove_m b [] n p x s = hide_s x (slot_of b [] p) s
remove_m b (c ∷ bs) n p x s = remove_at bs (remove_m c bs n p) n x (slot_of b (c ∷ bs) p) s (view_s (c ∷ bs) s x (slot_of b (c ∷ bs) p))
