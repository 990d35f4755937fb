-- The calls on one voxel: lookup, sign, insert and remove, and the cells that they need. A function on a slot ends in S. Assumes nothing.
use Rattle.std.specs.Prelude.{Bool, cond, List, [], ◌∷◌, ℕ, suc, ◌+◌, length}
use Rattle.std.proofs.Math.Option.{Option, none, some}
use Rattle.floats.specs.Value.{negative, far, equal}
use Rattle.grid.specs.Geometry.{Point, slot_of}
use Rattle.grid.specs.Node.{branch, tile, hidden, on_slot, is_hidden, size, Node, SlotOf, changed, every}

-- "Lookup answers a tile or voxel with its value, or nothing"
unfoldable pub lookup : (bs : List ℕ) → Node bs → Point → Option ℕ
lookup [] n p = absurd n
lookup (b ∷ bs) n p = on_slot (λ c. lookup bs c p) some (λ v. none) (n (slot_of b bs p))

abbrev pub lookup_s : (bs : List ℕ) → SlotOf bs → Point → Option ℕ
lookup_s bs s p = on_slot (λ c. lookup bs c p) some (λ v. none) s

-- the sign of the slot that the walk to p ends in, active or hidden; true is negative
unfoldable pub sign_at : (bs : List ℕ) → Node bs → Point → Bool
sign_at [] n p = absurd n
sign_at (b ∷ bs) n p = on_slot (λ c. sign_at bs c p) negative negative (n (slot_of b bs p))

abbrev pub sign_at_s : (bs : List ℕ) → SlotOf bs → Point → Bool
sign_at_s bs s p = on_slot (λ c. sign_at bs c p) negative negative s

-- "Insert under an equal active tile changes no slot. Under another active tile the branch is added, filled with the tile's value, and the voxel set.
-- Under a hidden slot the branch starts empty"; "a new or released slot holds +far"
unfoldable pub insert_s : (bs : List ℕ) → Point → ℕ → SlotOf bs → SlotOf bs
insert_s [] p v s = tile v
insert_s (b ∷ bs) p v (branch n) = branch (changed (size b) (slot_of b bs p) (insert_s bs p v) n)
insert_s (b ∷ bs) p v (tile w) = cond (equal w v) (tile w) (branch (changed (size b) (slot_of b bs p) (insert_s bs p v) (λ _. tile w)))
insert_s (b ∷ bs) p v (hidden w) = branch (changed (size b) (slot_of b bs p) (insert_s bs p v) (λ _. hidden far))

unfoldable pub insert : (bs : List ℕ) → Point → ℕ → Node bs → Node bs
insert [] p v n = n
insert (b ∷ bs) p v n = changed (size b) (slot_of b bs p) (insert_s bs p v) n

-- "A branch on the path that is then empty is released"; "one whose branch is released holds +far"
unfoldable pub kept : (b : ℕ) (bs : List ℕ) → Node (b ∷ bs) → SlotOf (b ∷ bs)
kept b bs n = cond (every is_hidden (size b) n) (hidden far) (branch n)

-- "Remove of a voxel under an active tile first creates the filled branches"; "removing what isn't there is accepted"; "a slot hidden by remove or cut
-- keeps its value"
unfoldable pub remove_s : (bs : List ℕ) → Point → SlotOf bs → SlotOf bs
remove_s [] p s = on_slot branch hidden hidden s
remove_s (b ∷ bs) p (hidden w) = hidden w
remove_s (b ∷ bs) p (tile w) = branch (changed (size b) (slot_of b bs p) (remove_s bs p) (λ _. tile w))
remove_s (b ∷ bs) p (branch n) = kept b bs (changed (size b) (slot_of b bs p) (remove_s bs p) n)

unfoldable pub remove : (bs : List ℕ) → Point → Node bs → Node bs
remove [] p n = n
remove (b ∷ bs) p n = changed (size b) (slot_of b bs p) (remove_s bs p) n

-- ---- cells

-- "Cells needed: 2 if the top slot is no branch, 1 if the middle slot is none, else 0; 0 if the tile is equal"
unfoldable pub need_insert_s : (bs : List ℕ) → Point → ℕ → SlotOf bs → ℕ
need_insert_s [] p v s = 0
need_insert_s (b ∷ bs) p v s =
    on_slot (λ n. need_insert_s bs p v (n (slot_of b bs p))) (λ w. cond (equal w v) 0 (suc (length bs))) (λ w. suc (length bs)) s

-- "2 cells, or 1", under an active tile
unfoldable pub need_remove_s : (bs : List ℕ) → Point → SlotOf bs → ℕ
need_remove_s [] p s = 0
need_remove_s (b ∷ bs) p s = on_slot (λ n. need_remove_s bs p (n (slot_of b bs p))) (λ w. suc (length bs)) (λ w. 0) s

-- the branches that a remove releases: "a branch on the path that is then empty is released"
unfoldable pub freed_s : (bs : List ℕ) → Point → SlotOf bs → ℕ
freed_s [] p s = 0
freed_s (b ∷ bs) p s =
    on_slot
    (λ n. freed_s bs p (n (slot_of b bs p)) + cond (every is_hidden (size b) (changed (size b) (slot_of b bs p) (remove_s bs p) n)) 1 0)
    (λ w. 0)
    (λ w. 0)
    s
