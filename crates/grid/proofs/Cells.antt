-- Cells: what insert and remove need is what they change the cells reached by. Combining needs none. Assumes nothing.
use mathlib.Core.Path.{◌≡◌, refl, ◌∙◌, ap}
use mathlib.Core.Bool.{Bool, true, false, cond, beq, false≢true}
use mathlib.Core.List.{List, [], ◌∷◌}
use Prim.Native.Nat.{ℕ, suc, ◌+◌, ◌≤◌}
use native.Mathlib.Omega.{arith}
use lib.ListN.{length}
use Rattle.floats.specs.Value.{negative, far, equal}
use Rattle.grid.specs.Combine.{Operation, union, subtract, intersect, stays_with, taken, under_b, under_a, joined_voxels, combine_s}
use Rattle.grid.specs.Geometry.{Point, slot_of}
use Rattle.grid.specs.Node.{branch, tile, hidden, on_slot, slot_ind, is_hidden, size, Node, SlotOf, changed, every, sum}
use Rattle.grid.specs.Voxel.{insert_s, insert, kept, remove_s, remove, need_insert_s, need_remove_s, freed_s}
use Rattle.grid.specs.Whole.{flip, flip_s, cells, cells_s, reach, is_empty}
use Rattle.grid.proofs.Geometry.{slot_lt}
use Rattle.grid.proofs.Places.{every_at, sum_same, sum_zero, sum_le, sum_changed}

-- a slot of a node changed
pub changed_cells : (b : ℕ) (bs : List ℕ) (n : Node (b ∷ bs)) (p : Point) (f : SlotOf bs → SlotOf bs)
    → reach b bs (changed (size b) (slot_of b bs p) f n) + cells_s bs (n (slot_of b bs p)) ≡ reach b bs n + cells_s bs (f (n (slot_of b bs p)))
unfolding reach
changed_cells b bs n p f = sum_changed (cells_s bs) (size b) (slot_of b bs p) f n (slot_lt b bs p)

pub flat_cells : (b : ℕ) (bs : List ℕ) (n : Node (b ∷ bs)) → ((i : ℕ) → cells_s bs (n i) ≡ 0) → reach b bs n ≡ 0
unfolding reach
flat_cells b bs n h = sum_zero (size b) (λ i. cells_s bs (n i)) (λ i _. h i)

branch_cells : (b : ℕ) (bs : List ℕ) (n : Node (b ∷ bs)) → cells_s (b ∷ bs) (branch n) ≡ suc (reach b bs n)
unfolding cells reach
branch_cells b bs n = refl

module _ (p : Point) (v : ℕ) where
  -- under a slot that is no branch, and not equal: one cell for each level below
  new_tile : (bs : List ℕ) (w : ℕ) → equal w v ≡ false → cells_s bs (insert_s bs p v (tile w)) ≡ length bs
  unfolding insert_s
  new_tile [] w e = refl
  new_tile (b ∷ bs) w e =
      rw e (omega (
        arith,
        branch_cells b bs (changed (size b) (slot_of b bs p) (insert_s bs p v) (λ _. tile w)),
        changed_cells b bs (λ _. tile w) p (insert_s bs p v),
        flat_cells b bs (λ _. tile w) (λ _. refl),
        new_tile bs w e,
      ))

  new_hidden : (bs : List ℕ) (w : ℕ) → cells_s bs (insert_s bs p v (hidden w)) ≡ length bs
  unfolding insert_s
  new_hidden [] w = refl
  new_hidden (b ∷ bs) w =
      omega (
        arith,
        branch_cells b bs (changed (size b) (slot_of b bs p) (insert_s bs p v) (λ _. hidden far)),
        changed_cells b bs (λ _. hidden far) p (insert_s bs p v),
        flat_cells b bs (λ _. hidden far) (λ _. refl),
        new_hidden bs far,
      )

  pub insert_s_cells : (bs : List ℕ) (s : SlotOf bs) → cells_s bs (insert_s bs p v s) ≡ cells_s bs s + need_insert_s bs p v s
  unfolding insert_s need_insert_s
  insert_s_cells [] (branch c) = absurd c
  insert_s_cells [] (tile w) = refl
  insert_s_cells [] (hidden w) = refl
  insert_s_cells (b ∷ bs) (branch n) =
      omega (
        arith,
        branch_cells b bs (changed (size b) (slot_of b bs p) (insert_s bs p v) n),
        branch_cells b bs n,
        changed_cells b bs n p (insert_s bs p v),
        insert_s_cells bs (n (slot_of b bs p)),
      )
  insert_s_cells (b ∷ bs) (tile w) = go (equal w v) refl
    where
      go : (k : Bool) → equal w v ≡ k → cells_s (b ∷ bs) (insert_s (b ∷ bs) p v (tile w)) ≡ 0 + need_insert_s (b ∷ bs) p v (tile w)
      go true e = rw e
      go false e = new_tile (b ∷ bs) w e ∙ rw e (omega arith)
  insert_s_cells (b ∷ bs) (hidden w) = new_hidden (b ∷ bs) w ∙ omega arith

  -- of a whole grid
  pub insert_cells : (b : ℕ) (bs : List ℕ) (n : Node (b ∷ bs))
      → reach b bs (insert (b ∷ bs) p v n) ≡ reach b bs n + need_insert_s bs p v (n (slot_of b bs p))
  unfolding insert
  insert_cells b bs n =
      omega (arith, changed_cells b bs n p (insert_s bs p v), insert_s_cells bs (n (slot_of b bs p)))

  -- as document 01 counts, of three levels: 2 if the top slot is no branch, 1 if the middle slot is none, else 0; 0 if the tile is equal
  module _ (b₂ b₁ : ℕ) where
    pub two_tile : (w : ℕ) → equal w v ≡ false → need_insert_s (b₂ ∷ b₁ ∷ []) p v (tile w) ≡ 2
    unfolding need_insert_s
    two_tile w e = rw e

    pub zero_tile : (w : ℕ) → equal w v ≡ true → need_insert_s (b₂ ∷ b₁ ∷ []) p v (tile w) ≡ 0
    unfolding need_insert_s
    zero_tile w e = rw e

    pub two_hidden : (w : ℕ) → need_insert_s (b₂ ∷ b₁ ∷ []) p v (hidden w) ≡ 2
    unfolding need_insert_s
    two_hidden w = refl

    pub one_tile : (m : Node (b₂ ∷ b₁ ∷ [])) (w : ℕ) → m (slot_of b₂ (b₁ ∷ []) p) ≡ tile w → equal w v ≡ false → need_insert_s (b₂ ∷ b₁ ∷ []) p v (branch m) ≡ 1
    unfolding need_insert_s
    one_tile m w h e = rw h (rw e)

    pub one_hidden : (m : Node (b₂ ∷ b₁ ∷ [])) (w : ℕ) → m (slot_of b₂ (b₁ ∷ []) p) ≡ hidden w → need_insert_s (b₂ ∷ b₁ ∷ []) p v (branch m) ≡ 1
    unfolding need_insert_s
    one_hidden m w h = rw h

    pub zero_leaf : (m : Node (b₂ ∷ b₁ ∷ [])) (l : Node (b₁ ∷ [])) → m (slot_of b₂ (b₁ ∷ []) p) ≡ branch l → need_insert_s (b₂ ∷ b₁ ∷ []) p v (branch m) ≡ 0
    unfolding need_insert_s
    zero_leaf m l h = rw h

-- an empty grid reaches no cell
pub empty_reach : (b : ℕ) (bs : List ℕ) (n : Node (b ∷ bs)) → is_empty b bs n ≡ true → reach b bs n ≡ 0
unfolding is_empty reach is_hidden
empty_reach b bs n e = sum_zero (size b) (λ i. cells_s bs (n i)) (λ i h. none_below (n i) (every_at is_hidden (size b) n i e h))
  where
    none_below : (s : SlotOf bs) → is_hidden s ≡ true → cells_s bs s ≡ 0
    none_below (branch c) e = absurd (false≢true e)
    none_below (tile v) e = refl
    none_below (hidden v) e = refl

-- a branch of which nothing is left had no branch below it
pub kept_cells : (b : ℕ) (bs : List ℕ) (n : Node (b ∷ bs)) → cells_s (b ∷ bs) (kept b bs n) + cond (every is_hidden (size b) n) 1 0 ≡ suc (reach b bs n)
unfolding kept cells reach is_empty
kept_cells b bs n = go (every is_hidden (size b) n) refl
  where
    go : (k : Bool) → every is_hidden (size b) n ≡ k → cells_s (b ∷ bs) (cond k (hidden far) (branch n)) + cond k 1 0 ≡ suc (sum (size b) (λ i. cells_s bs (n i)))
    go true e = omega (arith, empty_reach b bs n e)
    go false e = omega arith

module _ (p : Point) where
  rem_tile : (bs : List ℕ) (w : ℕ) → cells_s bs (remove_s bs p (tile w)) ≡ length bs
  unfolding remove_s
  rem_tile [] w = refl
  rem_tile (b ∷ bs) w =
      omega (
        arith,
        branch_cells b bs (changed (size b) (slot_of b bs p) (remove_s bs p) (λ _. tile w)),
        changed_cells b bs (λ _. tile w) p (remove_s bs p),
        flat_cells b bs (λ _. tile w) (λ _. refl),
        rem_tile bs w,
      )

  pub remove_s_cells : (bs : List ℕ) (s : SlotOf bs) → cells_s bs (remove_s bs p s) + freed_s bs p s ≡ cells_s bs s + need_remove_s bs p s
  unfolding remove_s need_remove_s freed_s
  remove_s_cells [] (branch c) = absurd c
  remove_s_cells [] (tile w) = refl
  remove_s_cells [] (hidden w) = refl
  remove_s_cells (b ∷ bs) (hidden w) = refl
  remove_s_cells (b ∷ bs) (tile w) = omega (arith, rem_tile (b ∷ bs) w)
  remove_s_cells (b ∷ bs) (branch n) =
      omega (
        arith,
        kept_cells b bs (changed (size b) (slot_of b bs p) (remove_s bs p) n),
        branch_cells b bs n,
        changed_cells b bs n p (remove_s bs p),
        remove_s_cells bs (n (slot_of b bs p)),
      )

  pub remove_cells : (b : ℕ) (bs : List ℕ) (n : Node (b ∷ bs))
      → reach b bs (remove (b ∷ bs) p n) + freed_s bs p (n (slot_of b bs p)) ≡ reach b bs n + need_remove_s bs p (n (slot_of b bs p))
  unfolding remove
  remove_cells b bs n =
      omega (arith, changed_cells b bs n p (remove_s bs p), remove_s_cells bs (n (slot_of b bs p)))

-- ---- combining

pub flip_cells : (bs : List ℕ) (c : Node bs) → cells bs (flip bs c) ≡ cells bs c
unfolding cells flip
flip_cells [] c = refl
flip_cells (b ∷ bs) n =
    ap suc (sum_same (size b) (λ i. cells_s bs (flip_s bs (n i))) (λ i. cells_s bs (n i))
    (λ i _. slot_ind (λ s. cells_s bs (flip_s bs s) ≡ cells_s bs s) (flip_cells bs) (λ v. refl) (λ v. refl) (n i)))

under_b_cells : (o : Operation) (bs : List ℕ) (k : Bool) (s : SlotOf bs) → cells_s bs (under_b o bs k s) ≤ cells_s bs s
unfolding under_b
under_b_cells union bs true s = omega arith
under_b_cells union bs false s = omega arith
under_b_cells subtract bs true s = omega arith
under_b_cells subtract bs false s = omega arith
under_b_cells intersect bs true s = omega arith
under_b_cells intersect bs false s = omega arith

taken_cells : (o : Operation) (bs : List ℕ) (n : Node bs) → cells bs (taken o bs n) ≡ cells bs n
taken_cells union bs n = refl
taken_cells subtract bs n = flip_cells bs n
taken_cells intersect bs n = refl

under_a_cells : (o : Operation) (bs : List ℕ) (k : Bool) (s t : SlotOf bs) → cells_s bs s ≡ 0 → cells_s bs (under_a o bs k s t) ≤ cells_s bs t
unfolding under_a
under_a_cells o bs k s t z = go (beq k (stays_with o)) t
  where
    go : (j : Bool) (t : SlotOf bs)
        → cells_s bs (cond j s (on_slot (λ n. branch (taken o bs n)) (λ w. under_b o bs (negative w) s) (λ w. under_b o bs (negative w) s) t)) ≤ cells_s bs t
    go true t = omega arith
    go false (branch n) = omega (arith, taken_cells o bs n)
    go false (tile w) = omega (arith, under_b_cells o bs (negative w) s)
    go false (hidden w) = omega (arith, under_b_cells o bs (negative w) s)

pub combine_cells : (o : Operation) (bs : List ℕ) (s t : SlotOf bs) → cells_s bs (combine_s o bs s t) ≤ cells_s bs s + cells_s bs t
unfolding combine_s cells joined_voxels
combine_cells o [] (branch c) t = absurd c
combine_cells o [] (tile v) (branch c) = absurd c
combine_cells o [] (tile v) (tile w) = omega arith
combine_cells o [] (tile v) (hidden w) = omega arith
combine_cells o [] (hidden v) (branch c) = absurd c
combine_cells o [] (hidden v) (tile w) = omega arith
combine_cells o [] (hidden v) (hidden w) = omega arith
combine_cells o (b ∷ bs) (tile v) t = omega (arith, under_a_cells o (b ∷ bs) (negative v) (tile v) t refl)
combine_cells o (b ∷ bs) (hidden v) t = omega (arith, under_a_cells o (b ∷ bs) (negative v) (hidden v) t refl)
combine_cells o (b ∷ bs) (branch m) (tile w) = omega (arith, under_b_cells o (b ∷ bs) (negative w) (branch m))
combine_cells o (b ∷ bs) (branch m) (hidden w) = omega (arith, under_b_cells o (b ∷ bs) (negative w) (branch m))
combine_cells o (b ∷ bs) (branch m) (branch n) =
    omega (arith, sum_le (size b) (λ i. cells_s bs (combine_s o bs (m i) (n i))) (λ i. cells_s bs (m i)) (λ i. cells_s bs (n i)) (λ i. combine_cells o bs (m i) (n i)))
