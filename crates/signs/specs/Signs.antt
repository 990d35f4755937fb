-- The sign fill, slot by slot and child first, on any state, sound or not. A sign is carried along three rows: true is negative. Assumes nothing.
use Rattle.std.specs.Prelude.{Bool, false, cond, List, [], ◌∷◌, ℕ, zero, suc, ◌+◌, ◌*◌, ◌^◌}
use Rattle.floats.specs.Value.{negative, far_with}
use Rattle.grid.specs.Node.{size}
use Rattle.nodes.specs.State.{St}
use Rattle.nodes.specs.Each.{each_s}
use Rattle.trees.specs.Slot.{child_s, hidden_s, word_s}

-- the sign of slot k of node x, with bs below it: that of its word, or, where it leads to a cell, that of the cell's slot 0
unfoldable pub sign_s : List ℕ → ℕ → St → ℕ → ℕ → Bool
sign_s [] n s x k = negative (s.slot x k)
sign_s (c ∷ bs) n s x k = cond (child_s n s x k) (sign_s bs n s (8 + s.slot x k) 0) (negative (s.slot x k))

-- the sign behind slot k of node x, which comes to it as g: a branch gives its last sign, that of its slot 63; an active slot its own
unfoldable pub behind_s : List ℕ → ℕ → St → ℕ → ℕ → Bool → Bool
behind_s [] n s x k g = cond (s.val x k) (negative (s.slot x k)) g
behind_s (c ∷ bs) n s x k g = cond (child_s n s x k) (sign_s bs n s (8 + s.slot x k) 63) (cond (s.val x k) (negative (s.slot x k)) g)

-- the sign of the first of m slots from k on that is not hidden
unfoldable pub start_s : List ℕ → ℕ → St → ℕ → ℕ → ℕ → Bool
start_s bs n s x k zero = false
start_s bs n s x k (suc m) = cond (hidden_s bs s x k) (start_s bs n s x (suc k) m) (sign_s bs n s x k)

-- a hidden slot is written as far with the sign g
unfoldable pub write_s : List ℕ → ℕ → ℕ → Bool → St → St
write_s bs x k g s = cond (hidden_s bs s x k) (word_s x k (far_with g) s) s

-- ---- rows: m steps, each of which gets the sign that the one before it left
unfoldable pub carry_s : (ℕ → Bool → St → Bool × St) → ℕ → Bool → St → Bool × St
carry_s f zero g s = (g, s)
carry_s f (suc m) g s = f m (carry_s f m g s).0 (carry_s f m g s).1

module _ (b : ℕ) (bs : List ℕ) (n x : ℕ) where
  -- "k starts as j and slot (x,y,z) replaces it, else the hidden slot gets k": the row that begins at slot i
  abbrev pub along_z : ℕ → ℕ → Bool → St → Bool × St
  along_z i z g s = let h = behind_s bs n s x (i + z) g in (h, write_s bs x (i + z) h s)

  unfoldable pub row_z : ℕ → Bool → St → St
  row_z i g s = (carry_s (along_z i) (2 ^ b) g s).1

  -- "j starts as i and slot (x,y,0) replaces it"
  abbrev pub along_y : ℕ → ℕ → Bool → St → Bool × St
  along_y i y g s = let h = behind_s bs n s x (i + y * 2 ^ b) g in (h, row_z (i + y * 2 ^ b) h s)

  unfoldable pub row_y : ℕ → Bool → St → St
  row_y i g s = (carry_s (along_y i) (2 ^ b) g s).1

  -- "For each x in turn, slot (x,0,0) if not hidden replaces i"
  abbrev pub along_x : ℕ → Bool → St → Bool × St
  along_x i g s = let h = behind_s bs n s x (i * 2 ^ (2 * b)) g in (h, row_y (i * 2 ^ (2 * b)) h s)

  -- "Start: the sign of the first active or branch slot"
  unfoldable pub rows_m : St → St
  rows_m s = (carry_s along_x (2 ^ b) (start_s bs n s x 0 (size b)) s).1

-- the cell below slot k of node x is done by `go`
abbrev pub down_s : (ℕ → St → St) → ℕ → ℕ → ℕ → St → St
down_s go n x k s = cond (child_s n s x k) (go (8 + s.slot x k) s) s

-- "Sign fill goes child first"
unfoldable pub fill_signs_m : (b : ℕ) (bs : List ℕ) → ℕ → ℕ → St → St
fill_signs_m b [] n x s = rows_m b [] n x s
fill_signs_m b (c ∷ bs) n x s = rows_m b (c ∷ bs) n x (each_s (down_s (fill_signs_m c bs n) n x) (size b) s)
