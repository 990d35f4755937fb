-- Eight seats over one pool of cells, over any branchings: b is the top's, bs those below it. Assumes nothing.
use Rattle.std.specs.Prelude.{Bool, true, false, List, ◌∷◌, ℕ, ◌-◌}
use Rattle.grid.specs.Node.{Node, sum}
use Rattle.grid.specs.Whole.{clear, reach}

module _ (b : ℕ) (bs : List ℕ) where
  -- a seat: its grid, and whether it is marked as filled
  pub record Seat : Type 0 where
    pub grid : Node (b ∷ bs)
    pub filled : Bool

  -- the seats, by number, and the cells of the pool
  pub record State : Type 0 where
    pub seat : ℕ → Seat
    pub all : ℕ

  -- a changed seat is unmarked
  abbrev pub unmarked : Node (b ∷ bs) → Seat
  unmarked n = record { grid = n; filled = false }

  abbrev pub marked : Node (b ∷ bs) → Seat
  marked n = record { grid = n; filled = true }

  -- a seat after Clear
  unfoldable pub fresh : Seat
  fresh = unmarked (clear b bs)

  -- "Preparing it frees every cell and empties every seat"
  unfoldable pub prepared : ℕ → State
  prepared n = record { seat = λ i. fresh; all = n }

  unfoldable pub reached : Seat → ℕ
  reached s = reach b bs s.grid

  -- the cells that the eight seats reach
  unfoldable pub used : (ℕ → Seat) → ℕ
  used f = sum 8 (λ i. reached (f i))

  -- "Free cells plus cells reached equals all cells"
  unfoldable pub free : State → ℕ
  unfolding used
  free st = st.all - used st.seat
