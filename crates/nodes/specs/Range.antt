-- What the code asks of numbers and lengths. Nothing is asked of what the memory holds. Assumes nothing.
use Rattle.std.specs.Prelude.{◌≡◌, List, ℕ, ◌+◌, ◌<◌, ◌≤◌, length}
use Rattle.grid.specs.Node.{size}
use Rattle.nodes.specs.State.{wide}
use Rattle.nodes.specs.Layout.{word_of, slots_length, masks_length, book_length}
use Rattle.nodes.specs.Walk.{branching}

-- slot k of node x is one of a pool of n cells
pub record In (n x k : ℕ) : Type 0 where
  pub node : x < 8 + n
  pub slot : k < wide x

-- node x of a pool of n cells is of a level: it has as many slots as the level's nodes have
pub record Stands (n level x : ℕ) : Type 0 where
  pub known : level ≤ 2
  pub node : x < 8 + n
  pub slots : wide x ≡ size (branching level)

-- the word of slot k of node x is below m, and its place can be reckoned
pub record Placed (x k m : ℕ) : Type 0 where
  pub node : x < 65544
  pub slot : k < 512
  pub below : word_of x k < m

-- the lengths of the slots and the masks belong together for n cells; the length of one slice does
pub record Cells (n : ℕ) (slots masks : List ℕ) : Type 0 where
  pub most : n < 65536
  pub slots_fit : length slots ≡ slots_length n
  pub masks_fit : length masks ≡ masks_length n

pub record Slotted (n : ℕ) (slots : List ℕ) : Type 0 where
  pub most : n < 65536
  pub slots_fit : length slots ≡ slots_length n

pub record Masked (n : ℕ) (masks : List ℕ) : Type 0 where
  pub most : n < 65536
  pub masks_fit : length masks ≡ masks_length n

pub record Booked (n : ℕ) (book : List ℕ) : Type 0 where
  pub most : n < 65536
  pub book_fit : length book ≡ book_length n
