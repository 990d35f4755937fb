-- The slots of one node, as its rows see them: above the leaves by the masks of the pool, and a leaf as one piece of words. Assumes nothing.
use Rattle.std.specs.Prelude.{◌≡◌, List, ℕ, ◌+◌, ◌*◌, ◌^◌, ◌<◌, ◌≤◌, get_or}
use Rattle.nodes.specs.State.{St}
use Rattle.nodes.specs.Layout.{st, slots_length}

-- node x of a pool of n cells that has these masks and this book
pub record Seen : Type 0 where
  pub n : ℕ
  pub x : ℕ
  pub masks : List ℕ
  pub book : List ℕ

-- the state of the pool, by its slots
abbrev pub seen : Seen → List ℕ → St
seen q slots = st q.n slots q.masks q.book

-- a row of a node of branching b has m slots, a face m rows, and the node m faces: 512 slots at most
pub record Sides (b m : ℕ) : Type 0 where
  pub side : m ≡ 2 ^ b
  pub face : m * m ≡ 2 ^ (2 * b)
  pub cube : m * (m * m) ≡ 2 ^ (3 * b)
  pub face_some : 0 < m * m
  pub few : 2 ^ (3 * b) ≤ 512

-- node x of a pool of n cells with these masks, of a level above the leaves
abbrev pub UpperShows : ℕ → ℕ → List ℕ → Seen → Type 0
UpperShows n x masks q = q ≡ record { n = n; x = x; masks = masks; book = q.book }

-- a leaf, among m words: its own are those from place p on, and its value bits are the word v
pub record LeafShows (p v : ℕ) (q : Seen) (m : ℕ) : Type 0 where
  pub cell : 8 ≤ q.x
  pub node : q.x < 8 + q.n
  pub fit : m ≡ slots_length q.n
  pub words : p ≡ 3584 + 64 * q.x
  pub values : v ≡ get_or q.masks (120 + q.n + q.x) 0
