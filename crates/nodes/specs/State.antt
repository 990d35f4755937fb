-- The pool as functions of node and slot numbers: nodes 0 to 7 are the tops of the seats, node 8 + c is cell c. Nothing here knows where a word lies in memory.
-- Assumes nothing.
use Rattle.std.specs.Prelude.{◌≡◌, Bool, true, false, cond, List, [], ◌∷◌, ◌⊎◌, ℕ, ◌+◌, ◌-◌, ◌*◌, ◌%◌, ◌<◌, ◌≤◌, ltb}
use Rattle.floats.specs.Value.{is_finite}
use Rattle.grid.specs.Node.{Slot, branch, tile, hidden, Node, size}

pub record St : Type 0 where
  -- slot k of node x: its word, a value or a cell number as the masks say; its bit in the child mask and in the value mask
  pub slot : ℕ → ℕ → ℕ
  pub kid : ℕ → ℕ → Bool
  pub val : ℕ → ℕ → Bool
  -- the number of free cells, as recorded, and the stack of free cells: those below the count
  pub count : ℕ
  pub stack : ℕ → ℕ
  -- the use mark of a cell: of a free one its place in the stack, of a used one `linked x k`, where slot k of node x links to it
  pub tag : ℕ → ℕ
  -- the filled mark of a seat
  pub mark : ℕ → ℕ

-- the slots of node x
abbrev pub wide : ℕ → ℕ
wide x = cond (ltb x 8) 512 64

-- 65,536 is above every place in the stack
abbrev pub linked : ℕ → ℕ → ℕ
linked x k = 65536 + (512 * x + k)

-- cell c is used; it is used by a top, so it is a middle node
abbrev pub Used : St → ℕ → Type 0
Used s c = 65536 ≤ s.tag c

abbrev pub Middle : St → ℕ → Type 0
Middle s c = (65536 ≤ s.tag c) × (s.tag c < 69632)

-- node x counts: a top or a used cell; it may have branches: a top or a middle node
abbrev pub Live : St → ℕ → Type 0
Live s x = (x < 8) ⊎ ((8 ≤ x) × Used s (x - 8))

abbrev pub Fork : St → ℕ → Type 0
Fork s x = (x < 8) ⊎ ((8 ≤ x) × Middle s (x - 8))

pub record Free (s : St) (c : ℕ) : Type 0 where
  pub below : s.tag c < s.count
  pub there : s.stack (s.tag c) ≡ c

-- cell c is linked to by slot k of node x
pub record Held (n : ℕ) (s : St) (c : ℕ) : Type 0 where
  pub x : ℕ
  pub k : ℕ
  pub says : s.tag c ≡ linked x k
  pub node : x < 8 + n
  pub slot : k < wide x
  pub fork : Fork s x
  pub on : s.kid x k ≡ true
  pub links : s.slot x k ≡ c

pub record Stacked (n : ℕ) (s : St) (i : ℕ) : Type 0 where
  pub inside : s.stack i < n
  pub tagged : s.tag (s.stack i) ≡ i

pub record Link (n : ℕ) (s : St) (x k : ℕ) : Type 0 where
  pub inside : s.slot x k < n
  pub tagged : s.tag (s.slot x k) ≡ linked x k
  pub single : s.val x k ≡ false

-- "The pool is sound if each cell is either free once or reached once from one seat, the two masks never share a bit, every value in a top or a reached cell is
-- finite, any stored count or use mark is a true one, and each filled mark is either set or not set, with no third value"
pub record Sound (n : ℕ) (s : St) : Type 0 where
  pub room : n < 65536
  pub few : s.count ≤ n
  pub stacked : (i : ℕ) → i < s.count → Stacked n s i
  pub cell : (c : ℕ) → c < n → Free s c ⊎ Held n s c
  pub link : (x k : ℕ) → x < 8 + n → k < wide x → Fork s x → s.kid x k ≡ true → Link n s x k
  pub value : (x k : ℕ) → x < 8 + n → k < wide x → Live s x → (Fork s x → s.kid x k ≡ false) → is_finite (s.slot x k) ≡ true
  pub marks : (t : ℕ) → t < 8 → s.mark t < 2

-- ---- what a node stands for

-- a slot that is no branch
abbrev pub flat : {C : Type 0} → St → ℕ → ℕ → Slot C
flat s x k = cond (s.val x k) (tile (s.slot x k)) (hidden (s.slot x k))

-- slot k of node x, where f reads the cells below
abbrev pub slot_at : {C : Type 0} → (ℕ → C) → St → ℕ → ℕ → Slot C
slot_at f s x k = cond (s.kid x k) (branch (f (8 + s.slot x k))) (flat s x k)

-- node x with branching b, over the branchings bs
unfoldable pub tree : (b : ℕ) (bs : List ℕ) → St → ℕ → Node (b ∷ bs)
tree b [] s x k = flat s x (k % size b)
tree b (c ∷ bs) s x k = slot_at (tree c bs s) s x (k % size b)
