-- Soundness in document 01's words: what is free is told by the stack, and what is reached by the branches from the tops down, not by use marks. Assumes nothing.
use Rattle.std.specs.Prelude.{◌≡◌, Bool, true, false, ◌⊎◌, ℕ, ◌+◌, ◌<◌}
use Rattle.floats.specs.Value.{is_finite}
use Rattle.nodes.specs.State.{St, wide, Stacked, Link}

-- the way from seat t to one of its nodes: its top; the middle node at slot k of that; the leaf at slot j of that
pub data Path : Type 0 where
  top : (t : ℕ) → Path
  middle : (t k : ℕ) → Path
  leaf : (t k j : ℕ) → Path

-- the number of that node
abbrev pub end : St → Path → ℕ
end s (top t) = t
end s (middle t k) = 8 + s.slot t k
end s (leaf t k j) = 8 + s.slot (8 + s.slot t k) j

-- slot i of that node is a branch: a leaf has none, whatever its child word holds
abbrev pub branch_at : St → Path → ℕ → Bool
branch_at s (top t) i = s.kid t i
branch_at s (middle t k) i = s.kid (8 + s.slot t k) i
branch_at s (leaf t k j) i = false

-- it leads there: it begins at one of the eight seats, and every slot on it is a branch
abbrev pub Leads : St → Path → Type 0
Leads s (top t) = t < 8
Leads s (middle t k) = (t < 8) × (k < 512) × (s.kid t k ≡ true)
Leads s (leaf t k j) = (t < 8) × (k < 512) × (s.kid t k ≡ true) × (j < 64) × (s.kid (8 + s.slot t k) j ≡ true)

-- cell c is free once: at one place of the stack; and it is not reached
pub record FreeOnce (s : St) (c : ℕ) : Type 0 where
  pub place : ℕ
  pub below : place < s.count
  pub there : s.stack place ≡ c
  pub once : (i : ℕ) → i < s.count → s.stack i ≡ c → i ≡ place
  pub unreached : (p : Path) → Leads s p → end s p ≡ 8 + c → ⊥

-- cell c is reached once from one seat: by one path; and it is not free
pub record ReachedOnce (s : St) (c : ℕ) : Type 0 where
  pub path : Path
  pub leads : Leads s path
  pub there : end s path ≡ 8 + c
  pub once : (p : Path) → Leads s p → end s p ≡ 8 + c → p ≡ path
  pub unfree : (i : ℕ) → i < s.count → s.stack i ≡ c → ⊥

pub record Written (n : ℕ) (s : St) : Type 0 where
  -- "each cell is either free once or reached once from one seat"
  pub cell : (c : ℕ) → c < n → FreeOnce s c ⊎ ReachedOnce s c
  -- "any stored count or use mark is a true one": each place below the count names a cell, and each branch does, and the cell's use mark names that place or branch;
  -- so the places name as many cells as the count says
  pub place : (i : ℕ) → i < s.count → Stacked n s i
  -- and "the two masks never share a bit"
  pub branch : (p : Path) (k : ℕ) → Leads s p → k < wide (end s p) → branch_at s p k ≡ true → Link n s (end s p) k
  -- "every value in a top or a reached cell is finite"
  pub value : (p : Path) (k : ℕ) → Leads s p → k < wide (end s p) → branch_at s p k ≡ false → is_finite (s.slot (end s p) k) ≡ true
  -- "each filled mark is either set or not set, with no third value"
  pub marks : (t : ℕ) → t < 8 → s.mark t < 2
