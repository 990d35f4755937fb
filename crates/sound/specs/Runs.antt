-- What the steps of preparing leave, each in its own slice. Assumes nothing.
use Rattle.std.specs.Prelude.{◌≡◌, false, List, ◌⊎◌, ℕ, ◌+◌, ◌-◌, ◌*◌, ◌<◌, ◌≤◌, length, get_or}
use Rattle.bitset.specs.Set.{bit_of}
use Rattle.nodes.specs.Layout.{count_place, tag_place, stack_place, tops}

-- the len words from lo on are those of f, and the others as before
pub record Run (lo len : ℕ) (f : ℕ → ℕ) (l₀ l : List ℕ) : Type 0 where
  pub long : length l ≡ length l₀
  pub here : (j : ℕ) → lo ≤ j → j < lo + len → get_or l j 0 ≡ f (j - lo)
  pub other : (j : ℕ) → (j < lo) ⊎ (lo + len ≤ j) → get_or l j 0 ≡ get_or l₀ j 0

-- no bit of a top is on, and those of the cells are as before: the tops' words are the first, and so are their bits in both masks
pub record Emptied (n : ℕ) (masks₀ masks : List ℕ) : Type 0 where
  pub kids : (i : ℕ) → i < tops → bit_of masks i ≡ false
  pub vals : (i : ℕ) → i < tops → bit_of masks (64 * (64 + n) + i) ≡ false
  pub cell_kids : (i : ℕ) → tops ≤ i → i < 64 * (64 + n) → bit_of masks i ≡ bit_of masks₀ i
  pub cell_vals : (i : ℕ) → tops ≤ i → bit_of masks (64 * (64 + n) + i) ≡ bit_of masks₀ (64 * (64 + n) + i)

pub record Freed (n : ℕ) (book : List ℕ) : Type 0 where
  pub marks : (t : ℕ) → t < 8 → get_or book t 0 ≡ 0
  pub count : get_or book count_place 0 ≡ n
  pub tags : (c : ℕ) → c < n → get_or book (tag_place c) 0 ≡ c
  pub stack : (i : ℕ) → i < n → get_or book (stack_place n i) 0 ≡ i
