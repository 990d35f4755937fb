-- What the functions that may find nothing answer.
use Rattle.std.specs.Prelude.{◌≡◌, List, true, false, ℕ, ◌+◌, ◌*◌, ◌≤◌, ◌<◌, Option, Some, None}
use Rattle.bitset.specs.Set.{bit_of, word_bit}

-- "`find_first_on` looks only below the set's size". `Some k`: bit k is on and is the first. `None`: no bit below n is on
abbrev pub FirstOn : List ℕ → ℕ → Option ℕ → Type 0
FirstOn ws n (Some k) = (k < n) × (bit_of ws k ≡ true) × ((j : ℕ) → j < k → bit_of ws j ≡ false)
FirstOn ws n None = (j : ℕ) → j < n → bit_of ws j ≡ false

-- `Some w`: word o lies whole below n, and w is that word, bit by bit. `None`: it does not
abbrev pub WordAt : List ℕ → ℕ → ℕ → Option ℕ → Type 0
WordAt ws n o (Some w) = (64 * (o + 1) ≤ n) × ((r : ℕ) → r < 64 → word_bit w r ≡ bit_of ws (64 * o + r))
WordAt ws n o None = n < 64 * (o + 1)
