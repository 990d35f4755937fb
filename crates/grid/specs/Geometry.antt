-- 'Geometry of one grid': points, masked coordinates and slot numbers. Assumes nothing.
use Rattle.std.specs.Prelude.{◌≡◌, List, [], ◌∷◌, ℕ, ◌+◌, ◌-◌, ◌*◌, ◌/◌, ◌%◌, ◌^◌, ℤ, pos, negsuc}

-- "Coordinates are 32-bit signed"
pub record Point : Type 0 where
  pub x : ℤ
  pub y : ℤ
  pub z : ℤ

-- "masked to their low 7 bits, so -1 is 127 and 128 is 0": the low k bits, where negsuc n is -1 - n
unfoldable pub masked : ℕ → ℤ → ℕ
masked k (pos n) = n % 2 ^ k
masked k (negsuc n) = 2 ^ k - 1 - n % 2 ^ k

-- a level's total: its branching and all below it
unfoldable pub total : List ℕ → ℕ
total [] = 0
total (b ∷ bs) = b + total bs

-- "mask each coordinate to the level's total, shift right by c"
unfoldable pub part : ℕ → ℕ → ℤ → ℕ
part b c x = masked (b + c) x / 2 ^ c

-- "slot = x·2^(2b) + y·2^b + z"
unfoldable pub slot_of : ℕ → List ℕ → Point → ℕ
unfolding part total
slot_of b bs p = let c = total bs in part b c p.x * 2 ^ (2 * b) + part b c p.y * 2 ^ b + part b c p.z

-- p and q have the same coordinates, masked to k bits
pub record Alike (k : ℕ) (p q : Point) : Type 0 where
  pub x : masked k p.x ≡ masked k q.x
  pub y : masked k p.y ≡ masked k q.y
  pub z : masked k p.z ≡ masked k q.z
