-- The table 'The nine refusals' of document 01, over a call c and lent memory m, sound or not: `Row k c m` is that what row k says is so, in the cases listed here and in no
-- other, and `Given k c m` that it is the first row of which this holds. Of the memory, `pool_of m` (nodes State) has the slots, by node and slot number: the word, the bit in the
-- child mask, the bit in the value mask; the recorded count and the stack of free cells; and the filled marks. Nodes 0 to 7 are the tops of the seats, and node 8 + c is
-- cell c of the `cells_of m`. The branchings are 3 of a top, 2 of a middle node and 2 of a leaf. Assumes nothing.
use Rattle.std.specs.Prelude.{◌≡◌, true, false, List, [], ◌∷◌, ◌⊎◌, ◌↔◌, ℕ, ◌+◌, ◌<◌, ◌≤◌, length, Float}
use Rattle.std.specs.Float.Ieee.Scale.{finite}
use Rattle.floats.specs.Value.{is_finite}
use Rattle.floats.specs.declared.Test.TheVariants.{Below, Above, Between}
use Rattle.grid.specs.Combine.{Operation}
use Rattle.grid.specs.Geometry.{Point, slot_of}
use Rattle.grid.specs.Node.{size}
use Rattle.seats.specs.Call.{Act, Lookup, Sign, Remove, Insert, Fill, Cut, FillSigns, Pair, Copy, Combine, Call, One, Two, Prepare}
use Rattle.seats.specs.Step.{need_of}
use Rattle.nodes.specs.State.{St}
use Rattle.nodes.specs.Layout.{slots_length, masks_length, book_length}
use Rattle.means.specs.Mem.{Mem, cells_of, pool_of, SoundMem, seat_of}
use Rattle.calls.specs.Forms.{form_of, CodeOnly, Out, code}

-- ---- what the rows speak of

-- the three lent lengths are those for n cells
pub record Together (n : ℕ) (m : Mem) : Type 0 where
  pub least : 1 ≤ n
  pub most : n ≤ 65535
  pub slots : length m.slots ≡ slots_length n
  pub masks : length m.masks ≡ masks_length n
  pub book : length m.book ≡ book_length n

-- "One-voxel calls are lookup, sign, insert and remove": c is one of them, at the point p of seat i
pub data OneVoxel : Call → ℕ → Point → Type 0 where
  lookup : {i : ℕ} {p : Point} → OneVoxel (One i (Lookup p)) i p
  sign : {i : ℕ} {p : Point} → OneVoxel (One i (Sign p)) i p
  insert : {i v : ℕ} {p : Point} → OneVoxel (One i (Insert p v)) i p
  remove : {i : ℕ} {p : Point} → OneVoxel (One i (Remove p)) i p

-- "on the path walked .. a link leaves the pool, a slot is in both masks, or the value reached isn't finite": the path to the point p from node x, with branching b over the
-- branchings bs. It goes on at a slot whose child bit is on, and ends at one whose child bit is off, and at a leaf's, whatever its child bit
abbrev pub BadPath : (b : ℕ) (bs : List ℕ) → Mem → ℕ → Point → Type 0
BadPath b [] m x p = is_finite ((pool_of m).slot x (slot_of b [] p)) ≡ false
BadPath b (c ∷ bs) m x p =
    let s = pool_of m in
    let k = slot_of b (c ∷ bs) p in
    ((s.kid x k ≡ true) × ((s.val x k ≡ true) ⊎ ((cells_of m ≤ s.slot x k) ⊎ BadPath c bs m (8 + s.slot x k) p)))
    ⊎ ((s.kid x k ≡ false) × (is_finite (s.slot x k) ≡ false))

-- "among the free cells needed, a link leaves the pool": these are the uppermost of the recorded stack, at the places below its count, or all of them where fewer are recorded.
-- The stack has one place for each cell: where the count is above the cells, its uppermost place lies outside
abbrev pub BadFree : Mem → ℕ → Type 0
BadFree m need = (i : ℕ) × (i < (pool_of m).count) × ((pool_of m).count ≤ i + need) × ((cells_of m ≤ i) ⊎ (cells_of m ≤ (pool_of m).stack i))

-- the cells that the call needs, by the rules of insert, remove and copy (seats Step), of the seats as they stand in memory
abbrev pub needed : Call → Mem → ℕ
needed c m = need_of 3 (2 ∷ 2 ∷ []) c (seat_of m)

-- "both masks empty", of node x with branching b over the branchings bs; a leaf has one mask
abbrev pub Bare : (b : ℕ) (bs : List ℕ) → St → ℕ → Type 0
Bare b [] s x = (k : ℕ) → k < size b → s.val x k ≡ false
Bare b (c ∷ bs) s x = (k : ℕ) → k < size b → (s.val x k ≡ false) × (s.kid x k ≡ false)

-- "a branch has both masks empty": one at a slot of node x, or one further below
abbrev pub BareBranch : (b : ℕ) (bs : List ℕ) → St → ℕ → Type 0
BareBranch b [] s x = ⊥
BareBranch b (c ∷ bs) s x = (k : ℕ) × (k < size b) × (s.kid x k ≡ true) × (Bare c bs s (8 + s.slot x k) ⊎ BareBranch c bs s (8 + s.slot x k))

-- ---- the table

pub data Row : ℕ → Call → Mem → Type 0 where
  -- 1: "lent lengths don't belong together for one cell count from 1 to 65,535"
  lengths : {c : Call} {m : Mem} → ((n : ℕ) → Together n m → ⊥) → Row 1 c m
  -- 2: "a seat number is above 7"
  seat_above : {i : ℕ} {x : Act} {m : Mem} → 7 < i → Row 2 (One i x) m
  pair_above : {x : Pair} {i j : ℕ} {m : Mem} → (7 < i) ⊎ (7 < j) → Row 2 (Two x i j) m
  -- 3: "two seats are asked for and are equal"
  pair_equal : {x : Pair} {i j : ℕ} {m : Mem} → i ≡ j → Row 3 (Two x i j) m
  -- 4: "a given value or bound is NaN or infinite"
  insert_value : {i v : ℕ} {p : Point} {m : Mem} → is_finite v ≡ false → Row 4 (One i (Insert p v)) m
  fill_value : {i v : ℕ} {m : Mem} → is_finite v ≡ false → Row 4 (One i (Fill v)) m
  below_bound : {i : ℕ} {high : Float} {m : Mem} → finite high ≡ false → Row 4 (One i (Cut (Below high))) m
  above_bound : {i : ℕ} {low : Float} {m : Mem} → finite low ≡ false → Row 4 (One i (Cut (Above low))) m
  between_bound : {i : ℕ} {low high : Float} {m : Mem} → (finite low ≡ false) ⊎ (finite high ≡ false) → Row 4 (One i (Cut (Between low high))) m
  -- 5: "one-voxel calls: on the path walked, or among the free cells needed, .."
  path : {c : Call} {i : ℕ} {p : Point} {m : Mem} → OneVoxel c i p → BadPath 3 (2 ∷ 2 ∷ []) m i p → Row 5 c m
  free : {c : Call} {i : ℕ} {p : Point} {m : Mem} → OneVoxel c i p → BadFree m (needed c m) → Row 5 c m
  -- 5: "all other calls but preparing: the pool isn't sound"
  pool : {c : Call} {m : Mem} → ((i : ℕ) (p : Point) → OneVoxel c i p → ⊥) → (c ≡ Prepare → ⊥) → (SoundMem m → ⊥) → Row 5 c m
  -- 6: "sign or combination asked of a seat that isn't filled (its mark is anything but set)": 1 is set
  sign_unfilled : {i : ℕ} {p : Point} {m : Mem} → ((pool_of m).mark i ≡ 1 → ⊥) → Row 6 (One i (Sign p)) m
  pair_unfilled : {o : Operation} {i j : ℕ} {m : Mem} → ((pool_of m).mark i ≡ 1 → ⊥) ⊎ ((pool_of m).mark j ≡ 1 → ⊥) → Row 6 (Two (Combine o) i j) m
  -- 7: "fill of signs or combination where a branch has both masks empty"
  signs_bare : {i : ℕ} {m : Mem} → BareBranch 3 (2 ∷ 2 ∷ []) (pool_of m) i → Row 7 (One i FillSigns) m
  pair_bare : {o : Operation} {i j : ℕ} {m : Mem}
      → BareBranch 3 (2 ∷ 2 ∷ []) (pool_of m) i ⊎ BareBranch 3 (2 ∷ 2 ∷ []) (pool_of m) j → Row 7 (Two (Combine o) i j) m
  -- 8: "copy onto a seat that isn't empty"
  onto : {i j : ℕ} {m : Mem} → (Bare 3 (2 ∷ 2 ∷ []) (pool_of m) j → ⊥) → Row 8 (Two Copy i j) m
  -- 9: "fewer free cells than needed", as the memory records them
  few : {c : Call} {m : Mem} → (pool_of m).count < needed c m → Row 9 c m

-- "Checked in this order"
abbrev pub Given : ℕ → Call → Mem → Type 0
Given k c m = Row k c m × ((j : ℕ) → j < k → Row j c m → ⊥)

-- Demand 1 of a call c for C, on m, that answers r and leaves m': the codes 1 to 9 are the refusals, "given exactly when document 01 says, and then no lent word has changed", and
-- "each returns its number alone"
abbrev pub Refuses : (c : Call) → Mem → Out c → Mem → Type 0
Refuses c m r m' = ((k : ℕ) → 1 ≤ k → k ≤ 9 → (code c r ≡ k) ↔ Given k c m) × (1 ≤ code c r → code c r ≤ 9 → CodeOnly (form_of c) r × (m' ≡ m))
