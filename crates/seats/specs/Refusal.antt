-- 'The nine refusals': one list of tests in the order of the table, over what is read of lent memory, sound or not. Assumes nothing.
use Rattle.std.specs.Prelude.{Bool, false, not, ◌&&◌, ◌||◌, cond, List, [], ◌∷◌, ℕ, leb, eqb}
use Rattle.std.proofs.Math.Option.{Option, none, some}
use Rattle.seats.specs.Call.{Call, names, on_kind, asks}

pub record Reads : Type 0 where
  -- the lent lengths belong together for one cell count from 1 to 65,535
  pub fit : Bool
  -- the path that the call walks, and the free cells that it needs, are good
  pub path : Call → Bool
  -- the pool is sound
  pub sound : Bool
  -- of a seat: its mark is set; it has an empty branch; it is empty
  pub filled : ℕ → Bool
  pub hollow : ℕ → Bool
  pub empty : ℕ → Bool
  -- the cells that the call needs, and those that are free
  pub need : Call → ℕ
  pub free : ℕ

-- some number of the list passes
abbrev pub any : (ℕ → Bool) → List ℕ → Bool
any f [] = false
any f (n ∷ []) = f n
any f (n ∷ m ∷ ns) = f n || any f (m ∷ ns)

-- the first two numbers are equal
abbrev pub alike : List ℕ → Bool
alike [] = false
alike (n ∷ []) = false
alike (n ∷ m ∷ ns) = eqb n m

abbrev pub rest : List ℕ → List ℕ
rest [] = []
rest (n ∷ ns) = ns

-- 1: "lent lengths don't belong together for one cell count from 1 to 65,535"
abbrev pub lengths : Reads → Call → Bool
lengths r c = not r.fit

-- 2: "a seat number is above 7"
abbrev pub seat_above : Reads → Call → Bool
seat_above r c = any (λ i. leb 8 i) (names c)

-- 3: "two seats are asked for and are equal"
abbrev pub seats_equal : Reads → Call → Bool
seats_equal r c = alike (names c)

-- 4: "a given value or bound is NaN or infinite"
abbrev pub not_finite : Reads → Call → Bool
not_finite r c = not (asks c).given

-- 5: "one-voxel calls: on the path walked, or among the free cells needed, ..; all other calls but preparing: the pool isn't sound"
abbrev pub unsound : Reads → Call → Bool
unsound r c = on_kind (not (r.path c)) (not r.sound) false (asks c).kind

-- 6: "sign or combination asked of a seat that isn't filled (its mark is anything but set)"
abbrev pub not_filled : Reads → Call → Bool
not_filled r c = (asks c).filled && any (λ i. not (r.filled i)) (names c)

-- 7: "fill of signs or combination where a branch has both masks empty"
abbrev pub hollow_branch : Reads → Call → Bool
hollow_branch r c = (asks c).solid && any r.hollow (names c)

-- 8: "copy onto a seat that isn't empty"
abbrev pub onto_full : Reads → Call → Bool
onto_full r c = (asks c).onto && any (λ i. not (r.empty i)) (rest (names c))

-- 9: "fewer free cells than needed"
abbrev pub too_few : Reads → Call → Bool
too_few r c = (asks c).takes && not (leb (r.need c) r.free)

abbrev pub Row : Type 0
Row = ℕ × (Reads → Call → Bool)

-- "Checked in this order"
abbrev pub order : List (ℕ × (Reads → Call → Bool))
order =
    (1, lengths) ∷ (2, seat_above) ∷ (3, seats_equal) ∷ (4, not_finite) ∷ (5, unsound) ∷ (6, not_filled) ∷ (7, hollow_branch) ∷ (8, onto_full) ∷ (9, too_few) ∷ []

-- the number of the first row whose test holds
abbrev pub first : List (ℕ × (Reads → Call → Bool)) → Reads → Call → Option ℕ
first [] r c = none
first (row ∷ rows) r c = cond (row.1 r c) (some row.0) (first rows r c)

abbrev pub refusal : Reads → Call → Option ℕ
refusal r c = first order r c
