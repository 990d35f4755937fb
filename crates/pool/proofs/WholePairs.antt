-- The calls on two seats of lent memory, as later calls see them: what seats proves over any memory (PairRules), at this one. That a call was accepted is the only
-- premise, but of `copy_needs`, `combine_accepted` and `combine_never_9`, which say when it is. WholeSeats carries the theorems to what the calls for C answer.
-- Assumes nothing.
use mathlib.Core.Path.{◌≡◌}
use mathlib.Core.Bool.{Bool, true, false, not, ◌||◌, cond}
use mathlib.Core.List.{[], ◌∷◌}
use Prim.Native.Nat.{ℕ, ◌+◌, ◌<◌, ◌≤◌}
use lib.Dec.{leb}
use Rattle.grid.specs.Combine.{Operation, combined_sign, combine_s}
use Rattle.grid.specs.End.{end, shown, combined_end}
use Rattle.grid.specs.Geometry.{Point}
use Rattle.grid.specs.Voxel.{sign_at}
use Rattle.grid.specs.Whole.{is_empty, has_hollow}
use Rattle.seats.specs.Call.{Lookup, Sign, FillSigns, Copy, Combine, Call, One, Two, Answer, refused, found, negative_is, done}
use Rattle.seats.specs.Promise.{among, OnlyAnswer}
use Rattle.seats.specs.Seat.{marked, fresh, reached}
use Rattle.seats.proofs.PairRules as rule
use Rattle.means.specs.Mem.{Mem, SoundMem, seat_of}
use Rattle.voxels.specs.Lent.{lent}
use Rattle.pool.proofs.WholeSeats.{Done, Asked, Counted, Alike, Signless, Emptied}

-- r is the answer to the call c on m: there is no other
abbrev pub Replies : Call → Mem → Answer → Type 0
Replies c m r = OnlyAnswer 3 (2 ∷ 2 ∷ []) lent c m r

-- ---- copy seat i to seat j

-- the target's grid is the source's, slot by slot, hidden values too; and it is not marked
pub copy_target : (i j : ℕ) (m m' : Mem) → Done (Two Copy i j) m m' → ((seat_of m' j).grid ≡ (seat_of m i).grid) × ((seat_of m' j).filled ≡ false)
copy_target = rule.copy_target 3 (2 ∷ 2 ∷ []) lent

pub copy_unfilled : (i j : ℕ) (m m' : Mem) → Done (Two Copy i j) m m' → Signless m' j
copy_unfilled = rule.copy_unfilled 3 (2 ∷ 2 ∷ []) lent

-- the other seats, the source among them, are as before
pub copy_others : (i j : ℕ) (m m' : Mem) → Done (Two Copy i j) m m' → (a : ℕ) → (a ≡ j → ⊥) → seat_of m' a ≡ seat_of m a
copy_others = rule.copy_others 3 (2 ∷ 2 ∷ []) lent

-- a lookup in the target is answered as it was in the source
pub copy_lookup : (i j : ℕ) (m m' : Mem) → Done (Two Copy i j) m m' → Alike m i m' j
copy_lookup = rule.copy_lookup 3 (2 ∷ 2 ∷ []) lent

-- and in every other seat as before
pub copy_others_lookup : (i j : ℕ) (m m' : Mem) → Done (Two Copy i j) m m' → (a : ℕ) → (a ≡ j → ⊥) → Alike m a m' a
copy_others_lookup = rule.copy_others_lookup 3 (2 ∷ 2 ∷ []) lent

-- once both are filled, they have the same sign at every voxel
pub copy_sign : (i j : ℕ) (m m' : Mem) → Done (Two Copy i j) m m' → (m₂ m₃ : Mem) → Done (One i FillSigns) m' m₂ → Done (One j FillSigns) m₂ m₃
    → (p : Point) (r r' : Answer) → Asked (One i (Sign p)) m₃ r → Asked (One j (Sign p)) m₃ r' → r' ≡ r
copy_sign = rule.copy_sign 3 (2 ∷ 2 ∷ []) lent

-- it takes as many cells as the source reaches
pub copy_free : (i j : ℕ) (m m' : Mem) → Done (Two Copy i j) m m' → (k k' : ℕ) → Counted m k → Counted m' k' → k' + reached 3 (2 ∷ 2 ∷ []) (seat_of m i) ≡ k
copy_free = rule.copy_free 3 (2 ∷ 2 ∷ []) lent

-- on a sound pool, with two of the seats and an empty target: 9 exactly if fewer cells are free than the source reaches
pub copy_needs : (i j : ℕ) → i < 8 → j < 8 → (j ≡ i → ⊥) → (m : Mem) → SoundMem m → is_empty 3 (2 ∷ 2 ∷ []) (seat_of m j).grid ≡ true
    → (k : ℕ) → Counted m k → (r : Answer) → Asked (Two Copy i j) m r → r ≡ cond (leb (reached 3 (2 ∷ 2 ∷ []) (seat_of m i)) k) done (refused 9)
copy_needs = rule.copy_needs 3 (2 ∷ 2 ∷ []) lent

-- ---- combine seat i with seat j

-- on a sound pool, with two of the seats: 6 if one of them is not filled, else 7 if one has an empty branch, else it is accepted
pub combine_accepted : (o : Operation) (i j : ℕ) → i < 8 → j < 8 → (j ≡ i → ⊥) → (m : Mem) → SoundMem m → (r : Answer) → Asked (Two (Combine o) i j) m r
    → r ≡ cond (not (seat_of m i).filled || not (seat_of m j).filled) (refused 6)
    (cond (has_hollow 3 (2 ∷ 2 ∷ []) (seat_of m i).grid || has_hollow 3 (2 ∷ 2 ∷ []) (seat_of m j).grid) (refused 7) done)
combine_accepted = rule.combine_accepted 3 (2 ∷ 2 ∷ []) lent

-- on any memory and for any two numbers: it is refused with 1, 2, 3, 5, 6 or 7 alone, never with 9
pub combine_never_9 : (o : Operation) (i j : ℕ) (m : Mem) (n : ℕ) → Asked (Two (Combine o) i j) m (refused n) → among n (1 ∷ 2 ∷ 3 ∷ 5 ∷ 6 ∷ 7 ∷ []) ≡ true
combine_never_9 = rule.combine_never_9 3 (2 ∷ 2 ∷ []) lent

-- the first seat is marked and is, slot by slot, the two combined; the second is as in a prepared pool
pub combine_seats : (o : Operation) (i j : ℕ) (m m' : Mem) → Done (Two (Combine o) i j) m m'
    → (seat_of m' i ≡ marked 3 (2 ∷ 2 ∷ []) (λ n. combine_s o (2 ∷ 2 ∷ []) ((seat_of m i).grid n) ((seat_of m j).grid n))) × (seat_of m' j ≡ fresh 3 (2 ∷ 2 ∷ []))
combine_seats = rule.combine_seats 3 (2 ∷ 2 ∷ []) lent

-- every other seat is as before, and so are the lookups in it
pub combine_others : (o : Operation) (i j : ℕ) (m m' : Mem) → Done (Two (Combine o) i j) m m' → (a : ℕ) → (a ≡ i → ⊥) → (a ≡ j → ⊥) → seat_of m' a ≡ seat_of m a
combine_others = rule.combine_others 3 (2 ∷ 2 ∷ []) lent

pub combine_others_lookup : (o : Operation) (i j : ℕ) (m m' : Mem) → Done (Two (Combine o) i j) m m' → (a : ℕ) → (a ≡ i → ⊥) → (a ≡ j → ⊥) → Alike m a m' a
combine_others_lookup = rule.combine_others_lookup 3 (2 ∷ 2 ∷ []) lent

-- both seats had a sign at every voxel
pub combine_signs_asked : (o : Operation) (i j : ℕ) (m m' : Mem) → Done (Two (Combine o) i j) m m' → (p : Point)
    → Replies (One i (Sign p)) m (negative_is (sign_at (3 ∷ 2 ∷ 2 ∷ []) (seat_of m i).grid p)) × Replies (One j (Sign p)) m (negative_is (sign_at (3 ∷ 2 ∷ 2 ∷ []) (seat_of m j).grid p))
combine_signs_asked = rule.combine_signs_asked 3 (2 ∷ 2 ∷ []) lent

-- demand 2: the combined sign at every voxel is negative exactly if: either was (union); both were (intersection); the first was and the second was not (subtraction)
pub combine_sign : (o : Operation) (i j : ℕ) (m m' : Mem) → Done (Two (Combine o) i j) m m' → (p : Point) (x y : Bool)
    → Asked (One i (Sign p)) m (negative_is x) → Asked (One j (Sign p)) m (negative_is y) → Replies (One i (Sign p)) m' (negative_is (combined_sign o x y))
combine_sign = rule.combine_sign 3 (2 ∷ 2 ∷ []) lent

-- what is shown at every point, from where the walks to it ended in the two seats
pub combine_lookup : (o : Operation) (i j : ℕ) (m m' : Mem) → Done (Two (Combine o) i j) m m' → (p : Point) (r : Answer) → Asked (One i (Lookup p)) m' r
    → r ≡ found (shown (combined_end o (end (3 ∷ 2 ∷ 2 ∷ []) (seat_of m i).grid p) (end (3 ∷ 2 ∷ 2 ∷ []) (seat_of m j).grid p)))
combine_lookup = rule.combine_lookup 3 (2 ∷ 2 ∷ []) lent

-- the second seat: no lookup shows anything, it is empty, and it has no sign
pub combine_clear : (o : Operation) (i j : ℕ) (m m' : Mem) → Done (Two (Combine o) i j) m m' → Emptied m' j
combine_clear = rule.combine_clear 3 (2 ∷ 2 ∷ []) lent

-- so the same again is refused with 6
pub combine_again : (o : Operation) (i j : ℕ) (m m' : Mem) → Done (Two (Combine o) i j) m m' → (o' : Operation) (r : Answer) → Asked (Two (Combine o') i j) m' r → r ≡ refused 6
combine_again = rule.combine_again 3 (2 ∷ 2 ∷ []) lent

-- what the two seats reached, and the first does not reach now, is free again
pub combine_free : (o : Operation) (i j : ℕ) (m m' : Mem) → Done (Two (Combine o) i j) m m' → (k k' : ℕ) → Counted m k → Counted m' k'
    → k' + reached 3 (2 ∷ 2 ∷ []) (seat_of m' i) ≡ k + reached 3 (2 ∷ 2 ∷ []) (seat_of m i) + reached 3 (2 ∷ 2 ∷ []) (seat_of m j)
combine_free = rule.combine_free 3 (2 ∷ 2 ∷ []) lent

-- no cell is needed
pub combine_no_cell : (o : Operation) (i j : ℕ) (m m' : Mem) → Done (Two (Combine o) i j) m m' → (k k' : ℕ) → Counted m k → Counted m' k' → k ≤ k'
combine_no_cell = rule.combine_no_cell 3 (2 ∷ 2 ∷ []) lent
