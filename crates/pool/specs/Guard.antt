-- The refusals of a call on the whole pool: those that its arguments give, the tests before and after them, and the rest. Assumes nothing.
use Rattle.std.specs.Prelude.{◌≡◌, Bool, cond, ◌&&◌, ◌||◌, [], ◌∷◌, ℕ, leb, eqb, Result, Ok, Err, MatchResult}
use Rattle.std.specs.Result.{result_and}
use Rattle.std.proofs.Math.Option.{Option, none, some}
use Rattle.grid.specs.Whole.{is_empty}
use Rattle.seats.specs.Call.{Call, names, asks}
use Rattle.seats.specs.Refusal.{Reads, any, alike, not_filled, hollow_branch, onto_full, too_few, first, refusal}
use Rattle.nodes.specs.State.{St, tree}
use Rattle.nodes.specs.Test.{sound_b}
use Rattle.trees.specs.Below.{hollow_m, reached_m}
use Rattle.means.specs.Mem.{Mem, cells_of, fits, pool_of, reads_in}
use Rattle.voxels.specs.declared.refusal.Refusal.{Refusal}
use Rattle.voxels.specs.declared.refusal.Refusal.TheVariants.{Lengths, Seat, SameSeat, Value, Damaged, Unfilled, EmptyBranch, Occupied, NoCells}
use Rattle.voxels.specs.Refused.{number_of}

-- 2, 3 and 4: what the call was given
abbrev pub given_of : Call → Result Unit Refusal
given_of c = cond (any (λ i. leb 8 i) (names c)) (Err Seat) (cond (alike (names c)) (Err SameSeat) (cond (asks c).given (Ok tt) (Err Value)))

-- the same of seat i alone, where f tells of the values, and of seats i and j
abbrev pub one_given : ℕ → Bool → Result Unit Refusal
one_given i f = cond (leb 8 i) (Err Seat) (cond f (Ok tt) (Err Value))

abbrev pub two_given : ℕ → ℕ → Result Unit Refusal
two_given i j = cond (leb 8 i || leb 8 j) (Err Seat) (cond (eqb i j) (Err SameSeat) (Ok tt))

-- 1 to 5 of a call on the whole pool, of which `given` are 2 to 4
unfoldable pub guard_of : Mem → Result Unit Refusal → Result Unit Refusal
guard_of m given = cond (fits m) (result_and given (cond (sound_b (cells_of m) (pool_of m)) (Ok tt) (Err Damaged))) (Err Lengths)

-- 6 to 9
abbrev pub later_of : Reads → Call → Option ℕ
later_of = first ((6, not_filled) ∷ (7, hollow_branch) ∷ (8, onto_full) ∷ (9, too_few) ∷ [])

-- r is what the tests up to 5 refuse, and r is what refuses the call c; where nothing does, r is the number of cells
abbrev pub Guarded : Mem → Result Unit Refusal → Result ℕ Refusal → Type 0
Guarded m given r = MatchResult r (λ n. (guard_of m given ≡ Ok tt) × (n ≡ cells_of m)) (λ e. guard_of m given ≡ Err e)

abbrev pub Admitted : Call → Mem → Result ℕ Refusal → Type 0
Admitted c m r = MatchResult r (λ n. (refusal (reads_in m) c ≡ none) × (n ≡ cells_of m)) (λ e. refusal (reads_in m) c ≡ some (number_of e))

-- 7 of seat i, and 8 and 9 of a copy of seat i onto seat j, as they are found in a pool of n cells
abbrev pub solid_of : ℕ → St → ℕ → Result Unit Refusal
solid_of n s i = cond (hollow_m 3 (2 ∷ 2 ∷ []) n s i) (Err EmptyBranch) (Ok tt)

abbrev pub room_of : ℕ → St → ℕ → ℕ → Result Unit Refusal
room_of n s i j = cond (is_empty 3 (2 ∷ 2 ∷ []) (tree 3 (2 ∷ 2 ∷ []) s j)) (cond (leb (reached_m 3 (2 ∷ 2 ∷ []) n s i) s.count) (Ok tt) (Err NoCells)) (Err Occupied)

-- 6 and 7 of a combination of seats i and j
abbrev pub filled_of : ℕ → St → ℕ → ℕ → Result Unit Refusal
filled_of n s i j =
    cond (eqb (s.mark i) 1 && eqb (s.mark j) 1)
    (cond (hollow_m 3 (2 ∷ 2 ∷ []) n s i || hollow_m 3 (2 ∷ 2 ∷ []) n s j) (Err EmptyBranch) (Ok tt)) (Err Unfilled)
