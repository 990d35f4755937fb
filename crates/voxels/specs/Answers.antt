-- What the calls answer: for each case of an answer of document 01 the result, with its refusal or its value. Assumes nothing.
use Rattle.std.specs.Prelude.{◌≡◌, Bool, false, cond, List, [], ◌∷◌, ℕ, ◌<◌, leb, Float, Result, Ok, Err, Option as Maybe, Some, None, IfSome, get_or}
use Rattle.std.proofs.Math.Option.{Option, none, some}
use Rattle.floats.specs.Value.{value, is_finite, negative}
use Rattle.seats.specs.Call.{Call, Answer, refused, found, negative_is, empty_is, free_cells, done}
use Rattle.seats.specs.Promise.{Promise}
use Rattle.nodes.specs.State.{St}
use Rattle.grid.specs.Geometry.{Point}
use Rattle.nodes.specs.Walk.{Reach, active, hidden, broken, reach_s, need_insert_r, need_remove_r}
use Rattle.nodes.specs.Layout.{slots_length}
use Rattle.nodes.specs.Place.{place_s, told_end}
use Rattle.nodes.specs.declared.seek.End.{End}
use Rattle.means.specs.Mem.{Mem, fits, cells_of, linked}
use Rattle.voxels.specs.Lent.{lent}
use Rattle.voxels.specs.declared.refusal.Refusal.{Refusal}
use Rattle.voxels.specs.declared.refusal.Refusal.TheVariants.{Lengths, Seat, Damaged, Unfilled, NoCells}
use Rattle.voxels.specs.Refused.{number_of, refusal_at}

abbrev pub mem_of : List ℕ → List ℕ → List ℕ → Mem
mem_of slots masks book = record { slots = slots; masks = masks; book = book }

-- r is the form f of an answer that the promise of the call c allows
abbrev pub Says : {R : Type 0} → (Answer → R) → Call → Mem → R → Mem → Type 0
Says f c m r m' = (a : Answer) × (r ≡ f a) × Promise 3 (2 ∷ 2 ∷ []) lent c m a m'

-- the number of the refusal; where it is none, the other
abbrev pub or_else : Result Unit Refusal → Option ℕ → Option ℕ
or_else (Ok u) o = o
or_else (Err e) o = some (number_of e)

abbrev pub or_none : Result Unit Refusal → Option ℕ
or_none r = or_else r none

-- a lookup: the value as a float, nothing, or a refusal; no other answer occurs
abbrev pub found_of : Answer → Result (Maybe Float) Refusal
found_of (refused n) = Err (refusal_at n)
found_of (found none) = Ok None
found_of (found (some w)) = Ok (Some (value w))
found_of (negative_is k) = Ok None
found_of (empty_is k) = Ok None
found_of (free_cells k) = Ok None
found_of done = Ok None

-- a call that is done or refused
abbrev pub done_of : Answer → Result Unit Refusal
done_of (refused n) = Err (refusal_at n)
done_of (found o) = Ok tt
done_of (negative_is k) = Ok tt
done_of (empty_is k) = Ok tt
done_of (free_cells k) = Ok tt
done_of done = Ok tt

-- done is 0, and a refusal its number
abbrev pub code_of : Answer → ℕ
code_of (refused n) = n
code_of (found o) = 0
code_of (negative_is k) = 0
code_of (empty_is k) = 0
code_of (free_cells k) = 0
code_of done = 0

-- e is the end of the walk to the point p of seat i
abbrev pub EndsAt : ℕ → St → ℕ → Point → Maybe End → Type 0
EndsAt n s i p e = (i < 8) × (e ≡ told_end (place_s 3 (2 ∷ 2 ∷ []) n s i p))

-- its place is one of a pool of n cells
abbrev pub InPool : ℕ → Maybe End → Type 0
InPool n e = IfSome e (λ e. e.place < slots_length n)

-- an end and the word there: the path is broken, too, where that is not finite
abbrev pub reached_r : List ℕ → Maybe End → Result (End × ℕ) Refusal
reached_r slots None = Err Damaged
reached_r slots (Some e) = let w = get_or slots e.place 0 in cond (is_finite w) (Ok (e, w)) (Err Damaged)

-- where a walk ended, as a lookup answers it
abbrev pub shown_r : Reach → Result (Maybe Float) Refusal
shown_r (active l w) = Ok (Some (value w))
shown_r (hidden l w) = Ok None
shown_r broken = Err Damaged

-- the cells of the memory, where its lengths belong together and there is such a seat
abbrev pub admitted_s : Mem → ℕ → Result ℕ Refusal
admitted_s m i = cond (fits m) (cond (leb 8 i) (Err Seat) (Ok (cells_of m))) (Err Lengths)

-- whether a call on one voxel that needs so many cells is refused at its end: 5 where the path is broken or a link among the free cells needed leaves the pool, then 9
abbrev pub afford_s : ℕ → St → ℕ → Result Unit Refusal
afford_s n s need = cond (linked n s need) (cond (leb need s.count) (Ok tt) (Err NoCells)) (Err Damaged)

abbrev pub blocked_r : ℕ → St → Reach → ℕ → Result Unit Refusal
blocked_r n s (active l w) need = afford_s n s need
blocked_r n s (hidden l w) need = afford_s n s need
blocked_r n s broken need = Err Damaged

-- of an insert of the word w at the point p of seat i, and of a remove
abbrev pub insert_blocked : ℕ → St → Point → ℕ → ℕ → Result Unit Refusal
insert_blocked n s p w i = let q = reach_s 3 (2 ∷ 2 ∷ []) n s i p in blocked_r n s q (need_insert_r q w)

abbrev pub remove_blocked : ℕ → St → Point → ℕ → Result Unit Refusal
remove_blocked n s p i = let q = reach_s 3 (2 ∷ 2 ∷ []) n s i p in blocked_r n s q (need_remove_r q)

-- a question about a seat, its sign at a point or whether it is empty: yes or no, or a refusal; no other answer occurs
abbrev pub whether_of : Answer → Result Bool Refusal
whether_of (refused n) = Err (refusal_at n)
whether_of (found o) = Ok false
whether_of (negative_is k) = Ok k
whether_of (empty_is k) = Ok k
whether_of (free_cells k) = Ok false
whether_of done = Ok false

-- the sign at the end of a walk, in a seat that is filled or not
abbrev pub signed_r : Reach → Bool → Result Bool Refusal
signed_r (active l w) filled = cond filled (Ok (negative w)) (Err Unfilled)
signed_r (hidden l w) filled = cond filled (Ok (negative w)) (Err Unfilled)
signed_r broken filled = Err Damaged
