-- 'Rules of the calls': what a call answers on a sound pool, and the seats after it. Assumes nothing.
use Rattle.std.specs.Prelude.{true, List, ◌∷◌, ℕ}
use Rattle.std.proofs.Math.Option.{Option, none, some}
use Rattle.floats.specs.Test.{passes}
use Rattle.grid.specs.Combine.{combine_s}
use Rattle.grid.specs.Geometry.{slot_of}
use Rattle.grid.specs.Node.{put}
use Rattle.grid.specs.SignFill.{fill_signs}
use Rattle.grid.specs.Voxel.{lookup, sign_at, insert, remove, need_insert_s, need_remove_s}
use Rattle.grid.specs.Whole.{fill, prune_s, cut_s, flip, is_empty, has_hollow}
use Rattle.seats.specs.Call.{Act, Lookup, Sign, Remove, Insert, Fill, Cut, Clear, Prune, Flip, FillSigns, IsEmpty, Pair, Copy, Combine}
use Rattle.seats.specs.Call.{Call, One, Two, Prepare, Count, Answer, refused, found, negative_is, empty_is, free_cells, done}
use Rattle.seats.specs.Refusal.{Reads, refusal}
use Rattle.seats.specs.Seat.{Seat, State, unmarked, marked, fresh, reached, free}

module _ (b : ℕ) (bs : List ℕ) where
  -- a call on one seat that is not refused. "Sign fill marks the seat filled. Accepted .. insert, remove, cut, prune, fill with a value, clear .. unmark it";
  -- flip "keeps the filled mark"
  unfoldable pub act : Act → Seat b bs → Answer × Seat b bs
  act (Lookup p) s = (found (lookup (b ∷ bs) s.grid p), s)
  act (Sign p) s = (negative_is (sign_at (b ∷ bs) s.grid p), s)
  act (Remove p) s = (done, unmarked b bs (remove (b ∷ bs) p s.grid))
  act (Insert p v) s = (done, unmarked b bs (insert (b ∷ bs) p v s.grid))
  act (Fill v) s = (done, unmarked b bs (fill b bs v))
  act (Cut t) s = (done, unmarked b bs (λ i. cut_s (passes t) bs (s.grid i)))
  act Clear s = (done, fresh b bs)
  act Prune s = (done, unmarked b bs (λ i. prune_s bs (s.grid i)))
  act Flip s = (done, record { grid = flip (b ∷ bs) s.grid; filled = s.filled })
  act FillSigns s = (done, marked b bs (fill_signs (b ∷ bs) s.grid))
  act IsEmpty s = (empty_is (is_empty b bs s.grid), s)

  -- a call on two seats that is not refused. "Copy carries hidden values too" and unmarks its target; combining: "seat a stays filled; b ends as after Clear"
  unfoldable pub both : Pair → Seat b bs → Seat b bs → Answer × Seat b bs × Seat b bs
  both Copy s t = (done, s, unmarked b bs s.grid)
  both (Combine o) s t = (done, marked b bs (λ i. combine_s o bs (s.grid i) (t.grid i)), fresh b bs)

  -- the cells that a call on one seat needs
  unfoldable pub need_one : Act → Seat b bs → ℕ
  need_one (Lookup p) s = 0
  need_one (Sign p) s = 0
  need_one (Remove p) s = need_remove_s bs p (s.grid (slot_of b bs p))
  need_one (Insert p v) s = need_insert_s bs p v (s.grid (slot_of b bs p))
  need_one (Fill v) s = 0
  need_one (Cut t) s = 0
  need_one Clear s = 0
  need_one Prune s = 0
  need_one Flip s = 0
  need_one FillSigns s = 0
  need_one IsEmpty s = 0

  -- "Copy .. needs as many cells as the first seat reaches"; combining: "No cell is needed"
  unfoldable pub need_two : Pair → Seat b bs → ℕ
  need_two Copy s = reached b bs s
  need_two (Combine o) s = 0

  abbrev pub need_of : Call → (ℕ → Seat b bs) → ℕ
  need_of (One i x) f = need_one x (f i)
  need_of (Two x i j) f = need_two x (f i)
  need_of Prepare f = 0
  need_of Count f = 0

  -- what the refusals read of a sound pool: its seats, and k free cells
  abbrev pub reads_of : (ℕ → Seat b bs) → ℕ → Reads
  reads_of f k =
      record {
        fit = true;
        path = λ c. true;
        sound = true;
        filled = λ i. (f i).filled;
        hollow = λ i. has_hollow b bs (f i).grid;
        empty = λ i. is_empty b bs (f i).grid;
        need = λ c. need_of c f;
        free = k;
      }

  -- a call that is not refused, on the seats f with k free cells
  unfoldable pub served : Call → (ℕ → Seat b bs) → ℕ → Answer × (ℕ → Seat b bs)
  served (One i x) f k = let o = act x (f i) in (o.0, put f i o.1)
  served (Two x i j) f k = let o = both x (f i) (f j) in (o.0, put (put f i o.1) j o.2)
  served Prepare f k = (done, λ i. fresh b bs)
  served Count f k = (free_cells k, f)

  -- "Each returns its number alone and leaves all lent memory unchanged"
  abbrev pub unless : Option ℕ → (ℕ → Seat b bs) → Answer × (ℕ → Seat b bs) → Answer × (ℕ → Seat b bs)
  unless none f o = o
  unless (some n) f o = (refused n, f)

  -- a call on the seats f that may take k cells
  unfoldable pub play : Call → (ℕ → Seat b bs) → ℕ → Answer × (ℕ → Seat b bs)
  play c f k = unless (refusal (reads_of f k) c) f (served c f k)

  -- every call may take what is free
  unfoldable pub step : State b bs → Call → Answer × State b bs
  step st c = let o = play c st.seat (free b bs st) in (o.0, record { seat = o.1; all = st.all })
