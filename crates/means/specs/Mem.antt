-- Lent memory, what is read of it, and the eight seats that it stands for. Assumes nothing.
use Rattle.std.specs.Prelude.{◌≡◌, Bool, true, false, ◌&&◌, ◌||◌, cond, List, [], ◌∷◌, ℕ, ◌-◌, ◌/◌, length, ltb, leb, eqb}
use Rattle.std.proofs.Math.Option.{Option}
use Rattle.bitset.specs.Set.{every}
use Rattle.grid.specs.Geometry.{Point}
use Rattle.grid.specs.Whole.{has_hollow, is_empty}
use Rattle.seats.specs.Call.{Call, One, Two, Prepare, Count, Lookup, Sign, Remove, Insert, Fill, Cut, Clear, Prune, Flip, FillSigns, IsEmpty, Copy, Combine}
use Rattle.seats.specs.Refusal.{Reads}
use Rattle.seats.specs.Seat.{Seat, State, fresh, reached}
use Rattle.nodes.specs.State as state
use Rattle.nodes.specs.State.{St, tree}
use Rattle.nodes.specs.Layout.{st, tops, slots_length, masks_length, book_length}
use Rattle.nodes.specs.Walk.{Reach, active, hidden, broken, reach_s, need_insert_r, need_remove_r}
use Rattle.nodes.specs.Test.{sound_b}
use Rattle.means.specs.Ends.{shown, signed}
use Rattle.means.specs.Unspoilt.{Unspoilt}

-- the three lent slices
pub record Mem : Type 0 where
  pub slots : List ℕ
  pub masks : List ℕ
  pub book : List ℕ

abbrev pub lens_of : Mem → List ℕ
lens_of m = length m.slots ∷ length m.masks ∷ length m.book ∷ []

-- the cells that so many slots are for
abbrev pub size_of : List ℕ → ℕ
size_of [] = 0
size_of (n ∷ ns) = (n - tops) / 64

abbrev pub cells_of : Mem → ℕ
cells_of m = (length m.slots - tops) / 64

-- refusal 1: the "lent lengths .. belong together for one cell count from 1 to 65,535"
unfoldable pub fits : Mem → Bool
fits m =
    let n = cells_of m in
    ltb 0 n
    && (ltb n 65536 && (eqb (length m.slots) (slots_length n) && (eqb (length m.masks) (masks_length n) && eqb (length m.book) (book_length n))))

-- the pool that it holds
unfoldable pub pool_of : Mem → St
pool_of m = st (cells_of m) m.slots m.masks m.book

-- a sound pool
abbrev pub SoundMem : Mem → Type 0
SoundMem m = (fits m ≡ true) × state.Sound (cells_of m) (pool_of m)

-- the seats: a mark of 1 is set, and any other is not
unfoldable pub seat_of : Mem → ℕ → Seat 3 (2 ∷ 2 ∷ [])
seat_of m t = cond (ltb t 8) (record { grid = tree 3 (2 ∷ 2 ∷ []) (pool_of m) t; filled = eqb ((pool_of m).mark t) 1 }) (fresh 3 (2 ∷ 2 ∷ []))

abbrev pub state_of : Mem → State 3 (2 ∷ 2 ∷ [])
state_of m = record { seat = seat_of m; all = cells_of m }

-- ---- what the refusals read

-- where the walk to the point p in seat i ends
unfoldable pub walk : Mem → ℕ → Point → Reach
walk m i p = reach_s 3 (2 ∷ 2 ∷ []) (cells_of m) (pool_of m) i p

abbrev pub whole : Reach → Bool
whole (active l w) = true
whole (hidden l w) = true
whole broken = false

-- "among the free cells needed, a link leaves the pool": of as many links as are needed and recorded. With a count above the cells the first place lies outside
unfoldable pub linked : ℕ → St → ℕ → Bool
linked n s need = eqb need 0 || (leb s.count n && every (λ j. leb s.count j || ltb (s.stack (s.count - 1 - j)) n) need)

abbrev pub path_of : Mem → Call → Bool
path_of m (One i (Lookup p)) = whole (walk m i p)
path_of m (One i (Sign p)) = whole (walk m i p)
path_of m (One i (Remove p)) = whole (walk m i p) && linked (cells_of m) (pool_of m) (need_remove_r (walk m i p))
path_of m (One i (Insert p w)) = whole (walk m i p) && linked (cells_of m) (pool_of m) (need_insert_r (walk m i p) w)
path_of m (One i (Fill v)) = true
path_of m (One i (Cut t)) = true
path_of m (One i Clear) = true
path_of m (One i Prune) = true
path_of m (One i Flip) = true
path_of m (One i FillSigns) = true
path_of m (One i IsEmpty) = true
path_of m (Two x i j) = true
path_of m Prepare = true
path_of m Count = true

-- the cells that a call needs: of an insert or a remove as its path says
abbrev pub need_in : Mem → Call → ℕ
need_in m (One i (Lookup p)) = 0
need_in m (One i (Sign p)) = 0
need_in m (One i (Remove p)) = need_remove_r (walk m i p)
need_in m (One i (Insert p w)) = need_insert_r (walk m i p) w
need_in m (One i (Fill v)) = 0
need_in m (One i (Cut t)) = 0
need_in m (One i Clear) = 0
need_in m (One i Prune) = 0
need_in m (One i Flip) = 0
need_in m (One i FillSigns) = 0
need_in m (One i IsEmpty) = 0
need_in m (Two Copy i j) = reached 3 (2 ∷ 2 ∷ []) (seat_of m i)
need_in m (Two (Combine o) i j) = 0
need_in m Prepare = 0
need_in m Count = 0

abbrev pub reads_in : Mem → Reads
reads_in m =
    record {
      fit = fits m;
      path = path_of m;
      sound = sound_b (cells_of m) (pool_of m);
      filled = λ i. eqb ((pool_of m).mark i) 1;
      hollow = λ i. has_hollow 3 (2 ∷ 2 ∷ []) (seat_of m i).grid;
      empty = λ i. is_empty 3 (2 ∷ 2 ∷ []) (seat_of m i).grid;
      need = need_in m;
      free = (pool_of m).count;
    }

-- what a lookup and a sign find
abbrev pub lookup_in : ℕ → Point → Mem → Option ℕ
lookup_in i p m = shown (walk m i p)

abbrev pub negative_in : ℕ → Point → Mem → Bool
negative_in i p m = signed (walk m i p)

-- from m to m' no slot is spoilt
abbrev pub UnspoiltMem : Mem → Mem → Type 0
UnspoiltMem m m' = Unspoilt (pool_of m) (pool_of m')
