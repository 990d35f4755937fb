-- What every call promises on any lent memory. The memory is abstract: `Memory` is what the pool has to give, and the laws that it has to meet. Assumes nothing.
use Rattle.std.specs.Prelude.{◌≡◌, Bool, true, false, ◌||◌, cond, List, [], ◌∷◌, ℕ, ◌<◌, ◌≤◌, eqb}
use Rattle.std.proofs.Math.Option.{Option, none, some}
use Rattle.grid.specs.Geometry.{Point}
use Rattle.grid.specs.Node.{Proper}
use Rattle.grid.specs.Voxel.{lookup, sign_at}
use Rattle.seats.specs.Call.{Lookup, Sign, Remove, Insert, Fill, Cut, Clear, Prune, Flip, FillSigns, IsEmpty}
use Rattle.seats.specs.Call.{Call, One, Two, Prepare, Count, names, Answer, refused, found, negative_is, empty_is, free_cells, done}
use Rattle.seats.specs.Refusal.{Reads, refusal}
use Rattle.seats.specs.Seat.{State, used, free}
use Rattle.seats.specs.Step.{reads_of, step}

-- i is one of the numbers
abbrev pub among : ℕ → List ℕ → Bool
among i [] = false
among i (n ∷ ns) = eqb i n || among i ns

-- the same is read by a call: of the seats that it names, and of the rest
pub record Agree (c : Call) (r r' : Reads) : Type 0 where
  pub fit : r.fit ≡ r'.fit
  pub path : r.path c ≡ r'.path c
  pub sound : r.sound ≡ r'.sound
  pub filled : (i : ℕ) → among i (names c) ≡ true → r.filled i ≡ r'.filled i
  pub hollow : (i : ℕ) → among i (names c) ≡ true → r.hollow i ≡ r'.hollow i
  pub empty : (i : ℕ) → among i (names c) ≡ true → r.empty i ≡ r'.empty i
  pub need : r.need c ≡ r'.need c
  pub free : r.free ≡ r'.free

-- give: an answer, memory the same; turn: an answer, memory changed; loose: accepted on an unsound pool
pub data Verdict : Type 0 where
  refuse : ℕ → Verdict
  give turn : Answer → Verdict
  loose : Verdict

abbrev pub Accepted : Answer → Type 0
Accepted (refused n) = ⊥
Accepted (found o) = Unit {0}
Accepted (negative_is k) = Unit {0}
Accepted (empty_is k) = Unit {0}
Accepted (free_cells k) = Unit {0}
Accepted done = Unit {0}

module _ (b : ℕ) (bs : List ℕ) where
  pub record Memory : Type 1 where
    pub Mem : Type 0
    -- the lent lengths, and the cells that they are for
    pub lens : Mem → List ℕ
    pub size : List ℕ → ℕ
    -- a sound pool, and the state that it stands for
    pub Sound : Mem → Type 0
    pub state : Mem → State b bs
    -- what the refusals read, and what a walk to a point finds, on any memory
    pub reads : Mem → Reads
    pub lookup_at : ℕ → Point → Mem → Option ℕ
    pub negative_at : ℕ → Point → Mem → Bool
    -- no slot has got a word that is not finite, and none that holds such a word has become active or a branch
    pub Unspoilt : Mem → Mem → Type 0
    -- the laws: what is tested is that the pool is sound; on a sound pool what is read is what the state has
    pub is_sound : (m : Mem) → (reads m).fit ≡ true → (reads m).sound ≡ true → Sound m
    pub reads_is : (m : Mem) → Sound m → (c : Call) → ((i : ℕ) → among i (names c) ≡ true → i < 8) → Agree c (reads m) (reads_of b bs (state m).seat (free b bs (state m)))
    pub lookup_is : (m : Mem) → Sound m → (i : ℕ) → i < 8 → (p : Point) → lookup_at i p m ≡ lookup (b ∷ bs) ((state m).seat i).grid p
    pub negative_is_lem : (m : Mem) → Sound m → (i : ℕ) → i < 8 → (p : Point) → negative_at i p m ≡ sign_at (b ∷ bs) ((state m).seat i).grid p
    pub proper_is : (m : Mem) → Sound m → (i : ℕ) → i < 8 → Proper (b ∷ bs) ((state m).seat i).grid
    pub all_is : (m : Mem) → (state m).all ≡ size (lens m)
    -- "Free cells plus cells reached equals all cells": with reads_is, of every sound pool
    pub within : (m : Mem) → Sound m → used b bs (state m).seat ≤ (state m).all

  module _ (𝓜 : Memory) where
    -- a call that is not refused
    abbrev pub grants : Call → 𝓜.Mem → Verdict
    grants (One i (Lookup p)) m = give (found (𝓜.lookup_at i p m))
    grants (One i (Sign p)) m = give (negative_is (𝓜.negative_at i p m))
    grants (One i (Remove p)) m = cond (𝓜.reads m).sound (turn done) loose
    grants (One i (Insert p v)) m = cond (𝓜.reads m).sound (turn done) loose
    grants (One i (Fill v)) m = turn done
    grants (One i (Cut t)) m = turn done
    grants (One i Clear) m = turn done
    grants (One i Prune) m = turn done
    grants (One i Flip) m = turn done
    grants (One i FillSigns) m = turn done
    grants (One i IsEmpty) m = give (empty_is ((𝓜.reads m).empty i))
    grants (Two x i j) m = turn done
    grants Prepare m = turn done
    grants Count m = give (free_cells (𝓜.reads m).free)

    abbrev pub refuse_or : Option ℕ → Verdict → Verdict
    refuse_or none v = v
    refuse_or (some n) v = refuse n

    abbrev pub verdict : Call → 𝓜.Mem → Verdict
    verdict c m = refuse_or (refusal (𝓜.reads m) c) (grants c m)

    -- the answer r and the memory m' after it are what the verdict on the call c and the memory m says
    abbrev pub Keeps : Verdict → Call → 𝓜.Mem → Answer → 𝓜.Mem → Type 0
    Keeps (refuse n) c m r m' = (r ≡ refused n) × (m' ≡ m)
    Keeps (give a) c m r m' = (r ≡ a) × (m' ≡ m)
    Keeps (turn a) c m r m' = (r ≡ a) × 𝓜.Sound m' × (𝓜.state m' ≡ (step b bs (𝓜.state m) c).1) × (𝓜.lens m' ≡ 𝓜.lens m) × 𝓜.Unspoilt m m'
    Keeps loose c m r m' = (r ≡ done) × (𝓜.lens m' ≡ 𝓜.lens m) × 𝓜.Unspoilt m m'

    abbrev pub Promise : Call → 𝓜.Mem → Answer → 𝓜.Mem → Type 0
    Promise c m r m' = Keeps (verdict c m) c m r m'

    -- two sound memories that stand for the same seats, in as many cells
    pub record OneState (m m' : 𝓜.Mem) : Type 0 where
      pub sound : 𝓜.Sound m
      pub sound' : 𝓜.Sound m'
      pub state : 𝓜.state m ≡ 𝓜.state m'

    -- the call c is accepted on m and leaves m'; and r is an answer to the call c on m
    abbrev pub Turns : Call → 𝓜.Mem → 𝓜.Mem → Type 0
    Turns c m m' = Promise c m done m'

    abbrev pub Answers : Call → 𝓜.Mem → Answer → Type 0
    Answers c m r = (m' : 𝓜.Mem) × Promise c m r m'

    -- r is the answer: there is no other
    abbrev pub OnlyAnswer : Call → 𝓜.Mem → Answer → Type 0
    OnlyAnswer c m r = Answers c m r × ((r' : Answer) → Answers c m r' → r' ≡ r)

    -- the free cells of m are counted as k
    abbrev pub Counts : 𝓜.Mem → ℕ → Type 0
    Counts m k = Answers Count m (free_cells k)

    -- every lookup in seat i' of m' is answered as in seat i of m
    abbrev pub LooksAlike : 𝓜.Mem → ℕ → 𝓜.Mem → ℕ → Type 0
    LooksAlike m i m' i' = (p : Point) (r r' : Answer) → Answers (One i (Lookup p)) m r → Answers (One i' (Lookup p)) m' r' → r' ≡ r

    -- seat i of m has no sign
    abbrev pub Unsigned : 𝓜.Mem → ℕ → Type 0
    Unsigned m i = (p : Point) (r : Answer) → Answers (One i (Sign p)) m r → r ≡ refused 6

    -- seat i of m answers as after Clear: no lookup shows anything, it is empty, and it has no sign
    abbrev pub Cleared : 𝓜.Mem → ℕ → Type 0
    Cleared m i =
        ((p : Point) (r : Answer) → Answers (One i (Lookup p)) m r → r ≡ found none) × ((r : Answer) → Answers (One i IsEmpty) m r → r ≡ empty_is true) × Unsigned m i

    -- ---- runs

    pub record Event : Type 0 where
      pub call : Call
      pub answer : Answer
      pub memory : 𝓜.Mem

    -- each call keeps its promise on the memory that the one before it left
    abbrev pub Chain : 𝓜.Mem → List Event → Type 0
    Chain m [] = Unit {0}
    Chain m (e ∷ es) = Promise e.call m e.answer e.memory × Chain e.memory es

    -- "a freshly prepared pool": memory for n cells, whatever it holds, is prepared, and then come the calls
    pub record Run (n : ℕ) (es : List Event) : Type 0 where
      pub lent : 𝓜.Mem
      pub ready : 𝓜.Mem
      pub cells : 𝓜.size (𝓜.lens lent) ≡ n
      pub prepares : Promise Prepare lent done ready
      pub chain : Chain ready es
