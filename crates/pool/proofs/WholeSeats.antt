-- The calls on one whole seat of lent memory, as later calls see them: what seats proves over any memory (SeatRules), at this one. That a call was accepted is the only
-- premise, but of `others_stay` and `others_lookup`, which are of any call on a sound pool; `zero_accepts` and `said_same` carry the theorems to what the calls for C
-- answer. Assumes nothing.
use mathlib.Core.Path.{◌≡◌, refl, sym, ◌∙◌, ap, subst}
use mathlib.Core.Bool.{true, false}
use mathlib.Core.List.{[], ◌∷◌}
use mathlib.Core.Option.{Option, none, some}
use Prim.Native.Nat.{ℕ, ◌+◌, ◌<◌}
use native.Mathlib.Omega.{arith}
use Rattle.floats.specs.Test.{passes}
use Rattle.floats.specs.Value.{negative, negated}
use Rattle.floats.specs.declared.Test.{Test}
use Rattle.grid.specs.Geometry.{Point}
use Rattle.grid.specs.SignFill.{fill_signs}
use Rattle.grid.specs.Voxel.{sign_at}
use Rattle.grid.specs.Whole.{has_hollow}
use Rattle.grid.proofs.Whole.{through, uncut}
use Rattle.seats.specs.Call.{Lookup, Sign, Fill, Cut, Clear, Prune, Flip, FillSigns, IsEmpty, Call, One, names, Answer, found, negative_is, done}
use Rattle.seats.specs.Promise.{among, Verdict, turn, grants, refuse_or, Keeps, Promise, Turns, Answers, Counts, LooksAlike, Unsigned, Cleared}
use Rattle.seats.specs.Refusal.{refusal}
use Rattle.seats.specs.Seat.{fresh, reached}
use Rattle.seats.proofs.Refusal.{refusal_number}
use Rattle.seats.proofs.SeatRules as rule
use Rattle.seats.proofs.SeatRules.{contrary}
use Rattle.means.specs.Mem.{Mem, SoundMem, seat_of, state_of, reads_in}
use Rattle.voxels.specs.Answers.{Says, code_of}
use Rattle.voxels.specs.Lent.{lent}

-- the call c is accepted on m and leaves m'; r is an answer to it; k free cells are counted; lookups in seat i' of m' are answered as in seat i of m; seat i has no
-- sign; it answers as after Clear
abbrev pub Done : Call → Mem → Mem → Type 0
Done c m m' = Turns 3 (2 ∷ 2 ∷ []) lent c m m'

abbrev pub Asked : Call → Mem → Answer → Type 0
Asked c m r = Answers 3 (2 ∷ 2 ∷ []) lent c m r

abbrev pub Counted : Mem → ℕ → Type 0
Counted m k = Counts 3 (2 ∷ 2 ∷ []) lent m k

abbrev pub Alike : Mem → ℕ → Mem → ℕ → Type 0
Alike m i m' i' = LooksAlike 3 (2 ∷ 2 ∷ []) lent m i m' i'

abbrev pub Signless : Mem → ℕ → Type 0
Signless m i = Unsigned 3 (2 ∷ 2 ∷ []) lent m i

abbrev pub Emptied : Mem → ℕ → Type 0
Emptied m i = Cleared 3 (2 ∷ 2 ∷ []) lent m i

-- ---- from what is answered in C

-- a call that changes seats and answers 0 was accepted
pub zero_accepts : (c : Call) (m m' : Mem) → grants 3 (2 ∷ 2 ∷ []) lent c m ≡ turn done → Says code_of c m 0 m' → Done c m m'
zero_accepts c m m' g (a, e, h) = subst (λ r. Promise 3 (2 ∷ 2 ∷ []) lent c m r m') (go (refusal (reads_in m) c) (refusal_number (reads_in m) c) h) h
  where
    above : (n : ℕ) → 0 < n → 0 ≡ n → ⊥
    above n l e = omega arith

    go : (o : Option ℕ) → ((n : ℕ) → o ≡ some n → 0 < n) → Keeps 3 (2 ∷ 2 ∷ []) lent (refuse_or 3 (2 ∷ 2 ∷ []) lent o (grants 3 (2 ∷ 2 ∷ []) lent c m)) c m a m' → a ≡ done
    go none l k = (subst (λ (v : Verdict). Keeps 3 (2 ∷ 2 ∷ []) lent v c m a m') g k).0
    go (some n) l k = absurd (above n (l n refl) (e ∙ ap code_of k.0))

-- answers that are the same are the same in C
pub said_same : {R : Type 0} (f : Answer → R) (c c' : Call) (m m' n n' : Mem) (r r' : R) → ((a a' : Answer) → Asked c m a → Asked c' m' a' → a' ≡ a)
    → Says f c m r n → Says f c' m' r' n' → r' ≡ r
said_same f c c' m m' n n' r r' h (a, e, k) (a', e', k') = e' ∙ ap f (h a a' (n, k) (n', k')) ∙ sym e

-- ---- any call on a sound pool: a seat that it does not name is as before, and so are the lookups in it

pub others_stay : (c : Call) (m m' : Mem) (r : Answer) → SoundMem m → Promise 3 (2 ∷ 2 ∷ []) lent c m r m' → (a : ℕ) → a < 8 → among a (names c) ≡ false → seat_of m' a ≡ seat_of m a
others_stay = rule.others_stay 3 (2 ∷ 2 ∷ []) lent

pub others_lookup : (c : Call) (m m' : Mem) (r : Answer) → SoundMem m → Promise 3 (2 ∷ 2 ∷ []) lent c m r m' → (a : ℕ) → among a (names c) ≡ false → Alike m a m' a
others_lookup = rule.others_lookup 3 (2 ∷ 2 ∷ []) lent

-- ---- sign fill

-- every lookup in every seat is answered as before
pub fill_signs_lookup : (i : ℕ) (m m' : Mem) → Done (One i FillSigns) m m' → (a : ℕ) → Alike m a m' a
fill_signs_lookup = rule.fill_signs_lookup 3 (2 ∷ 2 ∷ []) lent

-- the mark is set, and every voxel has a sign: asking for it is not refused
pub fill_signs_sign : (i : ℕ) (m m' : Mem) → Done (One i FillSigns) m m' → ((seat_of m' i).filled ≡ true)
    × ((p : Point) (r : Answer) → Asked (One i (Sign p)) m' r → r ≡ negative_is (sign_at (3 ∷ 2 ∷ 2 ∷ []) (fill_signs (3 ∷ 2 ∷ 2 ∷ []) (seat_of m i).grid) p))
fill_signs_sign = rule.fill_signs_sign 3 (2 ∷ 2 ∷ []) lent

-- where a lookup shows a value, the sign is the value's
pub fill_signs_active : (i : ℕ) (m m' : Mem) → Done (One i FillSigns) m m' → (p : Point) (v : ℕ) → Asked (One i (Lookup p)) m (found (some v))
    → (r : Answer) → Asked (One i (Sign p)) m' r → r ≡ negative_is (negative v)
fill_signs_active = rule.fill_signs_active 3 (2 ∷ 2 ∷ []) lent

-- filling twice is filling once: the second is accepted, and every seat, every mark and the count of free cells stay
pub fill_signs_twice : (i : ℕ) (m m' : Mem) → Done (One i FillSigns) m m' → (r : Answer) (m'' : Mem) → Promise 3 (2 ∷ 2 ∷ []) lent (One i FillSigns) m' r m''
    → (r ≡ done) × (state_of m'' ≡ state_of m')
fill_signs_twice = rule.fill_signs_twice 3 (2 ∷ 2 ∷ []) lent

-- whether the seat is empty is answered as before
pub fill_signs_empty : (i : ℕ) (m m' : Mem) → Done (One i FillSigns) m m' → (r r' : Answer) → Asked (One i IsEmpty) m r → Asked (One i IsEmpty) m' r' → r' ≡ r
fill_signs_empty = rule.fill_signs_empty 3 (2 ∷ 2 ∷ []) lent

-- no cell is taken or released
pub fill_signs_free : (i : ℕ) (m m' : Mem) → Done (One i FillSigns) m m' → (k k' : ℕ) → Counted m k → Counted m' k' → k' ≡ k
fill_signs_free = rule.fill_signs_free 3 (2 ∷ 2 ∷ []) lent

-- ---- flip

-- a lookup shows the value with the other sign bit, and nothing where there was nothing
pub flip_lookup : (i : ℕ) (m m' : Mem) → Done (One i Flip) m m' → (p : Point) (o : Option ℕ) → Asked (One i (Lookup p)) m (found o)
    → (r : Answer) → Asked (One i (Lookup p)) m' r → r ≡ found (through (λ v. some (negated v)) o)
flip_lookup = rule.flip_lookup 3 (2 ∷ 2 ∷ []) lent

-- a sign is the other one; and where it was refused it is
pub flip_sign : (i : ℕ) (m m' : Mem) → Done (One i Flip) m m' → (p : Point) (r r' : Answer) → Asked (One i (Sign p)) m r → Asked (One i (Sign p)) m' r' → r' ≡ contrary r
flip_sign = rule.flip_sign 3 (2 ∷ 2 ∷ []) lent

-- flipping twice changes nothing: the second is accepted, and every seat, every mark and the count of free cells are as before the first
pub flip_twice : (i : ℕ) (m m' : Mem) → Done (One i Flip) m m' → (r : Answer) (m'' : Mem) → Promise 3 (2 ∷ 2 ∷ []) lent (One i Flip) m' r m''
    → (r ≡ done) × (state_of m'' ≡ state_of m)
flip_twice = rule.flip_twice 3 (2 ∷ 2 ∷ []) lent

-- a sign fill is refused with 7 afterwards exactly if it was before
pub flip_fill_signs : (i : ℕ) (m m' : Mem) → Done (One i Flip) m m' → (r r' : Answer) → Asked (One i FillSigns) m r → Asked (One i FillSigns) m' r' → r' ≡ r
flip_fill_signs = rule.flip_fill_signs 3 (2 ∷ 2 ∷ []) lent

pub flip_empty : (i : ℕ) (m m' : Mem) → Done (One i Flip) m m' → (r r' : Answer) → Asked (One i IsEmpty) m r → Asked (One i IsEmpty) m' r' → r' ≡ r
flip_empty = rule.flip_empty 3 (2 ∷ 2 ∷ []) lent

pub flip_free : (i : ℕ) (m m' : Mem) → Done (One i Flip) m m' → (k k' : ℕ) → Counted m k → Counted m' k' → k' ≡ k
flip_free = rule.flip_free 3 (2 ∷ 2 ∷ []) lent

-- ---- prune

-- every lookup in every seat is answered as before
pub prune_lookup : (i : ℕ) (m m' : Mem) → Done (One i Prune) m m' → (a : ℕ) → Alike m a m' a
prune_lookup = rule.prune_lookup 3 (2 ∷ 2 ∷ []) lent

-- no branch of the seat is empty, so that a sign fill is accepted
pub prune_fill_signs : (i : ℕ) (m m' : Mem) → Done (One i Prune) m m'
    → (has_hollow 3 (2 ∷ 2 ∷ []) (seat_of m' i).grid ≡ false) × ((r : Answer) → Asked (One i FillSigns) m' r → r ≡ done)
prune_fill_signs = rule.prune_fill_signs 3 (2 ∷ 2 ∷ []) lent

-- it is unmarked
pub prune_unfilled : (i : ℕ) (m m' : Mem) → Done (One i Prune) m m' → Signless m' i
prune_unfilled = rule.prune_unfilled 3 (2 ∷ 2 ∷ []) lent

-- what the seat does not reach any more is free again
pub prune_free : (i : ℕ) (m m' : Mem) → Done (One i Prune) m m' → (k k' : ℕ) → Counted m k → Counted m' k'
    → k' + reached 3 (2 ∷ 2 ∷ []) (seat_of m' i) ≡ k + reached 3 (2 ∷ 2 ∷ []) (seat_of m i)
prune_free = rule.prune_free 3 (2 ∷ 2 ∷ []) lent

-- ---- cut by the test x

-- a lookup shows what it showed unless that passes, and then nothing
pub cut_lookup : (i : ℕ) (x : Test) (m m' : Mem) → Done (One i (Cut x)) m m' → (p : Point) (o : Option ℕ) → Asked (One i (Lookup p)) m (found o)
    → (r : Answer) → Asked (One i (Lookup p)) m' r → r ≡ found (through (uncut (passes x)) o)
cut_lookup = rule.cut_lookup 3 (2 ∷ 2 ∷ []) lent

-- no branch of the seat is empty, so that a sign fill is accepted
pub cut_fill_signs : (i : ℕ) (x : Test) (m m' : Mem) → Done (One i (Cut x)) m m'
    → (has_hollow 3 (2 ∷ 2 ∷ []) (seat_of m' i).grid ≡ false) × ((r : Answer) → Asked (One i FillSigns) m' r → r ≡ done)
cut_fill_signs = rule.cut_fill_signs 3 (2 ∷ 2 ∷ []) lent

-- it is unmarked
pub cut_unfilled : (i : ℕ) (x : Test) (m m' : Mem) → Done (One i (Cut x)) m m' → Signless m' i
cut_unfilled = rule.cut_unfilled 3 (2 ∷ 2 ∷ []) lent

-- what the seat does not reach any more is free again
pub cut_free : (i : ℕ) (x : Test) (m m' : Mem) → Done (One i (Cut x)) m m' → (k k' : ℕ) → Counted m k → Counted m' k'
    → k' + reached 3 (2 ∷ 2 ∷ []) (seat_of m' i) ≡ k + reached 3 (2 ∷ 2 ∷ []) (seat_of m i)
cut_free = rule.cut_free 3 (2 ∷ 2 ∷ []) lent

-- ---- fill with the value v, clear: every lookup shows it, or nothing; the seat is unmarked; what it reached is free again

pub fill_lookup : (i v : ℕ) (m m' : Mem) → Done (One i (Fill v)) m m' → (p : Point) (r : Answer) → Asked (One i (Lookup p)) m' r → r ≡ found (some v)
fill_lookup = rule.fill_lookup 3 (2 ∷ 2 ∷ []) lent

pub fill_unfilled : (i v : ℕ) (m m' : Mem) → Done (One i (Fill v)) m m' → Signless m' i
fill_unfilled = rule.fill_unfilled 3 (2 ∷ 2 ∷ []) lent

pub fill_free : (i v : ℕ) (m m' : Mem) → Done (One i (Fill v)) m m' → (k k' : ℕ) → Counted m k → Counted m' k' → k' ≡ k + reached 3 (2 ∷ 2 ∷ []) (seat_of m i)
fill_free = rule.fill_free 3 (2 ∷ 2 ∷ []) lent

-- the seat is as in a prepared pool
pub clear_seat : (i : ℕ) (m m' : Mem) → Done (One i Clear) m m' → seat_of m' i ≡ fresh 3 (2 ∷ 2 ∷ [])
clear_seat = rule.clear_seat 3 (2 ∷ 2 ∷ []) lent

-- no lookup in it shows anything, it is empty, and it has no sign
pub clear_clears : (i : ℕ) (m m' : Mem) → Done (One i Clear) m m' → Emptied m' i
clear_clears = rule.clear_clears 3 (2 ∷ 2 ∷ []) lent

pub clear_free : (i : ℕ) (m m' : Mem) → Done (One i Clear) m m' → (k k' : ℕ) → Counted m k → Counted m' k' → k' ≡ k + reached 3 (2 ∷ 2 ∷ []) (seat_of m i)
clear_free = rule.clear_free 3 (2 ∷ 2 ∷ []) lent
