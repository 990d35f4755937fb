-- The premises of the theorems on runs can be met: a memory that is the state itself, with a mark whether it is sound. Every list of calls has a run on it.
-- Assumes nothing.
use mathlib.Core.Path.{◌≡◌, refl, ap}
use mathlib.Core.Bool.{Bool, true, false}
use mathlib.Core.List.{List, [], ◌∷◌}
use Prim.Native.Nat.{ℕ, ◌≤◌}
use native.Mathlib.Omega.{arith}
use Rattle.grid.specs.Voxel.{lookup, sign_at}
use Rattle.seats.specs.Call.{Call, Prepare, Answer, refused, done}
use Rattle.seats.specs.Promise.{Verdict, refuse, give, turn, loose, Memory, verdict, Keeps, Event, Chain, Run}
use Rattle.seats.specs.Refusal.{Reads}
use Rattle.seats.specs.Run.{calls_of, said}
use Rattle.seats.specs.Seat.{State, prepared, used, free}
use Rattle.seats.specs.Step.{reads_of, step}
use Rattle.seats.proofs.Laws.{fresh_used}
use Rattle.seats.proofs.Promise.{sound_not_loose}
use Rattle.seats.proofs.Runs.{step_within}
use Rattle.seats.proofs.Proper.{AllProper, fresh_proper, step_proper}

abbrev head_of : List ℕ → ℕ
head_of [] = 0
head_of (n ∷ ns) = n

module _ (b : ℕ) (bs : List ℕ) where
  pub record Toy : Type 0 where
    pub good : Bool
    pub held : State b bs
    pub proper : AllProper b bs held.seat
    pub enough : used b bs held.seat ≤ held.all

  -- everything is read off the state; where the mark is not set no path and no pool is good
  abbrev toy_reads : Toy → Reads
  toy_reads m =
      let r = reads_of b bs m.held.seat (free b bs m.held) in
      record { fit = true; path = λ c. m.good; sound = m.good; filled = r.filled; hollow = r.hollow; empty = r.empty; need = r.need; free = r.free }

  abbrev pub toy : Memory b bs
  toy =
      record {
        Mem = Toy;
        lens = λ m. m.held.all ∷ [];
        size = head_of;
        Sound = λ m. m.good ≡ true;
        state = λ m. m.held;
        reads = toy_reads;
        lookup_at = λ i p m. lookup (b ∷ bs) (m.held.seat i).grid p;
        negative_at = λ i p m. sign_at (b ∷ bs) (m.held.seat i).grid p;
        Unspoilt = λ m m'. Unit {0};
        is_sound = λ m e s. s;
        reads_is = λ m s c l. record { fit = refl; path = s; sound = s; filled = λ i a. refl; hollow = λ i a. refl; empty = λ i a. refl; need = refl; free = refl };
        lookup_is = λ m s i l p. refl;
        negative_is_lem = λ m s i l p. refl;
        proper_is = λ m s i l. m.proper i;
        all_is = λ m. refl;
        within = λ m s. m.enough;
      }

  pub step_enough : (st : State b bs) (c : Call) → used b bs st.seat ≤ st.all → used b bs (step b bs st c).1.seat ≤ (step b bs st c).1.all
  unfolding step
  step_enough st c h = step_within b bs st c h

  -- the state one step on
  abbrev turned : Toy → Call → Toy
  turned m c = record { good = true; held = (step b bs m.held c).1; proper = step_proper b bs m.held c m.proper; enough = step_enough m.held c m.enough }

  abbrev answer_of : Verdict → Answer
  answer_of (refuse n) = refused n
  answer_of (give a) = a
  answer_of (turn a) = a
  answer_of loose = done

  abbrev next_of : Verdict → Call → Toy → Toy
  next_of (refuse n) c m = m
  next_of (give a) c m = m
  next_of (turn a) c m = turned m c
  next_of loose c m = m

  keeps_of : (v : Verdict) (c : Call) (m : Toy) → (v ≡ loose → ⊥) → Keeps b bs toy v c m (answer_of v) (next_of v c m)
  unfolding step
  keeps_of (refuse n) c m h = (refl, refl)
  keeps_of (give a) c m h = (refl, refl)
  keeps_of (turn a) c m h = (refl, refl, refl, refl, tt)
  keeps_of loose c m h = absurd (h refl)

  next_good : (v : Verdict) (c : Call) (m : Toy) → m.good ≡ true → (next_of v c m).good ≡ true
  next_good (refuse n) c m s = s
  next_good (give a) c m s = s
  next_good (turn a) c m s = refl
  next_good loose c m s = s

  unfoldable pub events : Toy → List Call → List (Event b bs toy)
  events m [] = []
  events m (c ∷ cs) =
      let v = verdict b bs toy c m in
      record { call = c; answer = answer_of v; memory = next_of v c m } ∷ events (next_of v c m) cs

  chained : (cs : List Call) (m : Toy) → m.good ≡ true → Chain b bs toy m (events m cs)
  unfolding events
  chained [] m s = tt
  chained (c ∷ cs) m s =
      let v = verdict b bs toy c m in
      (keeps_of v c m (sound_not_loose b bs toy c m s), chained cs (next_of v c m) (next_good v c m s))

  pub prepared_proper : (n : ℕ) → AllProper b bs (prepared b bs n).seat
  unfolding prepared
  prepared_proper n i = fresh_proper b bs

  pub prepared_enough : (n : ℕ) → used b bs (prepared b bs n).seat ≤ (prepared b bs n).all
  unfolding prepared
  prepared_enough n = omega (arith, fresh_used b bs)

  -- a memory of n cells that is not sound
  unfoldable pub lent : ℕ → Toy
  lent n = record { good = false; held = prepared b bs n; proper = prepared_proper n; enough = prepared_enough n }

  pub run_of : (n : ℕ) (cs : List Call) → Run b bs toy n (events (turned (lent n) Prepare) cs)
  unfolding prepared lent step
  run_of n cs =
      record {
        lent = lent n;
        ready = turned (lent n) Prepare;
        cells = refl;
        prepares = (refl, refl, refl, refl, tt);
        chain = chained cs (turned (lent n) Prepare) refl;
      }

  -- the run is of these calls
  pub run_calls : (cs : List Call) (m : Toy) → calls_of (said b bs toy (events m cs)) ≡ cs
  unfolding events said calls_of
  run_calls [] m = refl
  run_calls (c ∷ cs) m = ap (◌∷◌ c) (run_calls cs (next_of (verdict b bs toy c m) c m))
