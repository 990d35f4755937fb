-- What is done to a whole seat: the promise of every such call, from what the code tested and did. Assumes nothing.
use mathlib.Core.Path.{◌≡◌, refl, sym, ap, ap₂, ◌∙◌}
use mathlib.Core.Bool.{Bool, true, false, cond}
use mathlib.Core.List.{[], ◌∷◌}
use mathlib.Core.Option.{none, some}
use Prim.Native.Nat.{ℕ, ◌<◌}
use native.Mathlib.Omega.{arith}
use lib.Dec.{eqb}
use Rattle.floats.specs.Value.{is_finite}
use Rattle.grid.specs.Node.{Node}
use Rattle.grid.specs.Whole.{flip, has_hollow}
use Rattle.seats.specs.Call.{One, asks, whole_pool, done}
use Rattle.seats.specs.Promise.{grants, turn}
use Rattle.seats.specs.Refusal.{Reads, refusal}
use Rattle.seats.specs.Seat.{Seat, fresh}
use Rattle.seats.specs.Step.{act}
use Rattle.nodes.specs.State.{St}
use Rattle.nodes.specs.Layout.{st}
use Rattle.nodes.specs.Change.{mark_s}
use Rattle.means.specs.Level.{levels, tree_at, Turned}
use Rattle.means.specs.Mem.{Mem, cells_of, pool_of, SoundMem, seat_of, reads_in}
use Rattle.means.specs.Turn.{turned_s}
use Rattle.means.proofs.Below.{hollow_seat}
use Rattle.means.proofs.Memory.{seat_is}
use Rattle.means.proofs.Signs.{fill_signs_right}
use Rattle.means.proofs.Turn.{turn_right}
use Rattle.means.proofs.Wipe.{wipe_fill, wipe_clear}
use Rattle.voxels.specs.Lent.{lent}
use Rattle.std.specs.Prelude.{Result, Ok, Err}
use Rattle.voxels.specs.Answers.{Says, done_of, or_none}
use Rattle.voxels.specs.Refused.{number_of}
use Rattle.voxels.specs.declared.refusal.Refusal.{Refusal}
use Rattle.voxels.specs.declared.refusal.Refusal.TheVariants.{EmptyBranch}
use Rattle.pool.specs.Guard.{given_of, one_given, guard_of, later_of, solid_of}
use Rattle.pool.specs.Task.{turn_act, act_of, work_s, turn_mark, mark_of, change_s}
use Rattle.trees.specs.Below.{hollow_m}
use Rattle.trees.specs.declared.turn.Work.{Work}
use Rattle.trees.specs.declared.turn.Work.TheVariants as work
use Rattle.pool.specs.declared.seat.Task.{Task}
use Rattle.pool.specs.declared.seat.Task.TheVariants as task
use Rattle.pool.proofs.Guards.{guard_refuses, guard_passes, served_given, served_sound, clean, one_seat}
use Rattle.voxels.proofs.Promises.{Counted, is_pool}
use Rattle.voxels.proofs.Turns.{Kept, kept_counted, turns}

-- ---- the refusals

-- every task tests the whole pool
turn_kind : (w : Work) (i : ℕ) → (asks (One i (turn_act w))).kind ≡ whole_pool
turn_kind work.Prune i = refl
turn_kind (work.Cut t) i = refl
turn_kind work.Flip i = refl

task_kind : (t : Task) (i : ℕ) → (asks (One i (act_of t))).kind ≡ whole_pool
task_kind (task.Fill w) i = refl
task_kind task.Clear i = refl
task_kind (task.Turn w) i = turn_kind w i
task_kind task.Signs i = refl

-- the seat of a call says nothing of its values
turn_given : (w : Work) (i : ℕ) → (asks (One 0 (turn_act w))).given ≡ (asks (One i (turn_act w))).given
turn_given work.Prune i = refl
turn_given (work.Cut t) i = refl
turn_given work.Flip i = refl

task_given : (t : Task) (i : ℕ) → (asks (One 0 (act_of t))).given ≡ (asks (One i (act_of t))).given
task_given (task.Fill w) i = refl
task_given task.Clear i = refl
task_given (task.Turn w) i = turn_given w i
task_given task.Signs i = refl

turn_later : (w : Work) (i : ℕ) (r : Reads) → later_of r (One i (turn_act w)) ≡ none
turn_later work.Prune i r = refl
turn_later (work.Cut t) i r = refl
turn_later work.Flip i r = refl

-- what the code found: f tells of the values, and g is what was given
module _ (t : Task) (i : ℕ) (m : Mem) {f : Bool} {g : Result Unit Refusal} (a : f ≡ (asks (One 0 (act_of t))).given) (b : g ≡ one_given i f) where
  given : g ≡ given_of (One i (act_of t))
  given = b ∙ ap (one_given i) (a ∙ task_given t i)

  pub barred_first : {e : Refusal} → guard_of m g ≡ Err e → refusal (reads_in m) (One i (act_of t)) ≡ some (number_of e)
  barred_first = guard_refuses m (One i (act_of t)) (task_kind t i) given

  module _ {n : ℕ} (h : (guard_of m g ≡ Ok tt) × (n ≡ cells_of m)) where
    pub barred_counted : Counted n m
    barred_counted = record { fit = (clean m g h.0).fit; cells = h.1 }

    pub barred_seat : i < 8
    barred_seat = one_seat i f (sym b ∙ (clean m g h.0).good)

    served : refusal (reads_in m) (One i (act_of t)) ≡ later_of (reads_in m) (One i (act_of t))
    served = guard_passes m (One i (act_of t)) (task_kind t i) given h.0

    -- 7, where it was asked
    pub barred_signs : t ≡ task.Signs → (o : Result Unit Refusal) → o ≡ solid_of n (st n m.slots m.masks m.book) i → refusal (reads_in m) (One i (act_of t)) ≡ or_none o
    barred_signs e o q =
        served ∙ ap (λ (t : Task). later_of (reads_in m) (One i (act_of t))) e
        ∙ ap (λ (h : Bool). cond h (some 7) none) (ap (λ (x : Seat 3 (2 ∷ 2 ∷ [])). has_hollow 3 (2 ∷ 2 ∷ []) x.grid) (seat_is m s i barred_seat) ∙ sym (hollow_seat s.1 i barred_seat))
        ∙ go (hollow_m 3 (2 ∷ 2 ∷ []) (cells_of m) (pool_of m) i)
        ∙ ap or_none (ap₂ (λ (n : ℕ) (s : St). solid_of n s i) (sym h.1) (sym (is_pool barred_counted)) ∙ sym q)
      where
        s : SoundMem m
        s = (clean m g h.0).sound

        go : (h : Bool) → cond h (some 7) none ≡ or_none (cond h (Err EmptyBranch) (Ok tt))
        go true = refl
        go false = refl

    -- where it was not
    pub barred_others : (t ≡ task.Signs → ⊥) → refusal (reads_in m) (One i (act_of t)) ≡ none
    barred_others e = served ∙ go t refl
      where
        go : (s : Task) → t ≡ s → later_of (reads_in m) (One i (act_of s)) ≡ none
        go (task.Fill w) q = refl
        go task.Clear q = refl
        go (task.Turn w) q = turn_later w i (reads_in m)
        go task.Signs q = absurd (e q)

-- ---- what becomes of the seat
module _ (m : Mem) (s : SoundMem m) (i : ℕ) (l : i < 8) where
  pub record Worked (t : Task) : Type 0 where
    pub grid : Node (levels 2)
    pub turned : Turned (cells_of m) 2 i (pool_of m) (work_s t (cells_of m) i (pool_of m)) grid
    pub does : (act 3 (2 ∷ 2 ∷ []) (act_of t) (seat_of m i)).1 ≡ record { grid = grid; filled = eqb (mark_of t ((pool_of m).mark i)) 1 }
    pub mark : mark_of t ((pool_of m).mark i) < 2

  turn_does : (w : Work) → (act 3 (2 ∷ 2 ∷ []) (turn_act w) (seat_of m i)).1
      ≡ record { grid = λ k. turned_s w (2 ∷ 2 ∷ []) (tree_at 2 (pool_of m) i k); filled = eqb (turn_mark w ((pool_of m).mark i)) 1 }
  unfolding act flip
  turn_does work.Prune = rw (seat_is m s i l) refl
  turn_does (work.Cut t) = rw (seat_is m s i l) refl
  turn_does work.Flip = rw (seat_is m s i l) refl

  turn_low : (w : Work) → turn_mark w ((pool_of m).mark i) < 2
  turn_low work.Prune = omega arith
  turn_low (work.Cut t) = omega arith
  turn_low work.Flip = s.1.marks i l

  worked : (t : Task) → (asks (One i (act_of t))).given ≡ true → Worked t
  unfolding act work_s fresh
  worked (task.Fill w) f = record { grid = _; turned = wipe_fill s.1 i l w f; does = refl; mark = omega arith }
  worked task.Clear f = record { grid = _; turned = wipe_clear s.1 i l; does = refl; mark = omega arith }
  worked task.Signs f = record { grid = _; turned = fill_signs_right 2 i s.1 (l, refl); does = rw (seat_is m s i l) refl; mark = omega arith }
  worked (task.Turn w) f = record { grid = _; turned = turn_right w 2 i s.1 (l, refl); does = turn_does w; mark = turn_low w }

-- it is a change, not an answer
turn_turns : (w : Work) (i : ℕ) (m : Mem) → grants 3 (2 ∷ 2 ∷ []) lent (One i (turn_act w)) m ≡ turn done
turn_turns work.Prune i m = refl
turn_turns (work.Cut t) i m = refl
turn_turns work.Flip i m = refl

task_turns : (t : Task) (i : ℕ) (m : Mem) → grants 3 (2 ∷ 2 ∷ []) lent (One i (act_of t)) m ≡ turn done
task_turns (task.Fill w) i m = refl
task_turns task.Clear i m = refl
task_turns (task.Turn w) i m = turn_turns w i m
task_turns task.Signs i m = refl

-- the call done: m' is the memory after it
pub change_says : (t : Task) (m : Mem) (n : ℕ) (h : Counted n m) (i : ℕ) → i < 8 → refusal (reads_in m) (One i (act_of t)) ≡ none → (m' : Mem) → Kept m m'
    → st n m'.slots m'.masks m'.book ≡ change_s t n i (st n m.slots m.masks m.book) → Says done_of (One i (act_of t)) m (Ok tt) m'
change_says t m n h i l serve m' k is =
    let s : SoundMem m = served_sound m (One i (act_of t)) serve (task_kind t i) in
    let w : Worked m s i l t = worked m s i l t (served_given m (One i (act_of t)) serve) in
    let r = turns m m' i l (act_of t) serve k (mark_of t ((pool_of m).mark i)) w.mark (work_s t (cells_of m) i (pool_of m))
    (sym (is_pool (kept_counted k h)) ∙ is ∙ same h.cells (is_pool h)) s w.turned w.does in
    (done, refl, rw (serve, task_turns t i m) (refl, r.0, r.1, r.2, r.3))
  where
    same : {a : St} → n ≡ cells_of m → a ≡ pool_of m → change_s t n i a ≡ mark_s i (mark_of t ((pool_of m).mark i)) (work_s t (cells_of m) i (pool_of m))
    same e d = ap₂ (λ (j : ℕ) (s : St). change_s t j i s) e d

-- ---- as the code does it
pub given_fill : {t : Task} {w : ℕ} {b : Bool} → t ≡ task.Fill w → b ≡ is_finite w → b ≡ (asks (One 0 (act_of t))).given
given_fill e d = d ∙ ap (λ (t : Task). (asks (One 0 (act_of t))).given) (sym e)

pub change_by : (t : Task) (n i : ℕ) (s : St) {k m : ℕ} {r r' : St} → k ≡ s.mark i → m ≡ mark_of t k → r ≡ work_s t n i s → r' ≡ mark_s i m r → r' ≡ change_s t n i s
change_by t n i s a b c d = d ∙ ap₂ (mark_s i) (b ∙ ap (mark_of t) a) c
