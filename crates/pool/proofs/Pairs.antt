-- The calls on two seats: their refusals and promises, from what the code tested and did. Assumes nothing.
use mathlib.Core.Path.{◌≡◌, refl, sym, ap, ap₂, ◌∙◌, subst, fun_ext}
use mathlib.Core.Bool.{Bool, true, false, not, ◌&&◌, ◌||◌, cond, false≢true}
use mathlib.Core.List.{List, [], ◌∷◌}
use mathlib.Core.Logic.{◌≢◌}
use mathlib.Core.Option.{none, some}
use Prim.Native.Nat.{ℕ, ◌<◌, ◌≤◌}
use native.Mathlib.Omega.{arith}
use lib.ListN.{get_or}
use lib.Dec.{leb, eqb}
use borrow.Author.Tests.{le-leb, lt-leb, not-false}
use Rattle.grid.specs.Node.{Node, put}
use Rattle.floats.specs.Value.{far_with}
use Rattle.grid.specs.Combine.{Operation, combine_s}
use Rattle.grid.specs.Whole.{reach, is_empty, has_hollow}
use Rattle.grid.proofs.Places.{put_at}
use Rattle.seats.specs.Call.{Pair, Two, Copy, Combine, whole_pool, asks, done}
use Rattle.seats.specs.Refusal.{order, refusal}
use Rattle.seats.specs.Seat.{Seat, State, fresh, reached}
use Rattle.seats.specs.Step.{both, served}
use Rattle.seats.proofs.Names.{among_head, among_rest}
use Rattle.seats.proofs.Promise.{served_step}
use Rattle.seats.proofs.Refusal.{below_8, different, enough, all_pass}
use Rattle.nodes.specs.State.{St, Sound, tree}
use Rattle.nodes.specs.Layout.{st}
use Rattle.nodes.specs.Change.{mark_s}
use Rattle.nodes.specs.Wipe.{wipe_m}
use Rattle.trees.specs.Below.{hollow_m, reached_m}
use Rattle.trees.specs.Combine.{combine_m}
use Rattle.trees.specs.Copy.{copy_m}
use Rattle.means.specs.Joined.{combined_s}
use Rattle.means.specs.Level.{tree_at, Turned}
use Rattle.means.specs.Mem.{Mem, cells_of, fits, pool_of, SoundMem, seat_of, reads_in}
use Rattle.means.proofs.Below.{hollow_seat, reached_is}
use Rattle.means.proofs.Copy.{copy_right}
use Rattle.means.proofs.Memory.{seat_is}
use Rattle.means.proofs.Combine.{combined_by}
use Rattle.means.proofs.SeatPair.{pair_sound_after, pair_seats_after}
use Rattle.means.proofs.SeatTurn.{turn_sound, turn_seats}
use Rattle.means.proofs.Unspoilt.{unspoilt_mark}
use Rattle.csg.specs.Joinable.{Joinable}
use Rattle.voxels.specs.Lent.{lent}
use Rattle.std.specs.Prelude.{Result, Ok, Err}
use Rattle.voxels.specs.Answers.{Says, or_none, done_of}
use Rattle.voxels.specs.Refused.{number_of}
use Rattle.voxels.specs.declared.refusal.Refusal.{Refusal}
use Rattle.voxels.specs.declared.refusal.Refusal.TheVariants.{Unfilled, EmptyBranch, Occupied, NoCells}
use Rattle.sound.proofs.Book.{st_mark}
use Rattle.pool.specs.Guard.{given_of, two_given, guard_of, later_of, solid_of, room_of, filled_of}
use Rattle.pool.proofs.Guards.{guard_refuses, guard_passes, served_sound, clean, two_seats}
use Rattle.voxels.proofs.Promises.{Counted, is_pool}
use Rattle.voxels.proofs.Turns.{Kept, kept_lens, kept_cells, kept_fits, kept_counted}

-- ---- the refusals of a call on two seats: g is what was given
two_kind : (x : Pair) (i j : ℕ) → ((asks (Two x i j)).kind ≡ whole_pool) × ((asks (Two x i j)).given ≡ true)
two_kind Copy i j = (refl, refl)
two_kind (Combine o) i j = (refl, refl)

-- a seat's grid is its tree
grid_is : (m : Mem) (s : SoundMem m) (i : ℕ) → i < 8 → (seat_of m i).grid ≡ tree 3 (2 ∷ 2 ∷ []) (pool_of m) i
grid_is m s i l = ap (λ (x : Seat 3 (2 ∷ 2 ∷ [])). x.grid) (seat_is m s i l)

module _ (i j : ℕ) (m : Mem) {g : Result Unit Refusal} (b : g ≡ two_given i j) where
  given : (x : Pair) → g ≡ given_of (Two x i j)
  given x = b ∙ rw (two_kind x i j).1 refl

  pub pair_first : (x : Pair) {e : Refusal} → guard_of m g ≡ Err e → refusal (reads_in m) (Two x i j) ≡ some (number_of e)
  pair_first x = guard_refuses m (Two x i j) (two_kind x i j).0 (given x)

  -- where the guard found nothing, in a pool of n cells
  module _ {n : ℕ} (h : (guard_of m g ≡ Ok tt) × (n ≡ cells_of m)) where
    pub pair_counted : Counted n m
    pair_counted = record { fit = (clean m g h.0).fit; cells = h.1 }

    pub pair_seats : (i < 8) × (j < 8)
    pair_seats = two_seats i j (sym b ∙ (clean m g h.0).good)

    pair_sound : SoundMem m
    pair_sound = (clean m g h.0).sound

    served_later : (x : Pair) → refusal (reads_in m) (Two x i j) ≡ later_of (reads_in m) (Two x i j)
    served_later x = guard_passes m (Two x i j) (two_kind x i j).0 (given x) h.0

    pub copy_room : (k : Result Unit Refusal) → k ≡ room_of n (st n m.slots m.masks m.book) i j → refusal (reads_in m) (Two Copy i j) ≡ or_none k
    unfolding reached
    copy_room k q =
        let s : SoundMem m = pair_sound in
        let l : (i < 8) × (j < 8) = pair_seats in
        served_later Copy
        ∙ ap₂ (λ (e : Bool) (n : ℕ). cond (not e) (some 8) (cond (not (leb n (pool_of m).count)) (some 9) none))
        (ap (is_empty 3 (2 ∷ 2 ∷ [])) (grid_is m s j l.1)) (ap (reach 3 (2 ∷ 2 ∷ [])) (grid_is m s i l.0) ∙ sym (reached_is s.1 2 i (l.0, refl)))
        ∙ go (is_empty 3 (2 ∷ 2 ∷ []) (tree 3 (2 ∷ 2 ∷ []) (pool_of m) j)) (leb (reached_m 3 (2 ∷ 2 ∷ []) (cells_of m) (pool_of m) i) (pool_of m).count)
        ∙ ap or_none (ap₂ (λ (n : ℕ) (s : St). room_of n s i j) (sym h.1) (sym (is_pool pair_counted)) ∙ sym q)
      where
        go : (e f : Bool) → cond (not e) (some 8) (cond (not f) (some 9) none) ≡ or_none (cond e (cond f (Ok tt) (Err NoCells)) (Err Occupied))
        go true true = refl
        go true false = refl
        go false f = refl

    pub combine_filled : (o : Operation) (k : Result Unit Refusal) → k ≡ filled_of n (st n m.slots m.masks m.book) i j → refusal (reads_in m) (Two (Combine o) i j) ≡ or_none k
    combine_filled o k q =
        let s : SoundMem m = pair_sound in
        let l : (i < 8) × (j < 8) = pair_seats in
        served_later (Combine o)
        ∙ ap₂ (λ (e f : Bool). cond (not (eqb ((pool_of m).mark i) 1) || not (eqb ((pool_of m).mark j) 1)) (some 6) (cond (e || f) (some 7) none))
        (ap (has_hollow 3 (2 ∷ 2 ∷ [])) (grid_is m s i l.0) ∙ sym (hollow_seat s.1 i l.0)) (ap (has_hollow 3 (2 ∷ 2 ∷ [])) (grid_is m s j l.1) ∙ sym (hollow_seat s.1 j l.1))
        ∙ go (eqb ((pool_of m).mark i) 1) (eqb ((pool_of m).mark j) 1) (hollow_m 3 (2 ∷ 2 ∷ []) (cells_of m) (pool_of m) i || hollow_m 3 (2 ∷ 2 ∷ []) (cells_of m) (pool_of m) j)
        ∙ ap or_none (ap₂ (λ (n : ℕ) (s : St). filled_of n s i j) (sym h.1) (sym (is_pool pair_counted)) ∙ sym q)
      where
        go : (e f h : Bool) → cond (not e || not f) (some 6) (cond h (some 7) none) ≡ or_none (cond (e && f) (cond h (Err EmptyBranch) (Ok tt)) (Err Unfilled))
        go true true true = refl
        go true true false = refl
        go true false h = refl
        go false f h = refl

-- ---- 6 to 9, as the code finds them in a pool of n cells
module _ (n : ℕ) (s : St) (i j : ℕ) where
  module _ (e : is_empty 3 (2 ∷ 2 ∷ []) (tree 3 (2 ∷ 2 ∷ []) s j) ≡ true) {a k : ℕ} (p : a ≡ reached_m 3 (2 ∷ 2 ∷ []) n s i) (q : k ≡ s.count) where
    pub room_9 : k < a → Err NoCells ≡ room_of n s i j
    room_9 l = rw (e, sym p, sym q, lt-leb a k l) refl

    pub room_0 : a ≤ k → Ok tt ≡ room_of n s i j
    room_0 l = rw (e, sym p, sym q, le-leb a k l) refl

  module _ {f : Bool} (is : f ≡ eqb (s.mark i) 1 && eqb (s.mark j) 1) where
    pub filled_6 : f ≡ false → Err Unfilled ≡ filled_of n s i j
    filled_6 e = rw (sym is ∙ e) refl

    pub filled_7 : f ≡ true → (e : Refusal) → Err e ≡ solid_of n s i → Err e ≡ filled_of n s i j
    filled_7 t e d = rw (sym is ∙ t) (go (hollow_m 3 (2 ∷ 2 ∷ []) n s i) (hollow_m 3 (2 ∷ 2 ∷ []) n s j) d)
      where
        go : (h k : Bool) → Err e ≡ cond h (Err EmptyBranch) (Ok (tt {0})) → Err e ≡ cond (h || k) (Err EmptyBranch) (Ok (tt {0}))
        go true k d = d
        go false k d = cc

    pub filled_last : f ≡ true → {u : Unit {0}} → Ok u ≡ solid_of n s i → {r : Result Unit Refusal} → r ≡ solid_of n s j → r ≡ filled_of n s i j
    filled_last t {u} d q = q ∙ rw (sym is ∙ t) (go (hollow_m 3 (2 ∷ 2 ∷ []) n s i) (hollow_m 3 (2 ∷ 2 ∷ []) n s j) d)
      where
        go : (h k : Bool) → Ok u ≡ cond h (Err EmptyBranch) (Ok (tt {0})) → cond k (Err EmptyBranch) (Ok (tt {0})) ≡ cond (h || k) (Err EmptyBranch) (Ok (tt {0}))
        go true k d = cc
        go false k d = refl

-- what the book says of the two marks
pub both_are : (n : ℕ) (slots masks book : List ℕ) (i j : ℕ) → (i < 8) × (j < 8) → {f : Bool} → f ≡ eqb (get_or book i 0) 1 && eqb (get_or book j 0) 1
    → f ≡ eqb ((st n slots masks book).mark i) 1 && eqb ((st n slots masks book).mark j) 1
both_are n slots masks book i j l e = rw (st_mark n slots masks book i l.0, st_mark n slots masks book j l.1) e

-- ---- the copy done: m' is the memory after it

-- a place set to what it has
put_self : {A : Type 0} (f : ℕ → A) (i : ℕ) → put f i (f i) ≡ f
put_self f i = fun_ext (λ j. put_at (λ a. a ≡ f j) f i (f i) j (λ e. ap f (sym e)) (λ _. refl))

module _ (m : Mem) (i j : ℕ) (serve : refusal (reads_in m) (Two Copy i j) ≡ none) where
  pub copy_low : (i < 8) × (j < 8)
  copy_low = (below_8 (reads_in m) (Two Copy i j) serve i (among_head i (j ∷ [])), below_8 (reads_in m) (Two Copy i j) serve j (among_rest j (i ∷ j ∷ []) (among_head j [])))

  s : SoundMem m
  s = served_sound m (Two Copy i j) serve refl

  -- what the copy needs
  turned : Turned (cells_of m) 2 j (pool_of m) (copy_m 3 (2 ∷ 2 ∷ []) (cells_of m) i j (pool_of m)) (tree_at 2 (pool_of m) i)
  unfolding reached
  turned =
      copy_right s.1 i j copy_low.0 copy_low.1 (λ e. different (reads_in m) Copy i j serve (sym e))
      (sym (ap (λ (x : Seat 3 (2 ∷ 2 ∷ [])). is_empty 3 (2 ∷ 2 ∷ []) x.grid) (seat_is m s j copy_low.1)) ∙ hollow)
      (omega (arith, ap (λ (x : Seat 3 (2 ∷ 2 ∷ [])). reach 3 (2 ∷ 2 ∷ []) x.grid) (seat_is m s i copy_low.0), enough (reads_in m) (Two Copy i j) serve refl))
    where
      hollow : is_empty 3 (2 ∷ 2 ∷ []) (seat_of m j).grid ≡ true
      hollow = not-false (is_empty 3 (2 ∷ 2 ∷ []) (seat_of m j).grid) (all_pass order (reads_in m) (Two Copy i j) serve).1.1.1.1.1.1.1.0

  pub copy_says : (n : ℕ) (h : Counted n m) (m' : Mem) (k : Kept m m')
      → st n m'.slots m'.masks m'.book ≡ mark_s j 0 (copy_m 3 (2 ∷ 2 ∷ []) n i j (st n m.slots m.masks m.book)) → Says done_of (Two Copy i j) m (Ok tt) m'
  unfolding served both
  copy_says n h m' k is =
      let is' : pool_of m' ≡ mark_s j 0 (copy_m 3 (2 ∷ 2 ∷ []) (cells_of m) i j (pool_of m)) =
      sym (is_pool (kept_counted k h)) ∙ is ∙ ap₂ (λ (c : ℕ) (p : St). mark_s j 0 (copy_m 3 (2 ∷ 2 ∷ []) c i j p)) h.cells (is_pool h) in
      let fit : fits m' ≡ true = kept_fits k ∙ s.0 in
      let two : 0 < 2 = omega arith in (
        done,
        refl,
        rw serve (
          refl,
          turn_sound m m' s j copy_low.1 0 two turned (kept_cells k) fit is',
          ap₂ {C = State 3 (2 ∷ 2 ∷ [])} (λ (f : ℕ → Seat 3 (2 ∷ 2 ∷ [])) (n : ℕ). record { seat = f; all = n })
              (turn_seats m m' s j copy_low.1 0 two turned (kept_cells k) fit is'
              ∙ ap₂ {C = ℕ → Seat 3 (2 ∷ 2 ∷ [])} (λ (f : ℕ → Seat 3 (2 ∷ 2 ∷ [])) (x : Seat 3 (2 ∷ 2 ∷ [])). put f j x) (sym (put_self (seat_of m) i))
              (ap (λ (x : Seat 3 (2 ∷ 2 ∷ [])). record { grid = x.grid; filled = false }) (sym (seat_is m s i copy_low.0))))
              (kept_cells k)
              ∙ sym (served_step 3 (2 ∷ 2 ∷ []) lent (Two Copy i j) m s serve),
          kept_lens k,
          unspoilt_mark j 0 is' turned.unspoilt,
        ),
      )

-- ---- the combination done: m' is the memory after it
module _ (o : Operation) (m : Mem) (i j : ℕ) (serve : refusal (reads_in m) (Two (Combine o) i j) ≡ none) where
  pub combine_low : (i < 8) × (j < 8)
  combine_low = (below_8 (reads_in m) (Two (Combine o) i j) serve i (among_head i (j ∷ [])), below_8 (reads_in m) (Two (Combine o) i j) serve j (among_rest j (i ∷ j ∷ []) (among_head j [])))

  combine_sound : SoundMem m
  combine_sound = served_sound m (Two (Combine o) i j) serve refl

  combine_differ : i ≢ j
  combine_differ e = different (reads_in m) (Combine o) i j serve (sym e)

  -- the two may be joined
  pub combine_may : (n : ℕ) → Counted n m → Joinable n 2 (st n m.slots m.masks m.book) i j
  combine_may n h =
      record {
        sound = subst (λ (c : ℕ). Sound c (st n m.slots m.masks m.book)) (sym h.cells) (subst (Sound (cells_of m)) (sym (is_pool h)) combine_sound.1);
        at_x = (combine_low.0, refl);
        at_y = (combine_low.1, refl);
        differ = combine_differ;
      }

  -- the first is filled
  full : eqb ((pool_of m).mark i) 1 ≡ true
  full = not-false (eqb ((pool_of m).mark i) 1) (or_both (not (eqb ((pool_of m).mark i) 1)) (not (eqb ((pool_of m).mark j) 1)) (all_pass order (reads_in m) (Two (Combine o) i j) serve).1.1.1.1.1.0).0
    where
      or_both : (a b : Bool) → (a || b) ≡ false → (a ≡ false) × (b ≡ false)
      or_both true b e = absurd (false≢true (sym e))
      or_both false b e = (refl, e)

  pub combine_says : (n : ℕ) (h : Counted n m) (m' : Mem) (k : Kept m m')
      → st n m'.slots m'.masks m'.book ≡ mark_s j 0 (combined_s o n i j (st n m.slots m.masks m.book)) → Says done_of (Two (Combine o) i j) m (Ok tt) m'
  unfolding served both
  combine_says n h m' k is =
      let s : SoundMem m = combine_sound in
      let is' : pool_of m' ≡ mark_s j 0 (combined_s o (cells_of m) i j (pool_of m)) =
      sym (is_pool (kept_counted k h)) ∙ is ∙ ap₂ (λ (c : ℕ) (p : St). mark_s j 0 (combined_s o c i j p)) h.cells (is_pool h) in
      let fit : fits m' ≡ true = kept_fits k ∙ s.0 in
      let c = combined_by s.1 i j combine_low.0 combine_low.1 combine_differ o in (
        done,
        refl,
        rw serve (
          refl,
          pair_sound_after m m' s i j combine_low.0 combine_low.1 combine_differ full c (kept_cells k) fit is',
          ap₂ {C = State 3 (2 ∷ 2 ∷ [])} (λ (f : ℕ → Seat 3 (2 ∷ 2 ∷ [])) (n : ℕ). record { seat = f; all = n })
              (pair_seats_after m m' s i j combine_low.0 combine_low.1 combine_differ full c (kept_cells k) fit is'
              ∙ ap (λ (x : Seat 3 (2 ∷ 2 ∷ [])). put (put (seat_of m) i x) j (fresh 3 (2 ∷ 2 ∷ [])))
              (ap₂ {C = Seat 3 (2 ∷ 2 ∷ [])} (λ (a b : Node (3 ∷ 2 ∷ 2 ∷ [])). record { grid = λ k. combine_s o (2 ∷ 2 ∷ []) (a k) (b k); filled = true })
              (sym (grid_is m s i combine_low.0)) (sym (grid_is m s j combine_low.1))))
              (kept_cells k)
              ∙ sym (served_step 3 (2 ∷ 2 ∷ []) lent (Two (Combine o) i j) m s serve),
          kept_lens k,
          unspoilt_mark j 0 is' c.unspoilt,
        ),
      )

-- ---- as the code does it
pub combined_is : (o : Operation) (n a b : ℕ) (s : St) {w : ℕ} {r r' : St} → r ≡ combine_m 3 (2 ∷ 2 ∷ []) o n a b s → w ≡ far_with false → r' ≡ wipe_m 3 (2 ∷ 2 ∷ []) n w false b r
    → r' ≡ combined_s o n a b s
unfolding far_with combined_s
combined_is o n a b s e f d = d ∙ ap₂ (λ (w : ℕ) (r : St). wipe_m 3 (2 ∷ 2 ∷ []) n w false b r) f e
