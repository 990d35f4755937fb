-- The promises of the calls on the pool and of those that only read a seat, from what the code tested and read. Assumes nothing.
use mathlib.Core.Path.{◌≡◌, refl, sym, ap, ap₂, ◌∙◌, subst, fun_ext}
use mathlib.Core.Bool.{Bool, true, false, not, ◌&&◌, cond}
use mathlib.Core.List.{List, [], ◌∷◌}
use mathlib.Core.Option.{none, some}
use Prim.Native.Nat.{ℕ, zero, suc, ◌+◌, ◌-◌, ◌*◌, ◌%◌, ◌<◌, ◌≤◌}
use native.Mathlib.Omega.{arith}
use lib.ListN.{get_or, take, drop}
use lib.Dec.{ltb, eqb}
use borrow.Author.Tests.{ltb-true}
use Rattle.floats.proofs.Words.{on_case}
use Rattle.bitset.specs.Set.{bit_of, every, empty}
use Rattle.bitset.proofs.Every.{both_ways, and_both, every_intro, every_elim}
use Rattle.bitset.proofs.Parts.{bit_part}
use Rattle.grid.specs.Node as node
use Rattle.grid.specs.Node.{Node, is_hidden, size}
use Rattle.grid.specs.Whole.{is_empty}
use Rattle.seats.specs.Call.{One, IsEmpty, Prepare, Count, empty_is, free_cells, done}
use Rattle.seats.specs.Refusal.{refusal}
use Rattle.seats.specs.Seat.{Seat, State, fresh}
use Rattle.seats.specs.Step.{step, play, served}
use Rattle.nodes.specs.State.{St, slot_at, tree}
use Rattle.nodes.specs.Layout.{st, word_of, count_place}
use Rattle.nodes.proofs.Places.{word_top}
use Rattle.nodes.proofs.States.{st_kid, st_val}
use Rattle.means.specs.Level.{Same}
use Rattle.means.specs.Unspoilt.{Unspoilt}
use Rattle.means.specs.Mem.{Mem, cells_of, fits, pool_of, SoundMem, seat_of, state_of, reads_in, UnspoiltMem}
use Rattle.means.specs.Prepared.{Ready}
use Rattle.means.proofs.Memory.{fitting, seat_is}
use Rattle.means.proofs.Prepared.{ready_sound, ready_fresh}
use Rattle.std.specs.Prelude.{Result, Ok, Err, Option as Maybe, Some, None, ok_or}
use Rattle.voxels.specs.Refused.{number_of}
use Rattle.voxels.specs.declared.refusal.Refusal.{Refusal}
use Rattle.voxels.specs.declared.refusal.Refusal.TheVariants.{Lengths}
use Rattle.voxels.specs.Answers.{Says, done_of, whether_of}
use Rattle.pool.specs.Count.{count_of}
use Rattle.sound.proofs.Book.{st_count}
use Rattle.sound.proofs.Checks.{passed, failed}
use Rattle.pool.proofs.Guards.{served_seat, served_sound}
use Rattle.voxels.proofs.Promises.{Counted, not_counted, is_pool}
use Rattle.voxels.proofs.Turns.{Kept, kept_lens, kept_cells, kept_counted}
use Rattle.sound.proofs.Ready.{top, prepared_unspoilt}

-- ---- preparing: m is the memory before it, and m' after it

-- a seat of a pool made ready is as after Clear
ready_seat : (m : Mem) → Ready (cells_of m) (pool_of m) → (t : ℕ) → seat_of m t ≡ fresh 3 (2 ∷ 2 ∷ [])
unfolding seat_of fresh
ready_seat m r t = on_case (ltb t 8)
    (λ e.
    let l = ltb-true t 8 e in
    rw e
    (ap₂ {C = Seat 3 (2 ∷ 2 ∷ [])} (λ (g : Node (3 ∷ 2 ∷ 2 ∷ [])) (k : ℕ). record { grid = g; filled = eqb k 1 }) (ready_fresh r t l) (r.unmarked t l)))
    (λ e. rw e refl)

-- refusal 1: the test of the lengths answered with o
pub prepare_refused : (m : Mem) (e : Refusal) {o : Maybe ℕ} → o ≡ None → Err e ≡ ok_or o Lengths → o ≡ cond (fits m) (Some (cells_of m)) None → refusal (reads_in m) Prepare ≡ some (number_of e)
prepare_refused m e z v h =
    let d : e ≡ Lengths = lengths (v ∙ ap (λ (o : Maybe ℕ). ok_or o Lengths) z) in
    rw (d, not_counted m (sym z ∙ h)) refl
  where
    lengths : ◌≡◌ {A = Result ℕ Refusal} (Err e) (Err Lengths) → e ≡ Lengths
    lengths q = cc

pub prepare_says : (m m' : Mem) (n : ℕ) → Counted n m → Ready n (st n m'.slots m'.masks m'.book)
    → ((x : ℕ) → 8 ≤ x → Same (st n m.slots m.masks m.book) (st n m'.slots m'.masks m'.book) x) → Kept m m' → Says done_of Prepare m (Ok tt) m'
unfolding step play served
prepare_says m m' n h r w k = (done, refl, rw h.fit (refl, sound, state, kept_lens k, unspoilt))
  where
    -- the lengths are the same, and so is the number of cells
    after : Counted n m'
    after = kept_counted k h

    ready : Ready (cells_of m') (pool_of m')
    ready = subst (λ (k : ℕ). Ready k (pool_of m')) after.cells (subst (Ready n) (is_pool after) r)

    sound : SoundMem m'
    sound = (after.fit, ready_sound ready (fitting m' after.fit).most)

    state : state_of m' ≡ record { seat = λ t. fresh 3 (2 ∷ 2 ∷ []); all = cells_of m }
    state =
        ap₂ {C = State 3 (2 ∷ 2 ∷ [])} (λ (s : ℕ → Seat 3 (2 ∷ 2 ∷ [])) (k : ℕ). record { seat = s; all = k })
        (fun_ext (ready_seat m' ready)) (kept_cells k)

    unspoilt : UnspoiltMem m m'
    unspoilt = subst (λ (s : St). Unspoilt s (pool_of m')) (is_pool h) (subst (Unspoilt (st n m.slots m.masks m.book)) (is_pool after) (prepared_unspoilt n m'.slots m'.masks m'.book r w))

-- ---- both masks of a top are empty exactly where every slot of it is hidden

every_is : {A : Type 0} (f : A → Bool) (k : ℕ) (g : ℕ → A) → node.every f k g ≡ every (λ i. f (g i)) k
unfolding node.every every
every_is f zero g = refl
every_is f (suc k) g = ap (λ (b : Bool). f (g k) && b) (every_is f k g)

every_both : (p q r : ℕ → Bool) (n : ℕ) → ((k : ℕ) → k < n → r k ≡ p k && q k) → every r n ≡ every p n && every q n
every_both p q r n h =
    both_ways (every r n) (every p n && every q n)
    (λ e.
    let b : (k : ℕ) → k < n → (p k ≡ true) × (q k ≡ true) = λ k l. and_both (p k) (q k) (sym (h k l) ∙ every_elim r n e k l) in
    ap₂ ◌&&◌ (every_intro p n (λ k l. (b k l).0)) (every_intro q n (λ k l. (b k l).1)))
    (λ e.
    let b = and_both (every p n) (every q n) e in
    every_intro r n (λ k l. h k l ∙ ap₂ ◌&&◌ (every_elim p n b.0 k l) (every_elim q n b.1 k l)))

hidden_is : {C : Type 0} (f : ℕ → C) (s : St) (x k : ℕ) → is_hidden (slot_at f s x k) ≡ not (s.kid x k) && not (s.val x k)
unfolding is_hidden
hidden_is f s x k = on_case (s.kid x k) (λ e. rw e refl) (λ e. on_case (s.val x k) (λ d. rw (e, d) refl) (λ d. rw (e, d) refl))

-- the top of seat t, by its words in the child masks and in the value masks
module _ (n : ℕ) (slots masks book : List ℕ) (t : ℕ) (l : t < 8) where
  abbrev kids : List ℕ
  kids = take (8 * t + 8 - 8 * t) (drop (8 * t) masks)

  abbrev vals : List ℕ
  vals = take (64 + n + 8 * t + 8 - (64 + n + 8 * t)) (drop (64 + n + 8 * t) masks)

  abbrev grid : Node (3 ∷ 2 ∷ 2 ∷ [])
  grid = tree 3 (2 ∷ 2 ∷ []) (st n slots masks book) t

  kid_bit_lem : (k : ℕ) → k < 512 → (st n slots masks book).kid t k ≡ bit_of kids k
  kid_bit_lem k h =
      let e : word_of t k ≡ 64 * (8 * t) + k = omega (arith, word_top t k l) in
      st_kid slots masks book (top n t k l h) ∙ ap (bit_of masks) e ∙ sym (bit_part masks (8 * t) (8 * t + 8 - 8 * t) k (omega arith))

  val_bit_lem : (k : ℕ) → k < 512 → (st n slots masks book).val t k ≡ bit_of vals k
  val_bit_lem k h =
      let e : 64 * (64 + n) + word_of t k ≡ 64 * (64 + n + 8 * t) + k = omega (arith, word_top t k l) in
      st_val slots masks book (top n t k l h) ∙ ap (bit_of masks) e
      ∙ sym (bit_part masks (64 + n + 8 * t) (64 + n + 8 * t + 8 - (64 + n + 8 * t)) k (omega arith))

  slot_hidden : (k : ℕ) → k < 512 → is_hidden (grid k) ≡ not (bit_of kids k) && not (bit_of vals k)
  unfolding tree size
  slot_hidden k h =
      let e : k % 512 ≡ k = omega arith in
      ap (λ (j : ℕ). is_hidden (slot_at (tree 2 (2 ∷ []) (st n slots masks book)) (st n slots masks book) t j)) e
      ∙ hidden_is (tree 2 (2 ∷ []) (st n slots masks book)) (st n slots masks book) t k
      ∙ ap₂ (λ (a b : Bool). not a && not b) (kid_bit_lem k h) (val_bit_lem k h)

  empty_is_lem : is_empty 3 (2 ∷ 2 ∷ []) grid ≡ empty kids 512 && empty vals 512
  unfolding is_empty size
  empty_is_lem = every_is is_hidden 512 grid ∙ every_both (λ k. not (bit_of kids k)) (λ k. not (bit_of vals k)) (λ k. is_hidden (grid k)) 512 slot_hidden

  module _ (r : Bool) (e : r ≡ empty kids 512) where
    pub kids_on : not r ≡ true → false ≡ is_empty 3 (2 ∷ 2 ∷ []) grid
    kids_on f = sym (empty_is_lem ∙ rw (failed r e f) refl)

    pub vals_say : not r ≡ false → (q : Bool) → q ≡ empty vals 512 → q ≡ is_empty 3 (2 ∷ 2 ∷ []) grid
    vals_say f q d = d ∙ sym (empty_is_lem ∙ rw (passed r e f) refl)

-- ---- a call that tests the whole pool and is served
pub count_says : (m : Mem) → refusal (reads_in m) Count ≡ none → (k : ℕ) → k ≡ get_or m.book count_place 0 → Says count_of Count m (Ok k) m
unfolding pool_of
count_says m serve k d = (free_cells k, refl, rw serve (ap free_cells (d ∙ sym (st_count (cells_of m) m.slots m.masks m.book)), refl))

pub empty_says : (m : Mem) (n : ℕ) (h : Counted n m) (i : ℕ) → refusal (reads_in m) (One i IsEmpty) ≡ none
    → (r : Bool) → r ≡ is_empty 3 (2 ∷ 2 ∷ []) (tree 3 (2 ∷ 2 ∷ []) (st n m.slots m.masks m.book) i) → Says whether_of (One i IsEmpty) m (Ok r) m
empty_says m n h i serve r d =
    let s = served_sound m (One i IsEmpty) serve refl in (
      empty_is r,
      refl,
      rw serve (
        ap empty_is (d ∙ ap (λ (s : St). is_empty 3 (2 ∷ 2 ∷ []) (tree 3 (2 ∷ 2 ∷ []) s i)) (is_pool h)
            ∙ sym (ap (λ (x : Seat 3 (2 ∷ 2 ∷ [])). is_empty 3 (2 ∷ 2 ∷ []) x.grid) (seat_is m s i (served_seat m i IsEmpty serve)))),
        refl,
      ),
    )
