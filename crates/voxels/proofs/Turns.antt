-- One seat turned: the promise of a call that changes it, from what the code has done to the pool. Assumes nothing.
use mathlib.Core.Path.{◌≡◌, refl, sym, ap, ap₂, ◌∙◌}
use mathlib.Core.Bool.{Bool, true, false, not, cond, ◌&&◌}
use mathlib.Core.List.{List, [], ◌∷◌}
use mathlib.Core.Option.{none, some}
use Prim.Native.Nat.{ℕ, ◌-◌, ◌/◌, ◌<◌, ◌≤◌}
use native.Mathlib.Omega.{arith}
use lib.ListN.{length}
use lib.Dec.{leb, eqb}
use borrow.Author.Tests.{lt-leb}
use Rattle.floats.specs.Value.{is_finite}
use Rattle.grid.specs.Geometry.{Point, total}
use Rattle.grid.specs.Node.{Node, put}
use Rattle.grid.specs.Voxel.{insert, remove}
use Rattle.seats.specs.Call.{Call, Act, One, Insert, Remove, done}
use Rattle.seats.specs.Promise.{Keeps, grants, turn, loose}
use Rattle.seats.specs.Refusal.{refusal}
use Rattle.seats.specs.Seat.{Seat, State}
use Rattle.seats.specs.Step.{act, served, step}
use Rattle.seats.proofs.Refusal.{enough}
use Rattle.seats.proofs.Promise.{served_step}
use Rattle.nodes.specs.State.{St}
use Rattle.nodes.specs.Layout.{st, tops, slots_length, masks_length, book_length}
use Rattle.nodes.specs.Pool.{state}
use Rattle.nodes.specs.declared.pool.Pool.{Pool}
use Rattle.nodes.specs.Change.{mark_s}
use Rattle.nodes.specs.Walk.{Reach, active, hidden, broken, need_insert_r, need_remove_r, reach_s, insert_m, point_of, voxel_of}
use Rattle.nodes.specs.Remove.{remove_m}
use Rattle.nodes.specs.Test.{sound_b}
use Rattle.nodes.proofs.Pools.{st_by}
use Rattle.means.specs.Level.{levels, tree_at, Turned}
use Rattle.means.specs.Unspoilt.{Unspoilt}
use Rattle.means.specs.Mem.{Mem, lens_of, cells_of, fits, pool_of, SoundMem, seat_of, state_of, walk, whole, linked, reads_in, UnspoiltMem}
use Rattle.means.proofs.Memory.{fitting, mem_sound, seat_is}
use Rattle.means.proofs.SeatTurn.{turn_sound, turn_seats}
use Rattle.means.proofs.Points.{voxel_alike, insert_same, remove_same}
use Rattle.means.proofs.Insert.{insert_right}
use Rattle.means.proofs.Remove.{remove_right}
use Rattle.means.proofs.Unspoilt.{unspoilt_mark, insert_unspoilt, remove_unspoilt}
use Rattle.voxels.specs.Lent.{lent}
use Rattle.voxels.specs.Answers.{mem_of, Says, or_none, done_of, blocked_r}
use Rattle.std.proofs.Common.{Fits, w32, w64}
use Rattle.std.specs.Prelude.{Result, Ok, Err, IsErrAnd, get_or}
use Rattle.voxels.specs.declared.refusal.Refusal.{Refusal}
use Rattle.voxels.specs.declared.refusal.Refusal.TheVariants.{Value, Damaged, NoCells}
use Rattle.voxels.proofs.Promises.{Counted, is_sized, is_pool, is_walk, refused_says, exit_says}

-- ---- the same lengths

pub record Kept (m m' : Mem) : Type 0 where
  pub slots : length m'.slots ≡ length m.slots
  pub masks : length m'.masks ≡ length m.masks
  pub book : length m'.book ≡ length m.book

module _ {m m' : Mem} (k : Kept m m') where
  pub kept_lens : lens_of m' ≡ lens_of m
  kept_lens = cc (k.slots, k.masks, k.book)

  pub kept_cells : cells_of m' ≡ cells_of m
  kept_cells = ap (λ (n : ℕ). (n - tops) / 64) k.slots

  pub kept_fits : fits m' ≡ fits m
  unfolding fits
  kept_fits = cc (k.slots, k.masks, k.book)

  pub kept_counted : {n : ℕ} → Counted n m → Counted n m'
  kept_counted c = record { fit = kept_fits ∙ c.fit; cells = c.cells ∙ sym kept_cells }

-- a call that worked on a pool, once the slices are lent no more: p is what the pool was then. The three facts f, g and j say by their types which lists the slices hold.
pub returned : (p : Pool) {m : Mem} {n : ℕ} → Counted n m → p.n ≡ n → {s : St} → state p ≡ s → (c : Call)
    → ((m' : Mem) → Kept m m' → st n m'.slots m'.masks m'.book ≡ s → Says done_of c m (Ok tt) m') → {slots masks book : List ℕ}
    → ((i : ℕ) → Fits w32 (get_or slots i 0)) → ((i : ℕ) → Fits w64 (get_or masks i 0)) → ((i : ℕ) → Fits w32 (get_or book i 0))
    → slots ≡ p.slots.now → masks ≡ p.masks.now → book ≡ p.book.now → Says done_of c m (Ok tt) (mem_of slots masks book)
returned p {m} {n} h e t c says {slots} {masks} {book} f g j x y z = says (mem_of slots masks book) kept (st_by p e x y z ∙ t)
  where
    kept : Kept m (mem_of slots masks book)
    kept =
        let a = p.sized in
        let b = is_sized h in
        record {
          slots = ap length x ∙ a.slots_fit ∙ ap slots_length e ∙ sym b.slots_fit;
          masks = ap length y ∙ a.masks_fit ∙ ap masks_length e ∙ sym b.masks_fit;
          book = ap length z ∙ a.book_fit ∙ ap book_length e ∙ sym b.book_fit;
        }

-- ---- a call on one seat that is served: the seat is g, with the mark mk

module _ (m m' : Mem) (i : ℕ) (l : i < 8) (x : Act) (serve : refusal (reads_in m) (One i x) ≡ none) (k : Kept m m') (mk : ℕ) (two : mk < 2) (r : St) (is : pool_of m' ≡ mark_s i mk r)
    (s : SoundMem m) {g : Node (levels 2)} (a : Turned (cells_of m) 2 i (pool_of m) r g) (does : (act 3 (2 ∷ 2 ∷ []) x (seat_of m i)).1 ≡ record { grid = g; filled = eqb mk 1 }) where
  pub turns : SoundMem m' × (state_of m' ≡ (step 3 (2 ∷ 2 ∷ []) (state_of m) (One i x)).1) × (lens_of m' ≡ lens_of m) × UnspoiltMem m m'
  unfolding served
  turns = (
    turn_sound m m' s i l mk two a (kept_cells k) (kept_fits k ∙ s.0) is,
    ap₂ {C = State 3 (2 ∷ 2 ∷ [])} (λ (f : ℕ → Seat 3 (2 ∷ 2 ∷ [])) (n : ℕ). record { seat = f; all = n })
        (turn_seats m m' s i l mk two a (kept_cells k) (kept_fits k ∙ s.0) is ∙ ap (put (seat_of m) i) (sym does)) (kept_cells k)
        ∙ sym (served_step 3 (2 ∷ 2 ∷ []) lent (One i x) m s serve),
    kept_lens k,
    unspoilt_mark i mk is a.unspoilt,
  )

-- ---- insert and remove: the tests after the walk

afford_is : (x y : Bool) → cond (not x) (some 5) (cond (not y) (some 9) none) ≡ or_none (cond x (cond y (Ok tt) (Err NoCells)) (Err Damaged))
afford_is true true = refl
afford_is true false = refl
afford_is false y = refl

blocked_is : (n : ℕ) (s : St) (q : Reach) (need : ℕ)
    → cond (not (whole q && linked n s need)) (some 5) (cond (not (leb need s.count)) (some 9) none) ≡ or_none (blocked_r n s q need)
blocked_is n s (active k w) need = afford_is (linked n s need) (leb need s.count)
blocked_is n s (hidden k w) need = afford_is (linked n s need) (leb need s.count)
blocked_is n s broken need = refl

-- what the promise asks of an insert or a remove at a point: how it is refused, the state that it leaves, and that this is the rule on a sound pool
pub record Edit (x : Point → Act) (need : Reach → ℕ) (does : ℕ → Point → ℕ → St → St) : Type 0 where
  leaves : Point → Node (levels 2) → Node (levels 2)
  allowed : (m : Mem) (i : ℕ) (p : Point) → grants 3 (2 ∷ 2 ∷ []) lent (One i (x p)) m ≡ cond (sound_b (cells_of m) (pool_of m)) (turn done) loose
  barred : (m : Mem) (i : ℕ) (p : Point) → i < 8 → fits m ≡ true → refusal (reads_in m) (One i (x p)) ≡ or_none (blocked_r (cells_of m) (pool_of m) (walk m i p) (need (walk m i p)))
  suffices : (m : Mem) (i : ℕ) (p : Point) → refusal (reads_in m) (One i (x p)) ≡ none → need (walk m i p) ≤ (pool_of m).count
  right : (m : Mem) (i : ℕ) (p : Point) → i < 8 → SoundMem m → need (walk m i p) ≤ (pool_of m).count → Turned (cells_of m) 2 i (pool_of m) (does (cells_of m) p i (pool_of m))
      (leaves p (tree_at 2 (pool_of m) i))
  acts : (s : Seat 3 (2 ∷ 2 ∷ [])) (p : Point) → (act 3 (2 ∷ 2 ∷ []) (x p) s).1 ≡ record { grid = leaves p s.grid; filled = false }
  clean : (n : ℕ) (p : Point) (i : ℕ) (s : St) → n < 65536 → Unspoilt s (does n p i s)
  same : (n : ℕ) (p : Point) → does n p ≡ does n (point_of (voxel_of p))

pub inserting : (w : ℕ) → is_finite w ≡ true → Edit (λ p. Insert p w) (λ q. need_insert_r q w) (λ n p. insert_m 3 (2 ∷ 2 ∷ []) n p w)
unfolding act walk total
inserting w f =
    record {
      leaves = λ p. insert (3 ∷ 2 ∷ 2 ∷ []) p w;
      allowed = λ m i p. refl;
      barred = λ m i p l fit. rw (fit, lt-leb 8 i l, f) (blocked_is (cells_of m) (pool_of m) (walk m i p) (need_insert_r (walk m i p) w));
      suffices = λ m i p serve. enough (reads_in m) (One i (Insert p w)) serve refl;
      right = λ m i p l s h. insert_right (cells_of m) p w f 2 (pool_of m) i s.1 (l, refl) h;
      acts = λ s p. refl;
      clean = λ n p i s h. insert_unspoilt h w f 3 (2 ∷ 2 ∷ []) p i s;
      same = λ n p. insert_same 7 p (point_of (voxel_of p)) (voxel_alike p) 3 (2 ∷ 2 ∷ []) (omega arith) n w;
    }

pub removing : Edit Remove need_remove_r (remove_m 3 (2 ∷ 2 ∷ []))
unfolding act walk total
removing =
    record {
      leaves = λ p. remove (3 ∷ 2 ∷ 2 ∷ []) p;
      allowed = λ m i p. refl;
      barred = λ m i p l fit. rw (fit, lt-leb 8 i l) (blocked_is (cells_of m) (pool_of m) (walk m i p) (need_remove_r (walk m i p)));
      suffices = λ m i p serve. enough (reads_in m) (One i (Remove p)) serve refl;
      right = λ m i p l s h. remove_right (cells_of m) p 2 (pool_of m) i s.1 (l, refl) h;
      acts = λ s p. refl;
      clean = λ n p i s h. remove_unspoilt h 3 (2 ∷ 2 ∷ []) p i s;
      same = λ n p. remove_same 7 p (point_of (voxel_of p)) (voxel_alike p) 3 (2 ∷ 2 ∷ []) (omega arith) n;
    }

module _ {x : Point → Act} {need : Reach → ℕ} {does : ℕ → Point → ℕ → St → St} (d : Edit x need does) where
  -- where nothing refuses it: on a sound pool the rule, on any other no slot is spoilt
  module _ (m m' : Mem) (i : ℕ) (p : Point) (l : i < 8) (fit : fits m ≡ true) (serve : refusal (reads_in m) (One i (x p)) ≡ none) (k : Kept m m')
      (is : pool_of m' ≡ mark_s i 0 (does (cells_of m) p i (pool_of m))) where
    edits : (b : Bool) → sound_b (cells_of m) (pool_of m) ≡ b → Keeps 3 (2 ∷ 2 ∷ []) lent (cond b (turn done) loose) (One i (x p)) m done m'
    edits true e =
        let s = mem_sound m fit e in
        let t = turns m m' i l (x p) serve k 0 (omega arith) _ is s (d.right m i p l s (d.suffices m i p serve))
        (d.acts (seat_of m i) p ∙ ap (λ (g : Seat 3 (2 ∷ 2 ∷ [])). record { grid = d.leaves p g.grid; filled = false }) (seat_is m s i l)) in
        (refl, t.0, t.1, t.2, t.3)
    edits false e = (refl, kept_lens k, unspoilt_mark i 0 is (d.clean (cells_of m) p i (pool_of m) (fitting m fit).most))

    edit_says : Says done_of (One i (x p)) m (Ok tt) m'
    edit_says = (done, refl, rw (serve, d.allowed m i p) (edits (sound_b (cells_of m) (pool_of m)) refl))

  -- as the code does it, by the number of the voxel, on memory for n cells; r is the refusal that it found, if any
  module _ {m : Mem} {n : ℕ} (h : Counted n m) (i v : ℕ) (l : i < 8) (p : Point) (e : v ≡ voxel_of p) {r : Result Unit Refusal}
      (found : (let s = st n m.slots m.masks m.book in let q = reach_s 3 (2 ∷ 2 ∷ []) n s i (point_of v) in r ≡ blocked_r n s q (need q))) where
    walked : (let s = st n m.slots m.masks m.book in let q = reach_s 3 (2 ∷ 2 ∷ []) n s i (point_of v) in blocked_r n s q (need q))
        ≡ blocked_r (cells_of m) (pool_of m) (walk m i p) (need (walk m i p))
    walked = cc (h.cells, is_pool h, is_walk h i v p e)

    barred_r : refusal (reads_in m) (One i (x p)) ≡ or_none r
    barred_r = d.barred m i p l h.fit ∙ ap or_none (sym (found ∙ walked))

  module _ {m : Mem} {n : ℕ} (h : Counted n m) (i v : ℕ) (l : i < 8) (p : Point) (e : v ≡ voxel_of p) where
    pub edit_blocked : {q : Refusal} {r : Result Unit Refusal}
        → (let s = st n m.slots m.masks m.book in let w = reach_s 3 (2 ∷ 2 ∷ []) n s i (point_of v) in Err q ≡ blocked_r n s w (need w)) → IsErrAnd r (λ y. y ≡ q)
        → Says done_of (One i (x p)) m r m
    edit_blocked f b = exit_says done_of (λ n. refl) (One i (x p)) m _ b (barred_r h i v l p e f)

    pub edit_done : {u : Unit} → (let s = st n m.slots m.masks m.book in let w = reach_s 3 (2 ∷ 2 ∷ []) n s i (point_of v) in Ok u ≡ blocked_r n s w (need w))
        → (m' : Mem) → Kept m m' → st n m'.slots m'.masks m'.book ≡ mark_s i 0 (does n (point_of v) i (st n m.slots m.masks m.book)) → Says done_of (One i (x p)) m (Ok tt) m'
    edit_done f m' k is = edit_says m m' i p l h.fit (barred_r h i v l p e f) k
        (sym (is_pool (kept_counted k h)) ∙ is ∙ ap (λ (q : ℕ → St → St). mark_s i 0 (q i (st n m.slots m.masks m.book))) (ap (λ (j : ℕ). does n (point_of j)) e ∙ sym (d.same n p))
        ∙ cc (h.cells, is_pool h))

-- the value is tested after the seat
pub insert_4 : {m : Mem} {n : ℕ} → Counted n m → (i : ℕ) → i < 8 → (p : Point) (w : ℕ) → is_finite w ≡ false → Says done_of (One i (Insert p w)) m (Err Value) m
insert_4 {m} h i l p w f = refused_says done_of (λ n. refl) (One i (Insert p w)) m Value (rw (h.fit, lt-leb 8 i l, f) refl)
