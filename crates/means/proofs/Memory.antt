-- What the refusals read of a sound pool is what its seats have: the laws that every promise rests on. Assumes nothing.
use mathlib.Core.Path.{◌≡◌, refl, sym, ◌∙◌, ap, ap₂, subst}
use mathlib.Core.Bool.{Bool, true, false, ◌&&◌, ◌||◌}
use mathlib.Core.List.{[], ◌∷◌}
use Prim.Native.Nat.{ℕ, ◌+◌, ◌-◌, ◌<◌, ◌≤◌}
use native.Mathlib.Omega.{arith}
use lib.ListN.{length}
use lib.Dec.{ltb, leb, eqb}
use borrow.Author.Tests.{lt-ltb, le-leb, leb-false, ltb-true, eqb-true}
use Rattle.bitset.proofs.Every.{and_both, every_intro}
use Rattle.grid.specs.Geometry.{Point}
use Rattle.grid.specs.Node.{Proper}
use Rattle.grid.specs.Voxel.{lookup, sign_at}
use Rattle.grid.specs.Whole.{reach}
use Rattle.grid.proofs.Places.{sum_same}
use Rattle.seats.specs.Call.{Call, One, Two, Prepare, Count, Lookup, Sign, Remove, Insert, Fill, Cut, Clear, Prune, Flip, FillSigns, IsEmpty, Copy, Combine, names}
use Rattle.seats.specs.Promise.{among, Agree}
use Rattle.seats.specs.Seat.{Seat, reached, used, free}
use Rattle.seats.specs.Step.{reads_of, need_of, need_one, need_two}
use Rattle.seats.proofs.Names.{among_head}
use Rattle.nodes.specs.State.{tree}
use Rattle.nodes.specs.Layout.{slots_length, masks_length, book_length}
use Rattle.nodes.specs.Walk.{Reach, active, hidden, broken, reach_s, need_insert_r, need_remove_r}
use Rattle.nodes.specs.Test.{sound_b}
use Rattle.means.specs.Level.{At}
use Rattle.means.specs.Mem.{Mem, cells_of, fits, pool_of, SoundMem, seat_of, state_of, walk, whole, linked, path_of, need_in, reads_in, lookup_in, negative_in}
use Rattle.means.proofs.Count.{pool_equation}
use Rattle.means.proofs.Lookup as walks
use Rattle.means.proofs.ProperTree.{sound_proper}
use Rattle.means.proofs.Test as test

-- ---- lengths that belong together

pub record Fitting (m : Mem) : Type 0 where
  pub some : 0 < cells_of m
  pub most : cells_of m < 65536
  pub slots : length m.slots ≡ slots_length (cells_of m)
  pub masks : length m.masks ≡ masks_length (cells_of m)
  pub book : length m.book ≡ book_length (cells_of m)

pub fitting : (m : Mem) → fits m ≡ true → Fitting m
unfolding fits
fitting m e =
    let a = and_both (ltb 0 (cells_of m)) _ e in
    let b = and_both (ltb (cells_of m) 65536) _ a.1 in
    let c = and_both (eqb (length m.slots) (slots_length (cells_of m))) _ b.1 in
    let d = and_both (eqb (length m.masks) (masks_length (cells_of m))) _ c.1 in
    record {
      some = ltb-true 0 (cells_of m) a.0;
      most = ltb-true (cells_of m) 65536 b.0;
      slots = eqb-true (length m.slots) (slots_length (cells_of m)) c.0;
      masks = eqb-true (length m.masks) (masks_length (cells_of m)) d.0;
      book = eqb-true (length m.book) (book_length (cells_of m)) d.1;
    }

-- the test is that the pool is sound
pub mem_sound : (m : Mem) → fits m ≡ true → sound_b (cells_of m) (pool_of m) ≡ true → SoundMem m
mem_sound m f e = (f, test.is_sound (cells_of m) (pool_of m) (fitting m f).most e)

-- ---- a sound pool

module _ (m : Mem) (s : SoundMem m) where
  pub seat_is : (t : ℕ) → t < 8 → seat_of m t ≡ record { grid = tree 3 (2 ∷ 2 ∷ []) (pool_of m) t; filled = eqb ((pool_of m).mark t) 1 }
  unfolding seat_of
  seat_is t l = rw (lt-ltb t 8 l) refl

  -- the cells that the seats reach, and the recorded count, are all cells
  all_cells : (pool_of m).count + used 3 (2 ∷ 2 ∷ []) (seat_of m) ≡ cells_of m
  unfolding used reached
  all_cells =
      omega (
        arith,
        pool_equation s.1,
        sum_same 8 (λ t. reach 3 (2 ∷ 2 ∷ []) (seat_of m t).grid) (λ t. reach 3 (2 ∷ 2 ∷ []) (tree 3 (2 ∷ 2 ∷ []) (pool_of m) t))
            (λ t l. ap (λ (x : Seat 3 (2 ∷ 2 ∷ [])). reach 3 (2 ∷ 2 ∷ []) x.grid) (seat_is t l)),
      )

  pub within : used 3 (2 ∷ 2 ∷ []) (seat_of m) ≤ cells_of m
  within = omega (arith, all_cells)

  -- the recorded count is what the seats leave free
  pub count_is : (pool_of m).count ≡ free 3 (2 ∷ 2 ∷ []) (state_of m)
  unfolding free
  count_is = omega (arith, all_cells)

  -- every place that is recorded links into the pool
  links_good : (need : ℕ) → linked (cells_of m) (pool_of m) need ≡ true
  unfolding linked
  links_good need =
      or_second (eqb need 0) _
      (both (le-leb (pool_of m).count (cells_of m) s.1.few) (every_intro _ need (λ j l. place j)))
    where
      or_second : (x y : Bool) → y ≡ true → x || y ≡ true
      or_second true y e = refl
      or_second false y e = e

      both : {x y : Bool} → x ≡ true → y ≡ true → x && y ≡ true
      both e f = ap₂ ◌&&◌ e f

      place : (j : ℕ) → leb (pool_of m).count j || ltb ((pool_of m).stack ((pool_of m).count - 1 - j)) (cells_of m) ≡ true
      place j = go (leb (pool_of m).count j) refl
        where
          go : (x : Bool) → leb (pool_of m).count j ≡ x → x || ltb ((pool_of m).stack ((pool_of m).count - 1 - j)) (cells_of m) ≡ true
          go true e = refl
          go false e = lt-ltb _ (cells_of m) (s.1.stacked ((pool_of m).count - 1 - j) (omega (arith, leb-false (pool_of m).count j e))).inside

  -- ---- the walk to a point in a seat

  module _ (i : ℕ) (l : i < 8) (p : Point) where
    top : At (cells_of m) (pool_of m) 2 i
    top = (l, refl)

    same : tree 3 (2 ∷ 2 ∷ []) (pool_of m) i ≡ (seat_of m i).grid
    same = sym (ap (λ (x : Seat 3 (2 ∷ 2 ∷ [])). x.grid) (seat_is i l))

    walk_whole : whole (walk m i p) ≡ true
    unfolding walk
    walk_whole = go (reach_s 3 (2 ∷ 2 ∷ []) (cells_of m) (pool_of m) i p) (walks.reach_known (cells_of m) (pool_of m) p s.1 2 i top)
      where
        go : (r : Reach) → (r ≡ broken → ⊥) → whole r ≡ true
        go (active l w) h = refl
        go (hidden l w) h = refl
        go broken h = absurd (h refl)

    pub lookup_is : lookup_in i p m ≡ lookup (3 ∷ 2 ∷ 2 ∷ []) (seat_of m i).grid p
    unfolding walk
    lookup_is = walks.lookup_right (cells_of m) (pool_of m) p s.1 2 i top ∙ ap (λ g. lookup (3 ∷ 2 ∷ 2 ∷ []) g p) same

    pub negative_is_lem : negative_in i p m ≡ sign_at (3 ∷ 2 ∷ 2 ∷ []) (seat_of m i).grid p
    unfolding walk
    negative_is_lem = walks.sign_right (cells_of m) (pool_of m) p s.1 2 i top ∙ ap (λ g. sign_at (3 ∷ 2 ∷ 2 ∷ []) g p) same

    need_insert : (w : ℕ) → need_insert_r (walk m i p) w ≡ need_one 3 (2 ∷ 2 ∷ []) (Insert p w) (seat_of m i)
    unfolding walk need_one
    need_insert w = walks.need_insert_right (cells_of m) (pool_of m) p s.1 2 i top w ∙ ap (λ g. need_one 3 (2 ∷ 2 ∷ []) (Insert p w) (record { grid = g; filled = true })) same

    need_remove : need_remove_r (walk m i p) ≡ need_one 3 (2 ∷ 2 ∷ []) (Remove p) (seat_of m i)
    unfolding walk need_one
    need_remove = walks.need_remove_right (cells_of m) (pool_of m) p s.1 2 i top ∙ ap (λ g. need_one 3 (2 ∷ 2 ∷ []) (Remove p) (record { grid = g; filled = true })) same

  pub proper_is : (i : ℕ) → i < 8 → Proper (3 ∷ 2 ∷ 2 ∷ []) (seat_of m i).grid
  proper_is i l = subst (λ x. Proper (3 ∷ 2 ∷ 2 ∷ []) x.grid) (sym (seat_is i l)) (sound_proper s.1 i l)

  -- ---- what the refusals read

  abbrev Below : Call → Type 0
  Below c = (i : ℕ) → among i (names c) ≡ true → i < 8

  path_good : (c : Call) → Below c → path_of m c ≡ true
  path_good (One i (Lookup p)) l = walk_whole i (l i (among_head i [])) p
  path_good (One i (Sign p)) l = walk_whole i (l i (among_head i [])) p
  path_good (One i (Remove p)) l = ap₂ ◌&&◌ (walk_whole i (l i (among_head i [])) p) (links_good (need_remove_r (walk m i p)))
  path_good (One i (Insert p w)) l = ap₂ ◌&&◌ (walk_whole i (l i (among_head i [])) p) (links_good (need_insert_r (walk m i p) w))
  path_good (One i (Fill v)) l = refl
  path_good (One i (Cut t)) l = refl
  path_good (One i Clear) l = refl
  path_good (One i Prune) l = refl
  path_good (One i Flip) l = refl
  path_good (One i FillSigns) l = refl
  path_good (One i IsEmpty) l = refl
  path_good (Two x i j) l = refl
  path_good Prepare l = refl
  path_good Count l = refl

  need_is : (c : Call) → Below c → need_in m c ≡ need_of 3 (2 ∷ 2 ∷ []) c (seat_of m)
  unfolding need_one need_two
  need_is (One i (Lookup p)) l = refl
  need_is (One i (Sign p)) l = refl
  need_is (One i (Remove p)) l = need_remove i (l i (among_head i [])) p
  need_is (One i (Insert p w)) l = need_insert i (l i (among_head i [])) p w
  need_is (One i (Fill v)) l = refl
  need_is (One i (Cut t)) l = refl
  need_is (One i Clear) l = refl
  need_is (One i Prune) l = refl
  need_is (One i Flip) l = refl
  need_is (One i FillSigns) l = refl
  need_is (One i IsEmpty) l = refl
  need_is (Two Copy i j) l = refl
  need_is (Two (Combine o) i j) l = refl
  need_is Prepare l = refl
  need_is Count l = refl

  pub reads_is : (c : Call) → ((i : ℕ) → among i (names c) ≡ true → i < 8) → Agree c (reads_in m) (reads_of 3 (2 ∷ 2 ∷ []) (seat_of m) (free 3 (2 ∷ 2 ∷ []) (state_of m)))
  reads_is c l =
      record {
        fit = s.0;
        path = path_good c l;
        sound = test.sound_is (cells_of m) (pool_of m) s.1.room s.1;
        filled = λ i a. sym (ap (λ (x : Seat 3 (2 ∷ 2 ∷ [])). x.filled) (seat_is i (l i a)));
        hollow = λ i a. refl;
        empty = λ i a. refl;
        need = need_is c l;
        free = count_is;
      }
