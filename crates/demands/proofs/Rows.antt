-- Each test of the one list of refusals holds exactly where its row of document 01's table does, if no row before it does. Assumes nothing.
use mathlib.Core.Path.{◌≡◌, refl, sym, ap, ◌∙◌}
use mathlib.Core.Bool.{Bool, true, false, not, ◌&&◌, ◌||◌, false≢true}
use mathlib.Core.List.{[], ◌∷◌}
use mathlib.Core.Logic.{◌⊎◌, inl, inr, ◌↔◌}
use Prim.Native.Nat.{ℕ, ◌<◌}
use native.Mathlib.Omega.{arith}
use lib.Dec.{leb, eqb, leb-zero}
use lib.Ieee.Scale.{finite}
use borrow.Author.Tests.{lt-leb, leb-true, leb-false, eqb-true, eqb-false, eq-eqb, not-true, not-false}
use Rattle.floats.specs.declared.Test.TheVariants.{Below, Above, Between}
use Rattle.floats.proofs.Words.{on_case}
use Rattle.grid.specs.Geometry.{Point}
use Rattle.grid.specs.Whole.{has_hollow, is_empty}
use Rattle.seats.specs.Call.{Lookup, Sign, Remove, Insert, Fill, Cut, Clear, Prune, Flip, FillSigns, IsEmpty, Pair, Copy, Combine, Call, One, Two, Prepare, Count, whole_pool, on_kind, asks}
use Rattle.seats.specs.Refusal as test
use Rattle.seats.specs.Refusal.{order}
use Rattle.seats.specs.Step.{need_one, need_two}
use Rattle.seats.proofs.Refusal.{Each}
use Rattle.nodes.specs.Test.{sound_b}
use Rattle.means.specs.Mem.{Mem, cells_of, fits, pool_of, seat_of, reads_in}
use Rattle.means.proofs.Memory.{Fitting, fitting, mem_sound}
use Rattle.means.proofs.Test.{sound_is}
use Rattle.sound.proofs.Fits.{fit_is}
use Rattle.demands.specs.Rows.{Together, OneVoxel, lookup, sign, insert, remove, needed, Bare, BareBranch, Row, lengths, seat_above, pair_above}
use Rattle.demands.specs.Rows.{pair_equal, insert_value, fill_value, below_bound, above_bound, between_bound, path, free, pool, sign_unfilled}
use Rattle.demands.specs.Rows.{pair_unfilled, signs_bare, pair_bare, onto, few}
use Rattle.demands.proofs.Read.{is_bare, bare_is, bare_branch, no_branch_bare, at_most_7, grid_is}
use Rattle.demands.proofs.Voxel.{one_below, kind_is, few_is, voxel_forth, path_back, free_back}

-- ---- tests and what they are of
no : {A : Type 0} → false ≡ true → A
no e = absurd (false≢true e)

decided : {b : Bool} {P : Type 0} → (b ≡ true → P) → (b ≡ false → P → ⊥) → (b ≡ true) ↔ P
decided {b} f g = (f, λ h. on_case b (λ e. e) (λ e. absurd (g e h)))

either : {a b : Bool} {A B : Type 0} → (a ≡ true) ↔ A → (b ≡ true) ↔ B → (a || b ≡ true) ↔ (A ⊎ B)
either {a = true} f g = (λ e. inl (f.0 refl), λ h. refl)
either {a = false} f g = (λ e. inr (g.0 e), elim [ inl h ↦ no (f.1 h) | inr h ↦ g.1 h ])

neither : (a b : Bool) → (not (a && b) ≡ true) ↔ ((a ≡ false) ⊎ (b ≡ false))
neither true b = (λ e. inr (not-true b e), elim [ inl h ↦ no (sym h) | inr h ↦ ap not h ])
neither false b = (λ e. inl refl, λ h. refl)

above : (i : ℕ) → (leb 8 i ≡ true) ↔ (7 < i)
above i = decided (leb-true 8 i) (λ e h. omega (arith, leb-false 8 i e))

unmarked : (k : ℕ) → (not (eqb k 1) ≡ true) ↔ (k ≡ 1 → ⊥)
unmarked k = decided (λ e. eqb-false k 1 (not-true (eqb k 1) e)) (λ e h. h (eqb-true k 1 (not-false (eqb k 1) e)))

-- ---- the lengths
together_fits : (m : Mem) (n : ℕ) → Together n m → fits m ≡ true
together_fits m n t = fit_is m f
  where
    same : cells_of m ≡ n
    same = omega (arith, t.slots)

    f : Fitting m
    f = record {
      some = omega (arith, same, t.least);
      most = omega (arith, same, t.most);
      slots = omega (arith, same, t.slots);
      masks = omega (arith, same, t.masks);
      book = omega (arith, same, t.book);
    }

fits_together : (m : Mem) → fits m ≡ true → Together (cells_of m) m
fits_together m e =
    let f = fitting m e in
    record { least = f.some; most = omega (arith, f.most); slots = f.slots; masks = f.masks; book = f.book }

-- ---- which call it is, from what the list asks of it
data Sort : Call → Type 0 where
  voxel : {c : Call} {i : ℕ} {p : Point} → OneVoxel c i p → Sort c
  pooled : {c : Call} → (asks c).kind ≡ whole_pool → Sort c
  prepares : Sort Prepare

module _ (m : Mem) where
  bare : (i : ℕ) → i < 8 → (has_hollow 3 (2 ∷ 2 ∷ []) (seat_of m i).grid ≡ true) ↔ BareBranch 3 (2 ∷ 2 ∷ []) (pool_of m) i
  bare i l = rw (grid_is m i l) (decided (bare_branch (pool_of m) 3 (2 ∷ 2 ∷ []) i) (no_branch_bare (pool_of m) 3 (2 ∷ 2 ∷ []) i))

  full : (j : ℕ) → j < 8 → (not (is_empty 3 (2 ∷ 2 ∷ []) (seat_of m j).grid) ≡ true) ↔ (Bare 3 (2 ∷ 2 ∷ []) (pool_of m) j → ⊥)
  unfolding is_empty
  full j l = rw (grid_is m j l)
      (decided (λ e b. no (sym (not-true _ e) ∙ bare_is (pool_of m) 3 (2 ∷ 2 ∷ []) j b)) (λ e h. h (is_bare (pool_of m) 3 (2 ∷ 2 ∷ []) j (not-false _ e))))

  two_below : {x : Pair} {i j : ℕ} → (Row 2 (Two x i j) m → ⊥) → (i < 8) × (j < 8)
  two_below {i = i} {j} h = (at_most_7 i (λ l. h (pair_above (inl l))), at_most_7 j (λ l. h (pair_above (inr l))))

  -- of a call: its sort, its rows 4 and 6 to 8 from their tests, and the test of row 9 in the words of the rule
  abbrev Told : Call → Type 0
  Told c =
      Sort c
      × (test.not_finite (reads_in m) c ≡ true → Row 4 c m)
      × (test.not_filled (reads_in m) c ≡ true → Row 6 c m)
      × (test.hollow_branch (reads_in m) c ≡ true → Row 7 c m)
      × (test.onto_full (reads_in m) c ≡ true → Row 8 c m)
      × ((Row 5 c m → ⊥) → test.too_few (reads_in m) c ≡ not (leb (needed c m) (pool_of m).count))

  -- no cell is needed
  spare : {A : Type 0} → A → false ≡ not (leb 0 (pool_of m).count)
  spare h = sym (ap not (leb-zero (pool_of m).count))

  told : (c : Call) → (Row 2 c m → ⊥) → Told c
  unfolding need_one need_two
  told (One i (Lookup p)) h = (voxel lookup, no, no, no, no, spare)
  told (One i (Sign p)) h = (voxel sign, no, λ e. sign_unfilled ((unmarked ((pool_of m).mark i)).0 e), no, no, spare)
  told (One i (Remove p)) h = (voxel remove, no, no, no, no, few_is m remove h)
  told (One i (Insert p v)) h = (voxel insert, λ e. insert_value (not-true _ e), no, no, no, few_is m insert h)
  told (One i (Fill v)) h = (pooled refl, λ e. fill_value (not-true _ e), no, no, no, spare)
  told (One i (Cut (Below high))) h = (pooled refl, λ e. below_bound (not-true _ e), no, no, no, spare)
  told (One i (Cut (Above low))) h = (pooled refl, λ e. above_bound (not-true _ e), no, no, no, spare)
  told (One i (Cut (Between low high))) h = (pooled refl, λ e. between_bound ((neither (finite low) (finite high)).0 e), no, no, no, spare)
  told (One i Clear) h = (pooled refl, no, no, no, no, spare)
  told (One i Prune) h = (pooled refl, no, no, no, no, spare)
  told (One i Flip) h = (pooled refl, no, no, no, no, spare)
  told (One i FillSigns) h = (pooled refl, no, no, λ e. signs_bare ((bare i (one_below m h)).0 e), no, spare)
  told (One i IsEmpty) h = (pooled refl, no, no, no, no, spare)
  told (Two Copy i j) h = (pooled refl, no, no, no, λ e. onto ((full j (two_below h).1).0 e), λ g. refl)
  told (Two (Combine o) i j) h = (
    pooled refl,
    no,
    λ e. pair_unfilled ((either (unmarked ((pool_of m).mark i)) (unmarked ((pool_of m).mark j))).0 e),
    λ e. pair_bare ((either (bare i (two_below h).0) (bare j (two_below h).1)).0 e),
    no,
    spare,
  )
  told Prepare h = (prepares, no, no, no, no, spare)
  told Count h = (pooled refl, no, no, no, no, spare)

  -- ---- row by row, from the test
  forth_1 : (c : Call) → test.lengths (reads_in m) c ≡ true → Row 1 c m
  forth_1 c e = lengths (λ n t. no (sym (not-true (fits m) e) ∙ together_fits m n t))

  forth_2 : (c : Call) → test.seat_above (reads_in m) c ≡ true → Row 2 c m
  forth_2 (One i x) e = seat_above ((above i).0 e)
  forth_2 (Two x i j) e = pair_above ((either (above i) (above j)).0 e)
  forth_2 Prepare e = no e
  forth_2 Count e = no e

  forth_3 : (c : Call) → test.seats_equal (reads_in m) c ≡ true → Row 3 c m
  forth_3 (One i x) e = no e
  forth_3 (Two x i j) e = pair_equal (eqb-true i j e)
  forth_3 Prepare e = no e
  forth_3 Count e = no e

  forth_5 : {c : Call} → Sort c → (Row 2 c m → ⊥) → test.unsound (reads_in m) c ≡ true → Row 5 c m
  forth_5 (voxel v) h e = voxel_forth m v h e
  forth_5 (pooled k) h e =
      pool
      (λ i p v. no (ap (on_kind false true false) (sym (kind_is v) ∙ k)))
      (λ q. no (ap (on_kind false true false) (sym (ap (λ (c : Call). (asks c).kind) q) ∙ k)))
      (λ s. no (sym (not-true (sound_b (cells_of m) (pool_of m)) (rw k at e)) ∙ sound_is (cells_of m) (pool_of m) s.1.room s.1))
  forth_5 prepares h e = no e

  -- ---- and from the row
  back_1 : {c : Call} → Row 1 c m → test.lengths (reads_in m) c ≡ true
  back_1 (lengths h) = on_case (fits m) (λ e. absurd (h (cells_of m) (fits_together m e))) (λ e. rw e refl)

  back_2 : {c : Call} → Row 2 c m → test.seat_above (reads_in m) c ≡ true
  back_2 (seat_above {i = i} l) = (above i).1 l
  back_2 (pair_above {i = i} {j} h) = (either (above i) (above j)).1 h

  back_3 : {c : Call} → Row 3 c m → test.seats_equal (reads_in m) c ≡ true
  back_3 (pair_equal {i = i} {j} e) = eq-eqb i j e

  back_4 : {c : Call} → Row 4 c m → test.not_finite (reads_in m) c ≡ true
  back_4 (insert_value e) = ap not e
  back_4 (fill_value e) = ap not e
  back_4 (below_bound e) = ap not e
  back_4 (above_bound e) = ap not e
  back_4 (between_bound {low = low} {high} e) = (neither (finite low) (finite high)).1 e

  back_5 : {c : Call} → (Row 1 c m → ⊥) → (Row 2 c m → ⊥) → Row 5 c m → test.unsound (reads_in m) c ≡ true
  back_5 h1 h2 (path v b) = path_back m v b
  back_5 h1 h2 (free v b) = free_back m v h2 b
  back_5 {c} h1 h2 (pool v q u) = by (told c h2).0 v q
    where
      by : {c : Call} → Sort c → ((i : ℕ) (p : Point) → OneVoxel c i p → ⊥) → (c ≡ Prepare → ⊥) → test.unsound (reads_in m) c ≡ true
      by (voxel {i = i} {p} o) v q = absurd (v i p o)
      by (pooled k) v q = rw k (on_case (fits m)
          (λ f. on_case (sound_b (cells_of m) (pool_of m)) (λ e. absurd (u (mem_sound m f e))) (λ e. rw e refl))
          (λ f. absurd (h1 (forth_1 c (rw f refl)))))
      by prepares v q = absurd (q refl)

  back_6 : {c : Call} → Row 6 c m → test.not_filled (reads_in m) c ≡ true
  back_6 (sign_unfilled {i = i} h) = (unmarked ((pool_of m).mark i)).1 h
  back_6 (pair_unfilled {i = i} {j} h) = (either (unmarked ((pool_of m).mark i)) (unmarked ((pool_of m).mark j))).1 h

  back_7 : {c : Call} → (Row 2 c m → ⊥) → Row 7 c m → test.hollow_branch (reads_in m) c ≡ true
  back_7 l (signs_bare {i = i} h) = (bare i (one_below m l)).1 h
  back_7 l (pair_bare {i = i} {j} h) = (either (bare i (two_below l).0) (bare j (two_below l).1)).1 h

  back_8 : {c : Call} → (Row 2 c m → ⊥) → Row 8 c m → test.onto_full (reads_in m) c ≡ true
  back_8 l (onto {j = j} h) = (full j (two_below l).1).1 h

  row_9 : (c : Call) → (Row 2 c m → ⊥) → (Row 5 c m → ⊥) → (test.too_few (reads_in m) c ≡ true) ↔ Row 9 c m
  row_9 c h2 h5 = rw ((told c h2).5 h5) (λ e. few (leb-false _ _ (not-true _ e)), back)
    where
      back : Row 9 c m → not (leb (needed c m) (pool_of m).count) ≡ true
      back (few l) = ap not (lt-leb _ _ l)

-- no row before row k holds
abbrev pub NoneBefore : ℕ → Call → Mem → Type 0
NoneBefore k c m = (j : ℕ) → j < k → Row j c m → ⊥

pub row_is : (c : Call) (m : Mem) → Each (λ row. NoneBefore row.0 c m → (row.1 (reads_in m) c ≡ true) ↔ Row row.0 c m) order
row_is c m = (
  λ h. (forth_1 m c, back_1 m),
  (
    λ h. (forth_2 m c, back_2 m),
    (
      λ h. (forth_3 m c, back_3 m),
      (
        λ h. ((told m c (h 2 (omega arith))).1, back_4 m),
        (
          λ h. (forth_5 m (told m c (h 2 (omega arith))).0 (h 2 (omega arith)), back_5 m (h 1 (omega arith)) (h 2 (omega arith))),
          (
            λ h. ((told m c (h 2 (omega arith))).2, back_6 m),
            (
              λ h. ((told m c (h 2 (omega arith))).3, back_7 m (h 2 (omega arith))),
              (
                λ h. ((told m c (h 2 (omega arith))).4, back_8 m (h 2 (omega arith))),
                (λ h. row_9 m c (h 2 (omega arith)) (h 5 (omega arith)), tt),
              ),
            ),
          ),
        ),
      ),
    ),
  ),
)
