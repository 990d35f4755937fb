-- Rows 5 and 9 of the calls on one voxel: the path walked, and the free cells needed. Assumes nothing.
use mathlib.Core.Path.{◌≡◌, refl, sym, ap, subst}
use mathlib.Core.Bool.{true, not, ◌&&◌, and-true}
use mathlib.Core.List.{[], ◌∷◌}
use Prim.Native.Nat.{ℕ, ◌<◌}
use lib.Dec.{leb}
use borrow.Author.Tests.{not-true}
use Rattle.floats.proofs.Words.{on_case}
use Rattle.grid.specs.Geometry.{Point}
use Rattle.seats.specs.Call.{Act, Call, One, one_voxel, asks}
use Rattle.seats.specs.Refusal.{unsound}
use Rattle.seats.specs.Step.{need_one}
use Rattle.means.specs.Mem.{Mem, cells_of, pool_of, walk, whole, linked, path_of, need_in, reads_in}
use Rattle.demands.specs.Rows.{OneVoxel, lookup, sign, insert, remove, BadPath, BadFree, needed, Row, seat_above, path, free}
use Rattle.demands.proofs.Read.{bad_path, path_bad, bad_free, links_in, at_most_7, insert_needs, remove_needs}

pub kind_is : {c : Call} {i : ℕ} {p : Point} → OneVoxel c i p → (asks c).kind ≡ one_voxel
kind_is lookup = refl
kind_is sign = refl
kind_is insert = refl
kind_is remove = refl

module _ (m : Mem) where
  pub one_below : {i : ℕ} {x : Act} → (Row 2 (One i x) m → ⊥) → i < 8
  one_below {i} h = at_most_7 i (λ l. h (seat_above l))

  -- what is read of the path and of the free cells, and the cells needed where the path is good
  path_is : {c : Call} {i : ℕ} {p : Point} → OneVoxel c i p → path_of m c ≡ (whole (walk m i p) && linked (cells_of m) (pool_of m) (need_in m c))
  unfolding linked
  path_is {i = i} {p} lookup = sym (and-true (whole (walk m i p)))
  path_is {i = i} {p} sign = sym (and-true (whole (walk m i p)))
  path_is insert = refl
  path_is remove = refl

  need_is : {c : Call} {i : ℕ} {p : Point} → OneVoxel c i p → (Row 2 c m → ⊥) → whole (walk m i p) ≡ true → need_in m c ≡ needed c m
  unfolding need_one
  need_is lookup h g = refl
  need_is sign h g = refl
  need_is {i = i} {p} (insert {v = v}) h g = insert_needs m i (one_below h) p g v
  need_is {i = i} {p} remove h g = remove_needs m i (one_below h) p g

  -- ---- a call c on the voxel at p of seat i
  module _ {c : Call} {i : ℕ} {p : Point} (v : OneVoxel c i p) where
    pub path_back : BadPath 3 (2 ∷ 2 ∷ []) m i p → unsound (reads_in m) c ≡ true
    unfolding walk
    path_back b = rw (kind_is v, path_is v, path_bad m p 3 (2 ∷ 2 ∷ []) i b) refl

    module _ (h : Row 2 c m → ⊥) where
      pub voxel_forth : unsound (reads_in m) c ≡ true → Row 5 c m
      unfolding walk
      voxel_forth e = on_case (whole (walk m i p))
          (λ g. free v (subst (BadFree m) (need_is v h g) (bad_free m (need_in m c) (not-true _ (rw (kind_is v, path_is v, g) at e)))))
          (λ g. path v (bad_path m p 3 (2 ∷ 2 ∷ []) i g))

      pub free_back : BadFree m (needed c m) → unsound (reads_in m) c ≡ true
      free_back b = rw (kind_is v, path_is v) (on_case (whole (walk m i p))
          (λ g. rw g (on_case (linked (cells_of m) (pool_of m) (need_in m c))
          (λ l. absurd (links_in m (need_in m c) l (subst (BadFree m) (sym (need_is v h g)) b)))
          (λ l. rw l refl)))
          (λ g. rw g refl))

      -- fewer than are needed, as it is read
      pub few_is : (Row 5 c m → ⊥) → not (leb (need_in m c) (pool_of m).count) ≡ not (leb (needed c m) (pool_of m).count)
      unfolding walk
      few_is g = ap (λ (k : ℕ). not (leb k (pool_of m).count)) (on_case (whole (walk m i p)) (need_is v h) (λ e. absurd (g (path v (bad_path m p 3 (2 ∷ 2 ∷ []) i e)))))
