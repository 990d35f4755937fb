-- No whole-grid call reaches more cells after it than before. Assumes nothing.
use mathlib.Core.Path.{◌≡◌, refl, ap}
use mathlib.Core.Bool.{Bool, true, false, cond}
use mathlib.Core.List.{List, [], ◌∷◌}
use Prim.Native.Nat.{ℕ, suc, ◌+◌, ◌%◌, ◌≤◌}
use native.Mathlib.Omega.{arith}
use Rattle.grid.specs.Combine.{Operation, combine_s}
use Rattle.grid.specs.Node.{branch, tile, hidden, slot_ind, size, Node, SlotOf}
use Rattle.grid.specs.SignFill.{carried, written, filled_rows, fill_signs, fill_signs_s}
use Rattle.grid.specs.Voxel.{kept}
use Rattle.grid.specs.Whole.{prune_s, cut_s, cells, cells_s, reach}
use Rattle.grid.proofs.Cells.{kept_cells, combine_cells}
use Rattle.grid.proofs.Places.{sum_same, sum_zero, sum_le}

-- pruning and cutting take no cell
kept_le : (b : ℕ) (bs : List ℕ) (n : Node (b ∷ bs)) → cells_s (b ∷ bs) (kept b bs n) ≤ suc (reach b bs n)
kept_le b bs n = omega (arith, kept_cells b bs n)

pub prune_cells : (bs : List ℕ) (s : SlotOf bs) → cells_s bs (prune_s bs s) ≤ cells_s bs s
unfolding prune_s cells reach
prune_cells [] s = omega arith
prune_cells (b ∷ bs) (tile v) = omega arith
prune_cells (b ∷ bs) (hidden v) = omega arith
prune_cells (b ∷ bs) (branch n) =
    omega (
      arith,
      kept_le b bs (λ i. prune_s bs (n i)),
      sum_le (size b) (λ i. cells_s bs (prune_s bs (n i))) (λ i. cells_s bs (n i)) (λ i. 0) (λ i. omega (arith, prune_cells bs (n i))),
      sum_zero (size b) (λ i. 0) (λ i _. refl),
    )

pub cut_cells : (t : ℕ → Bool) (bs : List ℕ) (s : SlotOf bs) → cells_s bs (cut_s t bs s) ≤ cells_s bs s
unfolding cut_s cells reach
cut_cells t [] (branch c) = absurd c
cut_cells t [] (tile v) = go (t v)
  where
    go : (k : Bool) → cells_s [] (cond k (hidden v) (tile v)) ≤ 0
    go true = omega arith
    go false = omega arith
cut_cells t [] (hidden v) = omega arith
cut_cells t (b ∷ bs) (tile v) = go (t v)
  where
    go : (k : Bool) → cells_s (b ∷ bs) (cond k (hidden v) (tile v)) ≤ 0
    go true = omega arith
    go false = omega arith
cut_cells t (b ∷ bs) (hidden v) = omega arith
cut_cells t (b ∷ bs) (branch n) =
    omega (
      arith,
      kept_le b bs (λ i. cut_s t bs (n i)),
      sum_le (size b) (λ i. cells_s bs (cut_s t bs (n i))) (λ i. cells_s bs (n i)) (λ i. 0) (λ i. omega (arith, cut_cells t bs (n i))),
      sum_zero (size b) (λ i. 0) (λ i _. refl),
    )

pub fill_signs_cells : (bs : List ℕ) (c : Node bs) → cells bs (fill_signs bs c) ≡ cells bs c
unfolding cells fill_signs filled_rows
fill_signs_cells [] c = refl
fill_signs_cells (b ∷ bs) n =
    ap suc (sum_same (size b) _ (λ i. cells_s bs (n i))
    (λ i _. slot_ind (λ s. (k : Bool) → cells_s bs (written bs k (fill_signs_s bs s)) ≡ cells_s bs s)
    (λ c k. fill_signs_cells bs c) (λ v k. refl) (λ v k. refl) (n i) (carried b bs (λ j. fill_signs_s bs (n j)) (i % size b))))

module _ (b : ℕ) (bs : List ℕ) where
  pub map_reach : (n m : Node (b ∷ bs)) → ((i : ℕ) → cells_s bs (n i) ≤ cells_s bs (m i)) → reach b bs n ≤ reach b bs m
  unfolding reach
  map_reach n m h =
      omega (
        arith,
        sum_le (size b) (λ i. cells_s bs (n i)) (λ i. cells_s bs (m i)) (λ i. 0) (λ i. omega (arith, h i)),
        sum_zero (size b) (λ i. 0) (λ i _. refl),
      )

  pub same_reach : (n m : Node (b ∷ bs)) → cells (b ∷ bs) n ≡ cells (b ∷ bs) m → reach b bs n ≡ reach b bs m
  unfolding cells reach
  same_reach n m e = omega (arith, e)

  pub combine_reach : (o : Operation) (n m : Node (b ∷ bs)) → reach b bs (λ i. combine_s o bs (n i) (m i)) ≤ reach b bs n + reach b bs m
  unfolding reach
  combine_reach o n m =
      sum_le (size b) (λ i. cells_s bs (combine_s o bs (n i) (m i))) (λ i. cells_s bs (n i)) (λ i. cells_s bs (m i)) (λ i. combine_cells o bs (n i) (m i))
