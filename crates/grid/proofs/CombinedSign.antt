-- Demand 2's sign statement: the combined sign at every voxel. Assumes nothing.
use mathlib.Core.Path.{◌≡◌, refl, sym, ◌∙◌, ap}
use mathlib.Core.Bool.{Bool, true, false, not, ◌&&◌, or-true, or-false, and-true, and-false}
use mathlib.Core.List.{List, [], ◌∷◌}
use Prim.Native.Nat.{ℕ}
use Rattle.floats.specs.Value.{negative, negated}
use Rattle.floats.proofs.Signs.{negative_far, negative_negated, negative_far_with, negative_least, negative_most}
use Rattle.grid.specs.Combine.{Operation, union, subtract, intersect, combined_sign, joined, stays_with, taken, under_b, under_a, joined_voxels, combine_s}
use Rattle.grid.specs.Geometry.{Point, slot_of}
use Rattle.grid.specs.Node.{branch, tile, hidden, on_slot, slot_ind, Node, SlotOf}
use Rattle.grid.specs.Voxel.{sign_at, sign_at_s}
use Rattle.grid.specs.Whole.{flip, flip_s}

module _ (p : Point) where
  pub flip_sign : (bs : List ℕ) (c : Node bs) → sign_at bs (flip bs c) p ≡ not (sign_at bs c p)
  unfolding sign_at flip
  flip_sign [] c = absurd c
  flip_sign (b ∷ bs) n =
      slot_ind (λ s. sign_at_s bs (flip_s bs s) p ≡ not (sign_at_s bs s p)) (flip_sign bs) negative_negated negative_negated (n (slot_of b bs p))

  joined_sign : (o : Operation) (v w : ℕ) → negative (joined o v w) ≡ combined_sign o (negative v) (negative w)
  joined_sign union v w = negative_least v w
  joined_sign subtract v w = negative_most v (negated w) ∙ ap (λ (k : Bool). negative v && k) (negative_negated w)
  joined_sign intersect v w = negative_most v w

  voxels_sign : (o : Operation) (s t : SlotOf []) → sign_at_s [] (joined_voxels o s t) p ≡ combined_sign o (sign_at_s [] s p) (sign_at_s [] t p)
  unfolding joined_voxels
  voxels_sign o (branch c) t = absurd c
  voxels_sign o (tile v) (branch c) = absurd c
  voxels_sign o (tile v) (tile w) = joined_sign o v w
  voxels_sign o (tile v) (hidden w) = joined_sign o v w
  voxels_sign o (hidden v) (branch c) = absurd c
  voxels_sign o (hidden v) (tile w) = joined_sign o v w
  voxels_sign o (hidden v) (hidden w) = joined_sign o v w

  under_b_sign : (o : Operation) (bs : List ℕ) (k : Bool) (s : SlotOf bs) → sign_at_s bs (under_b o bs k s) p ≡ combined_sign o (sign_at_s bs s p) k
  unfolding under_b
  under_b_sign union bs true s = negative_far_with true ∙ sym (or-true (sign_at_s bs s p))
  under_b_sign union bs false s = sym (or-false (sign_at_s bs s p))
  under_b_sign subtract bs true s = negative_far ∙ sym (and-false (sign_at_s bs s p))
  under_b_sign subtract bs false s = sym (and-true (sign_at_s bs s p))
  under_b_sign intersect bs true s = sym (and-true (sign_at_s bs s p))
  under_b_sign intersect bs false s = negative_far ∙ sym (and-false (sign_at_s bs s p))

  -- b, where a leaves it to b
  rest_sign : (o : Operation) (bs : List ℕ) (s t : SlotOf bs) → sign_at_s bs s p ≡ not (stays_with o)
      → sign_at_s bs (on_slot (λ n. branch (taken o bs n)) (λ w. under_b o bs (negative w) s) (λ w. under_b o bs (negative w) s) t) p
      ≡ combined_sign o (not (stays_with o)) (sign_at_s bs t p)
  rest_sign o bs s (tile w) e = under_b_sign o bs (negative w) s ∙ ap (λ (x : Bool). combined_sign o x (negative w)) e
  rest_sign o bs s (hidden w) e = under_b_sign o bs (negative w) s ∙ ap (λ (x : Bool). combined_sign o x (negative w)) e
  rest_sign union bs s (branch n) e = refl
  rest_sign subtract bs s (branch n) e = flip_sign bs n
  rest_sign intersect bs s (branch n) e = refl

  under_a_sign : (o : Operation) (bs : List ℕ) (k : Bool) (s t : SlotOf bs) → sign_at_s bs s p ≡ k
      → sign_at_s bs (under_a o bs k s t) p ≡ combined_sign o k (sign_at_s bs t p)
  unfolding under_a
  under_a_sign union bs true s t e = e
  under_a_sign union bs false s t e = rest_sign union bs s t e
  under_a_sign subtract bs true s t e = rest_sign subtract bs s t e
  under_a_sign subtract bs false s t e = e
  under_a_sign intersect bs true s t e = rest_sign intersect bs s t e
  under_a_sign intersect bs false s t e = e

  pub combined_sign_lem : (o : Operation) (bs : List ℕ) (s t : SlotOf bs) → sign_at_s bs (combine_s o bs s t) p ≡ combined_sign o (sign_at_s bs s p) (sign_at_s bs t p)
  unfolding combine_s sign_at
  combined_sign_lem o [] s t = voxels_sign o s t
  combined_sign_lem o (b ∷ bs) (tile v) t = under_a_sign o (b ∷ bs) (negative v) (tile v) t refl
  combined_sign_lem o (b ∷ bs) (hidden v) t = under_a_sign o (b ∷ bs) (negative v) (hidden v) t refl
  combined_sign_lem o (b ∷ bs) (branch m) (tile w) = under_b_sign o (b ∷ bs) (negative w) (branch m)
  combined_sign_lem o (b ∷ bs) (branch m) (hidden w) = under_b_sign o (b ∷ bs) (negative w) (branch m)
  combined_sign_lem o (b ∷ bs) (branch m) (branch n) = combined_sign_lem o bs (m (slot_of b bs p)) (n (slot_of b bs p))

  -- of two grids
  pub combine_sign : (o : Operation) (b : ℕ) (bs : List ℕ) (n n' : Node (b ∷ bs))
      → sign_at (b ∷ bs) (λ i. combine_s o bs (n i) (n' i)) p ≡ combined_sign o (sign_at (b ∷ bs) n p) (sign_at (b ∷ bs) n' p)
  unfolding sign_at
  combine_sign o b bs n n' = combined_sign_lem o bs (n (slot_of b bs p)) (n' (slot_of b bs p))
