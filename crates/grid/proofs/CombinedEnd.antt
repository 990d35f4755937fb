-- What a lookup shows after a combination, at every point. Assumes nothing.
use mathlib.Core.Path.{◌≡◌, refl, ◌∙◌, ap}
use mathlib.Core.Bool.{Bool, true, false, cond, beq}
use mathlib.Core.List.{List, [], ◌∷◌}
use Prim.Native.Nat.{ℕ, suc, ◌<◌}
use native.Mathlib.Omega.{arith}
use lib.ListN.{length}
use borrow.Author.Tests.{lt-ltb, le-ltb, ne_eqb}
use Rattle.floats.specs.Value.{negative}
use Rattle.grid.specs.Combine.{Operation, union, subtract, intersect, stays_with, settled_by, settled, taken, under_b, under_a, joined_voxels, combine_s}
use Rattle.grid.specs.End.{End, ended, end, end_s, shown, taken_end, settled_end, below_b, combined_end}
use Rattle.grid.specs.Geometry.{Point, slot_of}
use Rattle.grid.specs.Node.{branch, tile, hidden, slot_ind, Node, SlotOf}
use Rattle.grid.specs.Voxel.{lookup, lookup_s}
use Rattle.grid.specs.Whole.{flip, flip_s}

module _ (p : Point) where
  -- a lookup shows what its walk ends in
  pub end_lookup : (bs : List ℕ) (n : Node bs) → lookup bs n p ≡ shown (end bs n p)
  unfolding lookup end
  end_lookup [] n = absurd n
  end_lookup (b ∷ bs) n = slot_ind (λ s. lookup_s bs s p ≡ shown (end_s bs s p)) (end_lookup bs) (λ v. refl) (λ v. refl) (n (slot_of b bs p))

  -- a walk into a branch ends below it
  deeper : (bs : List ℕ) (n : Node bs) → (end bs n p).level < length bs
  unfolding end
  deeper [] n = absurd n
  deeper (b ∷ bs) n =
      slot_ind (λ s. (end_s bs s p).level < suc (length bs)) (λ c. omega (arith, deeper bs c)) (λ v. omega arith) (λ v. omega arith) (n (slot_of b bs p))

  flip_end : (bs : List ℕ) (n : Node bs) → end bs (flip bs n) p ≡ taken_end subtract (end bs n p)
  unfolding end flip
  flip_end [] n = absurd n
  flip_end (b ∷ bs) n =
      slot_ind (λ s. end_s bs (flip_s bs s) p ≡ taken_end subtract (end_s bs s p)) (flip_end bs) (λ v. refl) (λ v. refl) (n (slot_of b bs p))

  taken_end_lem : (o : Operation) (bs : List ℕ) (n : Node bs) → end bs (taken o bs n) p ≡ taken_end o (end bs n p)
  taken_end_lem union bs n = refl
  taken_end_lem subtract bs n = flip_end bs n
  taken_end_lem intersect bs n = refl

  cond_end : (bs : List ℕ) (k : Bool) (s t : SlotOf bs) {e f : End} → end_s bs s p ≡ e → end_s bs t p ≡ f → end_s bs (cond k s t) p ≡ cond k e f
  cond_end bs true s t h g = h
  cond_end bs false s t h g = g

  voxels_end : (o : Operation) (s t : SlotOf []) → end_s [] (joined_voxels o s t) p ≡ combined_end o (end_s [] s p) (end_s [] t p)
  unfolding joined_voxels combined_end
  voxels_end o (branch c) t = absurd c
  voxels_end o (tile v) (branch c) = absurd c
  voxels_end o (tile v) (tile w) = refl
  voxels_end o (tile v) (hidden w) = refl
  voxels_end o (hidden v) (branch c) = absurd c
  voxels_end o (hidden v) (tile w) = refl
  voxels_end o (hidden v) (hidden w) = refl

  settled_end_lem : (o : Operation) (bs : List ℕ) → end_s bs (settled o bs) p ≡ settled_end o (length bs)
  settled_end_lem union bs = refl
  settled_end_lem subtract bs = refl
  settled_end_lem intersect bs = refl

  -- b's walk ends in this slot, with the value w
  under_b_end : (o : Operation) (bs : List ℕ) (k : Bool) (w : ℕ) (s : SlotOf bs)
      → end_s bs (under_b o bs (negative w) s) p ≡ below_b o (ended (length bs) k w) (end_s bs s p)
  unfolding under_b
  under_b_end o bs k w s = cond_end bs (beq (negative w) (settled_by o)) (settled o bs) s (settled_end_lem o bs) refl

  first : (o : Operation) (bs : List ℕ) (k : Bool) (w : ℕ) (m : Node bs)
      → end_s bs (under_b o bs (negative w) (branch m)) p ≡ combined_end o (end bs m p) (ended (length bs) k w)
  unfolding combined_end
  first o bs k w m =
      rw (le-ltb (length bs) (end bs m p).level (omega (arith, deeper bs m)), lt-ltb (end bs m p).level (length bs) (deeper bs m)) (under_b_end o bs k w (branch m))

  -- both walks end in this slot, which is no voxel
  together : (o : Operation) (bs : List ℕ) (k : Bool) (v w : ℕ) (k' : Bool) (s : SlotOf bs) → end_s bs s p ≡ ended (length bs) k v → 0 < length bs
      → end_s bs (cond (beq (negative v) (stays_with o)) s (under_b o bs (negative w) s)) p ≡ combined_end o (ended (length bs) k v) (ended (length bs) k' w)
  unfolding combined_end
  together o bs k v w k' s e l =
      rw (le-ltb (length bs) (length bs) (omega arith), ne_eqb (length bs) 0 (λ g. omega (arith, l, g)))
      (cond_end bs (beq (negative v) (stays_with o)) s (under_b o bs (negative w) s) e
      (under_b_end o bs k' w s ∙ ap (below_b o (ended (length bs) k' w)) e))

  -- a's walk ends in this slot, with the value v
  under_a_end : (o : Operation) (bs : List ℕ) (k : Bool) (v : ℕ) (s t : SlotOf bs) → end_s bs s p ≡ ended (length bs) k v → 0 < length bs
      → end_s bs (under_a o bs (negative v) s t) p ≡ combined_end o (ended (length bs) k v) (end_s bs t p)
  unfolding under_a combined_end
  under_a_end o bs k v s (branch n) e l =
      rw (lt-ltb (end bs n p).level (length bs) (deeper bs n))
      (cond_end bs (beq (negative v) (stays_with o)) s (branch (taken o bs n)) e (taken_end_lem o bs n))
  under_a_end o bs k v s (tile w) e l = together o bs k v w true s e l
  under_a_end o bs k v s (hidden w) e l = together o bs k v w false s e l

  pub combined_end_lem : (o : Operation) (bs : List ℕ) (s t : SlotOf bs) → end_s bs (combine_s o bs s t) p ≡ combined_end o (end_s bs s p) (end_s bs t p)
  unfolding combine_s end
  combined_end_lem o [] s t = voxels_end o s t
  combined_end_lem o (b ∷ bs) (tile v) t = under_a_end o (b ∷ bs) true v (tile v) t refl (omega arith)
  combined_end_lem o (b ∷ bs) (hidden v) t = under_a_end o (b ∷ bs) false v (hidden v) t refl (omega arith)
  combined_end_lem o (b ∷ bs) (branch m) (tile w) = first o (b ∷ bs) true w m
  combined_end_lem o (b ∷ bs) (branch m) (hidden w) = first o (b ∷ bs) false w m
  combined_end_lem o (b ∷ bs) (branch m) (branch n) = combined_end_lem o bs (m (slot_of b bs p)) (n (slot_of b bs p))

  -- what a lookup in the combined grid shows
  pub combine_lookup : (o : Operation) (b : ℕ) (bs : List ℕ) (n n' : Node (b ∷ bs))
      → lookup (b ∷ bs) (λ i. combine_s o bs (n i) (n' i)) p ≡ shown (combined_end o (end (b ∷ bs) n p) (end (b ∷ bs) n' p))
  unfolding end
  combine_lookup o b bs n n' = end_lookup (b ∷ bs) (λ i. combine_s o bs (n i) (n' i)) ∙ ap shown (combined_end_lem o bs (n (slot_of b bs p)) (n' (slot_of b bs p)))
