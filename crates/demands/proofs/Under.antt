-- The insert rule at the point itself: the given value is shown, or an equal tile above the voxels stands there and is. Assumes nothing.
use mathlib.Core.Path.{◌≡◌, refl, ◌∙◌, ap}
use mathlib.Core.List.{List, [], ◌∷◌}
use mathlib.Core.Logic.{◌⊎◌, inl, inr}
use mathlib.Core.Option.{some, none-ne-some, some-injective}
use Prim.Native.Nat.{ℕ, suc, ◌<◌}
use native.Mathlib.Omega.{arith}
use lib.Dec.{T}
use lib.ListN.{length}
use Rattle.floats.specs.Value.{equal}
use Rattle.grid.specs.Geometry.{Point, slot_of}
use Rattle.grid.specs.Node.{branch, tile, hidden, on_slot, size, Node, SlotOf}
use Rattle.grid.specs.Voxel.{lookup, lookup_s, insert_s, insert}
use Rattle.grid.proofs.Geometry.{slot_lt}
use Rattle.grid.proofs.Places.{changed_same}
use Rattle.grid.proofs.Voxel.{Here, insert_s_here}
use Rattle.nodes.specs.Walk as walk
use Rattle.nodes.specs.Walk.{Reach}
use Rattle.means.specs.Ends.{ends}

module _ (p : Point) (v : ℕ) where
  abbrev ends_s : (bs : List ℕ) → SlotOf bs → Reach
  ends_s bs s = on_slot (λ c. ends bs c p) (walk.active (length bs)) (walk.hidden (length bs)) s

  -- what is shown at p of the slot s', which was s
  abbrev Under : (bs : List ℕ) → SlotOf bs → SlotOf bs → Type 0
  Under bs s s' = (lookup_s bs s' p ≡ some v) ⊎ ((u l : ℕ) × (0 < l) × T (equal u v) × (ends_s bs s ≡ walk.active l u) × (lookup_s bs s' p ≡ some u))

  under : (bs : List ℕ) (s : SlotOf bs) → Under bs s (insert_s bs p v s)
  unfolding insert_s lookup ends
  under [] s = inl refl
  under (b ∷ bs) (branch n) = go (under bs (n (slot_of b bs p)))
    where
      into : lookup_s (b ∷ bs) (insert_s (b ∷ bs) p v (branch n)) p ≡ lookup_s bs (insert_s bs p v (n (slot_of b bs p))) p
      into = ap (λ t. lookup_s bs t p) (changed_same (size b) (slot_of b bs p) (insert_s bs p v) n (slot_lt b bs p))

      go : Under bs (n (slot_of b bs p)) (insert_s bs p v (n (slot_of b bs p))) → Under (b ∷ bs) (branch n) (insert_s (b ∷ bs) p v (branch n))
      go (inl e) = inl (into ∙ e)
      go (inr (u, l, z, t, e, e')) = inr (u, l, z, t, e, into ∙ e')
  under (b ∷ bs) (tile w) = go (insert_s_here p v (b ∷ bs) (tile w))
    where
      go : Here p v (b ∷ bs) (tile w) (insert_s (b ∷ bs) p v (tile w)) → Under (b ∷ bs) (tile w) (insert_s (b ∷ bs) p v (tile w))
      go (inl e) = inl e
      go (inr (u, t, e, e', _)) = inr (u, suc (length bs), omega arith, t, ap (walk.active (suc (length bs))) (some-injective w u e), e')
  under (b ∷ bs) (hidden w) = go (insert_s_here p v (b ∷ bs) (hidden w))
    where
      go : Here p v (b ∷ bs) (hidden w) (insert_s (b ∷ bs) p v (hidden w)) → Under (b ∷ bs) (hidden w) (insert_s (b ∷ bs) p v (hidden w))
      go (inl e) = inl e
      go (inr (u, t, e, e', _)) = absurd (none-ne-some u e)

  pub insert_under : (b : ℕ) (bs : List ℕ) (n : Node (b ∷ bs))
      → (lookup (b ∷ bs) (insert (b ∷ bs) p v n) p ≡ some v)
      ⊎ ((u l : ℕ) × (0 < l) × T (equal u v) × (ends (b ∷ bs) n p ≡ walk.active l u) × (lookup (b ∷ bs) (insert (b ∷ bs) p v n) p ≡ some u))
  unfolding insert_s insert lookup ends
  insert_under b bs n = under (b ∷ bs) (branch n)
