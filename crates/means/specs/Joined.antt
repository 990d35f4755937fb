-- The relation in which every change of two nodes of one level stands, of which one, y, is joined into the other, x. Assumes nothing.
use Rattle.std.specs.Prelude.{◌≡◌, false, [], ◌∷◌, ◌≢◌, ◌⊎◌, ℕ, ◌+◌, ◌<◌, ◌≤◌}
use Rattle.floats.specs.Value.{far}
use Rattle.grid.specs.Node.{Node}
use Rattle.grid.specs.Whole.{clear}
use Rattle.grid.specs.Combine.{Operation}
use Rattle.nodes.specs.State.{St, Live, Sound}
use Rattle.nodes.specs.Wipe.{wipe_m}
use Rattle.trees.specs.Combine.{combine_m}
use Rattle.means.specs.Level.{levels, span, tree_at, At, In, Kept}
use Rattle.means.specs.Unspoilt.{Unspoilt}

-- node z counts, and is in the tree of neither x nor y
pub record Beyond (n l : ℕ) (s : St) (x y z : ℕ) : Type 0 where
  pub inside : z < 8 + n
  pub live : Live s z
  pub out : In l s x z ⊎ In l s y z → ⊥

-- from s to r, node x of level l has become g, with what was in the first m slots of node y; the other slots of y are as they were, nothing outside the two trees
-- has changed or come into them, and no slot is spoilt
pub record Joined (n l x y m : ℕ) (s r : St) (g : Node (levels l)) : Type 0 where
  pub sound : Sound n r
  pub at_x : At n r l x
  pub at_y : At n r l y
  pub grid : tree_at l r x ≡ g
  pub rest : (j : ℕ) → m ≤ j → j < span l → tree_at l r y j ≡ tree_at l s y j
  pub keep : (z : ℕ) → Beyond n l s x y z → Kept s r z
  pub within : (z : ℕ) → Beyond n l s x y z → In l r x z ⊎ In l r y z → ⊥
  pub marks : r.mark ≡ s.mark
  pub unspoilt : Unspoilt s r

-- from s to r, seat a has become g, with what was in seat b, which is clear now; no other seat has changed, and no slot is spoilt
pub record Combined (n a b : ℕ) (s r : St) (g : Node (levels 2)) : Type 0 where
  pub sound : Sound n r
  pub grid : tree_at 2 r a ≡ g
  pub cleared : tree_at 2 r b ≡ clear 3 (2 ∷ 2 ∷ [])
  pub others : (t : ℕ) → t < 8 → t ≢ a → t ≢ b → tree_at 2 s t ≡ tree_at 2 r t
  pub marks : r.mark ≡ s.mark
  pub unspoilt : Unspoilt s r

-- what is done to seats a and b: b is joined into a, and then cleared
unfoldable pub combined_s : Operation → ℕ → ℕ → ℕ → St → St
combined_s o n a b s = wipe_m 3 (2 ∷ 2 ∷ []) n far false b (combine_m 3 (2 ∷ 2 ∷ []) o n a b s)
