-- What a level's constants are, by its number. Assumes nothing.
use native.Mathlib.Omega.{arith}
use Rattle.std.specs.Prelude.{◌≡◌, refl, ◌∷◌, ℕ, ◌≤◌}
use Rattle.grid.specs.Geometry.{total}
use Rattle.grid.specs.Node.{size}
use Rattle.nodes.specs.Walk.{branching, below}

-- level l has the branching b, m slots in a node, and the total t: its own branching and all below it
pub record IsLevel (l b m t : ℕ) : Type 0 where
  pub known : l ≤ 2
  pub branches : b ≡ branching l
  pub sized : m ≡ size (branching l)
  pub totals : t ≡ total (branching l ∷ below l)

pub top_is : IsLevel 2 3 512 7
unfolding size total
top_is = record { known = omega arith; branches = refl; sized = refl; totals = refl }

pub middle_is : IsLevel 1 2 64 4
unfolding size total
middle_is = record { known = omega arith; branches = refl; sized = refl; totals = refl }

pub leaf_is : IsLevel 0 2 64 2
unfolding size total
leaf_is = record { known = omega arith; branches = refl; sized = refl; totals = refl }
