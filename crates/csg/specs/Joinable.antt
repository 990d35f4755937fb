-- What the code asks of two nodes that are joined. Assumes nothing.
use Rattle.std.specs.Prelude.{◌≢◌, ℕ}
use Rattle.nodes.specs.State.{St, Sound}
use Rattle.means.specs.Level.{At}

-- nodes x and y are two nodes of level l of a sound pool
pub record Joinable (n l : ℕ) (s : St) (x y : ℕ) : Type 0 where
  pub sound : Sound n s
  pub at_x : At n s l x
  pub at_y : At n s l y
  pub differ : x ≢ y
