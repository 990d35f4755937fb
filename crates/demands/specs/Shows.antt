-- What the calls for C answer, in the words of the demands. Assumes nothing.
use Rattle.std.specs.Prelude.{◌≡◌, Bool, ℕ, ◌<◌}
use Rattle.floats.specs.Value.{value}
use Rattle.grid.specs.Geometry.{Point}
use Rattle.nodes.specs.Walk.{active}
use Rattle.means.specs.Mem.{Mem, walk}
use Rattle.calls.specs.Forms.{code_only, number, truth}
use Rattle.calls.specs.declared.GridAnswer.{GridAnswer}
use Rattle.calls.specs.declared.GridNumber.{GridNumber}

-- a lookup shows the value of the word w; it shows nothing
abbrev pub shows : ℕ → GridAnswer
shows w = record { code = 0; value = value w }

abbrev pub shows_nothing : GridAnswer
shows_nothing = code_only 10

-- the walk to p in seat i ends above the voxels, at a tile that holds the word u
pub record Tile (m : Mem) (i : ℕ) (p : Point) (u : ℕ) : Type 0 where
  pub level : ℕ
  pub above : 0 < level
  pub ends : walk m i p ≡ active level u

-- a sign is answered: negative or not
abbrev pub sign_is : Bool → GridNumber
sign_is k = number (truth k)
