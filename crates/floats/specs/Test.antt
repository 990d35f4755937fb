-- The test of a cut: "strictly below a bound, strictly above one, or from one bound to another inclusive, compared as numbers". Assumes nothing.
use Rattle.std.specs.Prelude.{Bool, ◌&&◌, ℕ}
use Rattle.std.specs.Float.Ieee.{lt, le}
use Rattle.std.specs.Float.Ieee.Scale.{finite}
use Rattle.floats.specs.Value.{value}
use Rattle.floats.specs.declared.Test.{Test}
use Rattle.floats.specs.declared.Test.TheVariants.{Below, Above, Between}

-- "a low bound above the high one passes nothing" needs no clause: no number is in both halves
abbrev pub passes : Test → ℕ → Bool
passes (Below high) w = lt (value w) high
passes (Above low) w = lt low (value w)
passes (Between low high) w = le low (value w) && le (value w) high

-- no bound is NaN or infinite
abbrev pub bounded : Test → Bool
bounded (Below high) = finite high
bounded (Above low) = finite low
bounded (Between low high) = finite low && finite high
