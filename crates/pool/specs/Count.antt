-- What a count of the free cells answers. Assumes nothing.
use Rattle.std.specs.Prelude.{ℕ, Result, Ok, Err}
use Rattle.seats.specs.Call.{Answer, refused, found, negative_is, empty_is, free_cells, done}
use Rattle.voxels.specs.declared.refusal.Refusal.{Refusal}
use Rattle.voxels.specs.Refused.{refusal_at}

-- a count of the free cells: their number, or a refusal; no other answer occurs
abbrev pub count_of : Answer → Result ℕ Refusal
count_of (refused n) = Err (refusal_at n)
count_of (found o) = Ok 0
count_of (negative_is k) = Ok 0
count_of (empty_is k) = Ok 0
count_of (free_cells k) = Ok k
count_of done = Ok 0
