-- The nine refusals and their numbers in document 01. Assumes nothing.
use Rattle.std.specs.Prelude.{List, [], ◌∷◌, ℕ, ◌-◌, get_or}
use Rattle.voxels.specs.declared.refusal.Refusal.{Refusal}
use Rattle.voxels.specs.declared.refusal.Refusal.TheVariants.{Lengths, Seat, SameSeat, Value, Damaged, Unfilled, EmptyBranch, Occupied, NoCells}

abbrev pub number_of : Refusal → ℕ
number_of Lengths = 1
number_of Seat = 2
number_of SameSeat = 3
number_of Value = 4
number_of Damaged = 5
number_of Unfilled = 6
number_of EmptyBranch = 7
number_of Occupied = 8
number_of NoCells = 9

abbrev pub nine : List Refusal
nine = Lengths ∷ Seat ∷ SameSeat ∷ Value ∷ Damaged ∷ Unfilled ∷ EmptyBranch ∷ Occupied ∷ NoCells ∷ []

-- the refusal of a number from 1 to 9; no call has another
abbrev pub refusal_at : ℕ → Refusal
refusal_at n = get_or nine (n - 1) NoCells
