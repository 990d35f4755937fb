-- 'Tabled cases': T1 to T11 of document 01 as one computed table, on the grid of 128. Assumes nothing.
use mathlib.Core.Path.{◌≡◌, refl}
use mathlib.Core.List.{List, [], ◌∷◌}
use mathlib.Core.Option.{some}
use Prim.Native.Nat.{ℕ, ◌^◌}
use lib.IntN.{ℤ, pos, negsuc}
use lib.Ieee.{eq, of_bits}
use Rattle.floats.specs.Value.{is_finite, equal}
use Rattle.bitset.specs.Set.{weight}
use Rattle.grid.specs.Geometry.{Point, masked, total, part, slot_of}
use Rattle.grid.specs.Node.{is_hidden, size, changed, put, every, sum}
use Rattle.grid.specs.Voxel.{lookup, insert_s, insert, kept, remove_s, remove, need_insert_s, need_remove_s}
use Rattle.grid.specs.Whole.{fill, clear, cells, reach}
use Rattle.seats.specs.Call.{Lookup, Remove, Insert, Fill, Call, One, Count, Answer, refused, found, free_cells, done}
use Rattle.seats.specs.Seat.{State, fresh, prepared, reached, used, free}
use Rattle.seats.specs.Step.{act, need_one, served, play, step}

abbrev pub at : ℤ → ℤ → ℤ → Point
at x y z = record { x = x; y = y; z = z }

-- the slots that the walk to a point goes through
abbrev pub slots : Point → List ℕ
slots p = slot_of 3 (2 ∷ 2 ∷ []) p ∷ slot_of 2 (2 ∷ []) p ∷ slot_of 2 [] p ∷ []

unfoldable pub answers : State 3 (2 ∷ 2 ∷ []) → List Call → List Answer
answers st [] = []
answers st (c ∷ cs) = let o = step 3 (2 ∷ 2 ∷ []) st c in o.0 ∷ answers o.1 cs

abbrev pub pool : ℕ → State 3 (2 ∷ 2 ∷ [])
pool n = prepared 3 (2 ∷ 2 ∷ []) n

-- a point as good as any; 3, 4, -0 and a NaN by their bits
abbrev pub somewhere : Point
somewhere = at (pos 5) (negsuc 2) (pos 70)

abbrev pub three : ℕ
three = 0x4040_0000

abbrev pub four : ℕ
four = 0x4080_0000

abbrev pub minus_zero : ℕ
minus_zero = 0x8000_0000

abbrev pub nan : ℕ
nan = 0x7FC0_0000

abbrev pub insert3 : Call
insert3 = One 0 (Insert somewhere three)

pub tabled :
    -- T1, T2, T3
    (slots (at (negsuc 0) (negsuc 0) (negsuc 0)) ≡ 511 ∷ 63 ∷ 63 ∷ [])
    × (slots (at (pos 5) (negsuc 2) (pos 70)) ≡ 60 ∷ 29 ∷ 22 ∷ [])
    × (slots (at (pos 128) (pos 0) (pos 0)) ≡ 0 ∷ 0 ∷ 0 ∷ [])
    × (slots (at (pos 0) (pos 0) (pos 0)) ≡ 0 ∷ 0 ∷ 0 ∷ [])
    -- T4
    × (weight 22 ≡ 2 ^ 41)
    -- T5, T6, T7
    × (answers (pool 1) (insert3 ∷ []) ≡ refused 9 ∷ [])
    × (answers (pool 2) (insert3 ∷ Count ∷ One 0 (Remove somewhere) ∷ Count ∷ []) ≡ done ∷ free_cells 0 ∷ done ∷ free_cells 2 ∷ [])
    -- T8, T9
    × (answers (pool 2) (One 0 (Fill three) ∷ insert3 ∷ Count ∷ One 0 (Insert somewhere four) ∷ Count ∷ []) ≡ done ∷ done ∷ free_cells 2 ∷ done ∷ free_cells 0 ∷ [])
    -- T10
    × (answers (pool 2) (One 0 (Fill 0) ∷ One 0 (Insert somewhere minus_zero) ∷ One 0 (Lookup somewhere) ∷ []) ≡ done ∷ done ∷ found (some 0) ∷ [])
    -- T11
    × (answers (pool 2) (One 8 (Insert somewhere nan) ∷ []) ≡ refused 2 ∷ [])
unfolding answers step play served act need_one free used reached reach cells sum size prepared fresh clear fill lookup need_insert_s need_remove_s insert insert_s remove remove_s
    kept every is_hidden put changed slot_of total part masked is_finite equal eq of_bits
tabled = (refl, refl, refl, refl, refl, refl, refl, refl, refl, refl)
