-- Short runs worked out by hand from document 01, and computed here on a small grid of three levels with branching 1, which has 8 slots a node. Assumes nothing.
use mathlib.Core.Path.{◌≡◌, refl}
use mathlib.Core.Bool.{Bool, true, false}
use mathlib.Core.List.{List, [], ◌∷◌}
use mathlib.Core.Option.{Option, none, some}
use Prim.Native.Nat.{ℕ}
use lib.IntN.{pos, negsuc}
use lib.Ieee.{lt, eq, of_bits, fin, inf}
use Rattle.floats.specs.Value.{is_finite, negative, negated, far, far_with, equal, before, least, most}
use Rattle.floats.specs.declared.Test.TheVariants.{Below, Above}
use Rattle.grid.specs.Combine.{union, subtract, intersect, under_b, under_a, joined_voxels, combine_s}
use Rattle.grid.specs.Geometry.{Point, masked, total, part, slot_of}
use Rattle.grid.specs.Node.{is_hidden, size, changed, put, every, sum}
use Rattle.grid.specs.SignFill.{first_sign, last_sign, along, start, sign_i, sign_j, sign_k, carried, filled_rows, fill_signs}
use Rattle.grid.specs.Voxel.{lookup, sign_at, insert_s, insert, kept, remove_s, remove, need_insert_s, need_remove_s}
use Rattle.grid.specs.Whole.{fill, clear, prune_s, cut_s, flip, cells, reach, is_empty, hollow, has_hollow}
use Rattle.seats.specs.Call.{Lookup, Sign, Remove, Insert, Fill, Cut, Clear, Prune, Flip, FillSigns, IsEmpty, Copy, Combine}
use Rattle.seats.specs.Call.{Call, One, Two, Prepare, Count, Answer, refused, found, negative_is, empty_is, free_cells, done}
use Rattle.seats.specs.Refusal.{Reads, refusal}
use Rattle.seats.specs.Seat.{State, fresh, prepared, reached, used, free}
use Rattle.seats.specs.Step.{act, both, need_one, need_two, served, play, step}

abbrev pub small : ℕ → State 1 (1 ∷ 1 ∷ [])
small n = prepared 1 (1 ∷ 1 ∷ []) n

unfoldable pub replies : State 1 (1 ∷ 1 ∷ []) → List Call → List Answer
replies st [] = []
replies st (c ∷ cs) = let o = step 1 (1 ∷ 1 ∷ []) st c in o.0 ∷ replies o.1 cs

abbrev pub corner : Point
corner = record { x = negsuc 0; y = pos 0; z = pos 3 }

abbrev pub one : ℕ
one = 0x3F80_0000

abbrev pub minus_one : ℕ
minus_one = 0xBF80_0000

abbrev pub nan : ℕ
nan = 0x7FC0_0000

-- two voxels in two leaves of one middle node
abbrev pub near : Point
near = record { x = pos 0; y = pos 0; z = pos 0 }

abbrev pub beside : Point
beside = record { x = pos 0; y = pos 0; z = pos 2 }

pub runs :
    -- sign fill marks; flip keeps the mark; insert, remove, fill, cut, prune and clear unmark: then the sign is refused with 6
    (replies (small 2)
    (One 0 (Insert corner one) ∷ One 0 (Sign corner) ∷ One 0 FillSigns ∷ One 0 (Sign corner) ∷ One 0 Flip ∷ One 0 (Sign corner)
    ∷ One 0 (Remove corner) ∷ One 0 (Sign corner) ∷ One 0 FillSigns ∷ One 0 (Fill one) ∷ One 0 (Sign corner)
    ∷ One 0 FillSigns ∷ One 0 Prune ∷ One 0 (Sign corner) ∷ One 0 FillSigns ∷ One 0 Clear ∷ One 0 (Sign corner)
    ∷ One 0 FillSigns ∷ One 0 (Cut (Below (fin false 0 (pos 0)))) ∷ One 0 (Sign corner) ∷ One 0 IsEmpty ∷ [])
    ≡ done ∷ refused 6 ∷ done ∷ negative_is false ∷ done ∷ negative_is true
    ∷ done ∷ refused 6 ∷ done ∷ done ∷ refused 6
    ∷ done ∷ done ∷ refused 6 ∷ done ∷ done ∷ refused 6
    ∷ done ∷ done ∷ refused 6 ∷ empty_is true ∷ [])
    -- copy: 8 before 9, hidden values too, its target unmarked; combining: 3, 6, and then b as after Clear
    × (replies (small 3)
    (One 0 (Insert corner one) ∷ Two Copy 0 1 ∷ One 1 (Fill one) ∷ Two Copy 0 1 ∷ Two Copy 2 0 ∷ Two (Combine union) 2 2 ∷ Two (Combine union) 0 1
    ∷ One 0 FillSigns ∷ One 1 FillSigns ∷ Two (Combine intersect) 1 0 ∷ One 0 IsEmpty ∷ One 0 (Sign corner) ∷ One 1 (Sign corner) ∷ Count ∷ [])
    ≡ done ∷ refused 9 ∷ done ∷ refused 8 ∷ refused 8 ∷ refused 3 ∷ refused 6
    ∷ done ∷ done ∷ done ∷ empty_is true ∷ refused 6 ∷ negative_is false ∷ free_cells 3 ∷ [])
    -- the earlier number: 2 before 3 and 4, 3 before 6, 4 before 9
    × (replies (small 1) (Two Copy 9 9 ∷ One 8 (Insert corner nan) ∷ One 0 (Insert corner nan) ∷ One 0 (Insert corner one) ∷ [])
    ≡ refused 2 ∷ refused 2 ∷ refused 4 ∷ refused 9 ∷ [])
    -- a copy is accepted: its target is unmarked, its source is not; an insert unmarks; a bound that is infinite is refused
    × (replies (small 4)
    (One 0 (Insert corner one) ∷ One 0 FillSigns ∷ Two Copy 0 1 ∷ One 1 (Lookup corner) ∷ One 1 (Sign corner) ∷ One 0 (Sign corner) ∷ Count
    ∷ One 0 (Insert corner one) ∷ One 0 (Sign corner) ∷ One 0 (Cut (Above (inf false))) ∷ [])
    ≡ done ∷ done ∷ done ∷ found (some one) ∷ refused 6 ∷ negative_is false ∷ free_cells 0 ∷ done ∷ refused 6 ∷ refused 4 ∷ [])
    -- what subtract leaves empty: sign fill and combining are refused with 7 until it is pruned
    × (replies (small 4)
    (One 0 (Insert near one) ∷ One 1 (Insert beside minus_one) ∷ One 0 FillSigns ∷ One 1 FillSigns ∷ Two (Combine subtract) 0 1 ∷ One 0 FillSigns
    ∷ One 1 FillSigns ∷ Two (Combine union) 0 1 ∷ Two (Combine union) 1 0 ∷ One 0 Prune ∷ One 0 FillSigns ∷ Count ∷ [])
    ≡ done ∷ done ∷ done ∷ done ∷ done ∷ refused 7 ∷ done ∷ refused 7 ∷ refused 7 ∷ done ∷ done ∷ free_cells 4 ∷ [])
unfolding replies step play served act both need_one need_two free used reached reach cells sum size prepared fresh clear fill lookup sign_at need_insert_s need_remove_s insert
    insert_s remove remove_s kept every is_hidden put changed slot_of total part masked is_finite equal negative negated far far_with flip prune_s cut_s has_hollow hollow is_empty
    fill_signs filled_rows carried sign_k sign_j sign_i along start first_sign last_sign combine_s joined_voxels under_a under_b least most before eq lt of_bits
runs = (refl, refl, refl, refl, refl)

-- ---- refusals 1 and 5

-- lent memory of which the lengths, the path and the whole pool are good or not, and nothing else is wrong
abbrev pub torn : Bool → Bool → Bool → Reads
torn f p s = record { fit = f; path = λ c. p; sound = s; filled = λ i. true; hollow = λ i. false; empty = λ i. true; need = λ c. 0; free = 0 }

unfoldable pub refusals : Reads → List Call → List (Option ℕ)
refusals r [] = []
refusals r (c ∷ cs) = refusal r c ∷ refusals r cs

abbrev pub one_voxel_calls : List Call
one_voxel_calls = One 0 (Lookup corner) ∷ One 0 (Sign corner) ∷ One 0 (Insert corner one) ∷ One 0 (Remove corner) ∷ []

abbrev pub other_calls : List Call
other_calls =
    One 0 (Fill one) ∷ One 0 (Cut (Below (fin false 0 (pos 0)))) ∷ One 0 Clear ∷ One 0 Prune ∷ One 0 Flip ∷ One 0 FillSigns ∷ One 0 IsEmpty
    ∷ Two Copy 0 1 ∷ Two (Combine union) 0 1 ∷ Count ∷ []

abbrev pub ten : Option ℕ → List (Option ℕ)
ten o = o ∷ o ∷ o ∷ o ∷ o ∷ o ∷ o ∷ o ∷ o ∷ o ∷ []

abbrev pub four : Option ℕ → List (Option ℕ)
four o = o ∷ o ∷ o ∷ o ∷ []

pub bad_memory :
    -- 5: one-voxel calls by their path, all other calls but preparing by the whole pool
    (refusals (torn true false true) one_voxel_calls ≡ four (some 5)) × (refusals (torn true false true) other_calls ≡ ten none)
    × (refusals (torn true true false) one_voxel_calls ≡ four none) × (refusals (torn true true false) other_calls ≡ ten (some 5))
    × (refusal (torn true false false) Prepare ≡ none)
    -- 1 comes first, preparing too
    × (refusals (torn false false false) one_voxel_calls ≡ four (some 1)) × (refusals (torn false false false) other_calls ≡ ten (some 1))
    × (refusal (torn false false false) Prepare ≡ some 1)
unfolding refusals is_finite of_bits
bad_memory = (refl, refl, refl, refl, refl, refl, refl, refl)
