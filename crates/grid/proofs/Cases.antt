-- Small grids worked out by hand from document 01, and computed here: what the definitions say of them. Assumes nothing.
use mathlib.Core.Path.{◌≡◌, refl}
use mathlib.Core.Bool.{true, false}
use mathlib.Core.List.{List, [], ◌∷◌}
use mathlib.Core.Option.{some}
use Prim.Native.Nat.{ℕ}
use lib.IntN.{pos, negsuc}
use lib.Dec.{eqb}
use lib.Ieee.{lt, of_bits}
use Rattle.floats.specs.Value.{negative, negated, far, far_with, before, least, most}
use Rattle.grid.specs.Combine.{Operation, union, subtract, intersect, under_b, under_a, joined_voxels, combine_s}
use Rattle.grid.specs.Geometry.{masked, total, part, slot_of}
use Rattle.grid.specs.Node.{branch, tile, hidden, is_hidden, size, Node, SlotOf, changed, every}
use Rattle.grid.specs.SignFill.{first_sign, last_sign, along, start, sign_i, sign_j, sign_k, carried, filled_rows, fill_signs}
use Rattle.grid.specs.Voxel.{lookup, lookup_s, sign_at, sign_at_s, kept}
use Rattle.grid.specs.Whole.{prune_s, cut_s, flip, hollow, hollow_s}

pub coordinates :
    -- "-1 is 127 and 128 is 0"; -3 is 125, and its low 4 bits are 13
    (masked 7 (negsuc 0) ≡ 127) × (masked 7 (pos 128) ≡ 0) × (masked 7 (negsuc 2) ≡ 125) × (masked 4 (negsuc 2) ≡ 13)
unfolding masked
coordinates = (refl, refl, refl, refl)

-- 1 and -1
abbrev pub plus1 : ℕ
plus1 = 0x3F80_0000

abbrev pub minus1 : ℕ
minus1 = 0xBF80_0000

-- a leaf with two active voxels: slot 0, (0,0,0), is 1 and slot 3, (0,0,3), is -1
abbrev pub pair : Node (2 ∷ [])
pair = changed 64 0 (λ _. tile plus1) (changed 64 3 (λ _. tile minus1) (λ _. hidden 0))

-- a middle node with a leaf of -1 and 1 in its slots 0 and 63, and nothing else: W-203's streak
abbrev pub streak : Node (2 ∷ 2 ∷ [])
streak = changed 64 63 (λ _. branch (changed 64 0 (λ _. tile minus1) (changed 64 63 (λ _. tile plus1) (λ _. hidden 0)))) (λ _. hidden 0)

-- a leaf that begins with 1 and ends with -1, in the first slot of a middle node
abbrev pub edge : Node (2 ∷ 2 ∷ [])
edge = changed 64 0 (λ _. branch (changed 64 0 (λ _. tile plus1) (changed 64 63 (λ _. tile minus1) (λ _. hidden 0)))) (λ _. hidden 0)

-- a leaf with (0,0,0) 1, (0,1,0) -1 and (2,0,0) -1
abbrev pub rows : Node (2 ∷ [])
rows = changed 64 0 (λ _. tile plus1) (changed 64 4 (λ _. tile minus1) (changed 64 32 (λ _. tile minus1) (λ _. hidden 0)))

pub sign_fill :
    -- the hidden slots of a row take the sign before them: slot 2, (0,0,2), is + and would be - behind slot 3
    (fill_signs (2 ∷ []) pair 2 ≡ hidden (far_with false))
    -- the next row starts from i, the sign of (0,0,0), and not from the end of the row before it
    × (fill_signs (2 ∷ []) pair 4 ≡ hidden (far_with false))
    × (fill_signs (2 ∷ []) pair 63 ≡ hidden (far_with false))
    -- active values stay
    × (fill_signs (2 ∷ []) pair 3 ≡ tile minus1)
    -- a middle node's last sign is that of its last leaf's slot 0, as in the source
    × (last_sign (2 ∷ 2 ∷ []) streak ≡ true)
    -- the start is the first sign of the first branch
    × (fill_signs (2 ∷ 2 ∷ []) streak 0 ≡ hidden (far_with true))
    -- a branch replaces with its last sign, not its first
    × (fill_signs (2 ∷ 2 ∷ []) edge 1 ≡ hidden (far_with true))
    -- j goes on from (0,1,0) to (0,2,0); i does not take it to (1,0,0), and goes on from (2,0,0) to (3,0,0)
    × (fill_signs (2 ∷ []) rows 8 ≡ hidden (far_with true))
    × (fill_signs (2 ∷ []) rows 16 ≡ hidden (far_with false))
    × (fill_signs (2 ∷ []) rows 48 ≡ hidden (far_with true))
unfolding fill_signs filled_rows carried sign_k sign_j sign_i along start first_sign last_sign size changed negative
sign_fill = (refl, refl, refl, refl, refl, refl, refl, refl, refl, refl)

pub whole_grid :
    -- flip negates hidden values too
    (flip (2 ∷ []) pair 1 ≡ hidden 0x8000_0000)
    × (flip (2 ∷ []) pair 3 ≡ tile plus1)
    -- a leaf of which nothing is left is released, and its slot holds +far; what is cut in it keeps its value
    × (cut_s (λ v. true) (2 ∷ []) (branch pair) ≡ hidden far)
    × (cut_s (eqb plus1) [] (tile plus1) ≡ hidden plus1)
    × (lookup_s (2 ∷ []) (cut_s (eqb plus1) (2 ∷ []) (branch pair)) (record { x = pos 0; y = pos 0; z = pos 3 }) ≡ some minus1)
    × (prune_s (2 ∷ []) (branch (λ _. hidden 0)) ≡ hidden far)
unfolding flip cut_s prune_s kept every is_hidden size changed negated negative lookup slot_of part total masked
whole_grid = (refl, refl, refl, refl, refl, refl)

-- slots of a and b above the leaves
abbrev pub inside : SlotOf (2 ∷ [])
inside = tile minus1

abbrev pub hidden_inside : SlotOf (2 ∷ [])
hidden_inside = hidden minus1

abbrev pub outside : SlotOf (2 ∷ [])
outside = tile plus1

abbrev pub hidden_outside : SlotOf (2 ∷ [])
hidden_outside = hidden plus1

-- the slot s of a, combined with each kind of slot of b: inside and outside, the same hidden, a branch
abbrev pub against : Operation → SlotOf (2 ∷ []) → List (SlotOf (2 ∷ []))
against o s =
    combine_s o (2 ∷ []) s inside ∷ combine_s o (2 ∷ []) s outside ∷ combine_s o (2 ∷ []) s hidden_inside
    ∷ combine_s o (2 ∷ []) s hidden_outside ∷ combine_s o (2 ∷ []) s (branch rows) ∷ []

-- what becomes of it: x where b is inside, y where b is outside, and z where b has a branch
abbrev pub becomes : SlotOf (2 ∷ []) → SlotOf (2 ∷ []) → SlotOf (2 ∷ []) → List (SlotOf (2 ∷ []))
becomes x y z = x ∷ y ∷ x ∷ y ∷ z ∷ []

-- two leaves joined
abbrev pub both : Operation → SlotOf (2 ∷ [])
both o = branch (λ i. combine_s o [] (pair i) (rows i))

pub combining :
    -- union: an inside of a stays as it is; b inside makes the slot inside, an active tile of -far, even where b's was -1; an outside of b changes nothing
    (against union inside ≡ becomes inside inside inside)
    × (against union outside ≡ becomes (tile (far_with true)) outside (branch rows))
    × (against union hidden_inside ≡ becomes hidden_inside hidden_inside hidden_inside)
    × (against union hidden_outside ≡ becomes (tile (far_with true)) hidden_outside (branch rows))
    × (against union (branch pair) ≡ becomes (tile (far_with true)) (branch pair) (both union))
    -- what subtract and intersect remove ends hidden with +far, also where it was hidden and inside already; a branch of b is taken over, flipped in subtract
    × (against subtract inside ≡ becomes (hidden far) inside (branch (flip (2 ∷ []) rows)))
    × (against subtract outside ≡ becomes outside outside outside)
    × (against subtract hidden_inside ≡ becomes (hidden far) hidden_inside (branch (flip (2 ∷ []) rows)))
    × (against subtract hidden_outside ≡ becomes hidden_outside hidden_outside hidden_outside)
    × (against subtract (branch pair) ≡ becomes (hidden far) (branch pair) (both subtract))
    × (against intersect inside ≡ becomes inside (hidden far) (branch rows))
    × (against intersect outside ≡ becomes outside outside outside)
    × (against intersect hidden_inside ≡ becomes hidden_inside (hidden far) (branch rows))
    × (against intersect hidden_outside ≡ becomes hidden_outside hidden_outside hidden_outside)
    × (against intersect (branch pair) ≡ becomes (branch pair) (hidden far) (both intersect))
    -- two leaves: minima and maxima, masks joined
    × (combine_s union [] (tile plus1) (hidden minus1) ≡ tile minus1)
    × (combine_s union [] (hidden plus1) (tile minus1) ≡ tile minus1)
    × (combine_s subtract [] (tile minus1) (tile minus1) ≡ tile plus1)
    × (combine_s intersect [] (hidden plus1) (hidden minus1) ≡ hidden plus1)
    -- -0 is below +0
    × (combine_s union [] (tile 0) (tile 0x8000_0000) ≡ tile 0x8000_0000)
    × (combine_s intersect [] (tile 0x8000_0000) (tile 0) ≡ tile 0)
unfolding combine_s joined_voxels under_a under_b negative negated least most before lt of_bits
combining = (refl, refl, refl, refl, refl, refl, refl, refl, refl, refl, refl, refl, refl, refl, refl, refl, refl, refl, refl, refl, refl)

-- a middle node with an active slot 0, whose other slots are hidden and inside
abbrev pub lone : ℕ → Node (2 ∷ 2 ∷ [])
lone v = changed 64 0 (λ _. tile v) (λ _. hidden minus1)

-- two of them intersected, of which the second is outside in slot 0
abbrev pub bare : SlotOf (2 ∷ 2 ∷ [])
bare = combine_s intersect (2 ∷ 2 ∷ []) (branch (lone minus1)) (branch (lone plus1))

pub emptied :
    -- "A branch that joining leaves with both masks empty keeps its place and the signs of its slots"
    (hollow_s (2 ∷ 2 ∷ []) bare ≡ true)
    × (sign_at_s (2 ∷ 2 ∷ []) bare (record { x = pos 0; y = pos 0; z = pos 0 }) ≡ false)
    × (sign_at_s (2 ∷ 2 ∷ []) bare (record { x = pos 0; y = pos 0; z = pos 4 }) ≡ true)
unfolding combine_s under_a under_b hollow every is_hidden size changed sign_at slot_of part total masked negative far
emptied = (refl, refl, refl)
