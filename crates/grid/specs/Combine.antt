-- Combining a with b, slot by slot: "inside" is a slot that is no branch and has a negative sign, "outside" one with a positive sign. One definition serves
-- the three operations, which differ in five tables. Assumes nothing.
use Rattle.std.specs.Prelude.{Bool, true, false, not, ◌&&◌, ◌||◌, cond, List, [], ◌∷◌, ℕ}
use Rattle.std.specs.Bool.{beq}
use Rattle.floats.specs.Value.{negative, negated, far, far_with, least, most}
use Rattle.grid.specs.Node.{branch, tile, hidden, on_slot, Node, SlotOf}
use Rattle.grid.specs.Whole.{flip}

pub data Operation : Type 0 where
  union subtract intersect : Operation

-- demand 2: "negative exactly if: either was (union); both were (intersection); the first was and the second was not (subtraction)"
abbrev pub combined_sign : Operation → Bool → Bool → Bool
combined_sign union x y = x || y
combined_sign subtract x y = x && not y
combined_sign intersect x y = x && y

-- "Leaves: union takes minima, subtract the maximum of a and -b, intersect maxima"
abbrev pub joined : Operation → ℕ → ℕ → ℕ
joined union v w = least v w
joined subtract v w = most v (negated w)
joined intersect v w = most v w

-- the side of a, if it is no branch, with which a stays as it is whatever b has: inside stays inside in a union, outside outside in the others
abbrev pub stays_with : Operation → Bool
stays_with union = true
stays_with subtract = false
stays_with intersect = false

-- the side of b, if it is no branch, that settles the slot: b inside makes a union inside and removes in subtract, b outside removes in intersect
abbrev pub settled_by : Operation → Bool
settled_by union = true
settled_by subtract = true
settled_by intersect = false

-- what the slot is then: an inside tile of -far, as in the source, or "where subtract or intersect removes, the slot ends hidden with +far"
abbrev pub settled : Operation → (bs : List ℕ) → SlotOf bs
settled union bs = tile (far_with true)
settled subtract bs = hidden far
settled intersect bs = hidden far

-- how b's branch is taken over where a is no branch
abbrev pub taken : Operation → (bs : List ℕ) → Node bs → Node bs
taken union bs n = n
taken subtract bs n = flip bs n
taken intersect bs n = n

-- a's slot is s, and b's is no branch and has the sign k
unfoldable pub under_b : Operation → (bs : List ℕ) → Bool → SlotOf bs → SlotOf bs
under_b o bs k s = cond (beq k (settled_by o)) (settled o bs) s

-- a's slot is s, no branch, with the sign k; b's is t
unfoldable pub under_a : Operation → (bs : List ℕ) → Bool → SlotOf bs → SlotOf bs → SlotOf bs
under_a o bs k s t =
    cond (beq k (stays_with o)) s
    (on_slot (λ n. branch (taken o bs n)) (λ w. under_b o bs (negative w) s) (λ w. under_b o bs (negative w) s) t)

-- two voxels: the values are joined, and "masks are joined"
unfoldable pub joined_voxels : Operation → SlotOf [] → SlotOf [] → SlotOf []
joined_voxels o (branch c) t = absurd c
joined_voxels o (tile v) t = on_slot (λ c. absurd c) (λ w. tile (joined o v w)) (λ w. tile (joined o v w)) t
joined_voxels o (hidden v) t = on_slot (λ c. absurd c) (λ w. tile (joined o v w)) (λ w. hidden (joined o v w)) t

-- the order of internal_node/csg.rs. "A branch that joining leaves with both masks empty keeps its place and the signs of its slots": there is no clause for it
unfoldable pub combine_s : Operation → (bs : List ℕ) → SlotOf bs → SlotOf bs → SlotOf bs
combine_s o [] s t = joined_voxels o s t
combine_s o (b ∷ bs) (tile v) t = under_a o (b ∷ bs) (negative v) (tile v) t
combine_s o (b ∷ bs) (hidden v) t = under_a o (b ∷ bs) (negative v) (hidden v) t
combine_s o (b ∷ bs) (branch m) (tile w) = under_b o (b ∷ bs) (negative w) (branch m)
combine_s o (b ∷ bs) (branch m) (hidden w) = under_b o (b ∷ bs) (negative w) (branch m)
combine_s o (b ∷ bs) (branch m) (branch n) = branch (λ i. combine_s o bs (m i) (n i))
