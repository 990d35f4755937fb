-- What a combination shows at a point, from where the walks to it end in the two grids: voxel by voxel, what Combine says slot by slot. Assumes nothing.
use Rattle.std.specs.Prelude.{Bool, true, false, ◌||◌, cond, List, [], ◌∷◌, ℕ, eqb, ltb, length}
use Rattle.std.specs.Bool.{beq}
use Rattle.std.proofs.Math.Option.{Option, none, some}
use Rattle.floats.specs.Value.{negative, negated}
use Rattle.grid.specs.Combine.{Operation, union, subtract, intersect, joined, stays_with, settled_by, settled}
use Rattle.grid.specs.Geometry.{Point, slot_of}
use Rattle.grid.specs.Node.{on_slot, Node, SlotOf}

-- where a walk ends: in a slot with so many levels below it (0: a voxel), active or hidden, that holds the value
pub record End : Type 0 where
  pub level : ℕ
  pub active : Bool
  pub value : ℕ

abbrev pub ended : ℕ → Bool → ℕ → End
ended l k v = record { level = l; active = k; value = v }

unfoldable pub end : (bs : List ℕ) → Node bs → Point → End
end [] n p = absurd n
end (b ∷ bs) n p = on_slot (λ c. end bs c p) (ended (length bs) true) (ended (length bs) false) (n (slot_of b bs p))

abbrev pub end_s : (bs : List ℕ) → SlotOf bs → Point → End
end_s bs s p = on_slot (λ c. end bs c p) (ended (length bs) true) (ended (length bs) false) s

-- a lookup shows active slots alone
abbrev pub shown : End → Option ℕ
shown e = cond e.active (some e.value) none

-- b's end in a branch that is taken over
abbrev pub taken_end : Operation → End → End
taken_end union f = f
taken_end subtract f = ended f.level f.active (negated f.value)
taken_end intersect f = f

-- a slot that b settles
abbrev pub settled_end : Operation → ℕ → End
settled_end o l = on_slot (λ c. absurd c) (ended l true) (ended l false) (settled o [])

-- b's walk ends first, or together with a's, in f: it settles the slot, or leaves e, which a has
abbrev pub below_b : Operation → End → End → End
below_b o f e = cond (beq (negative f.value) (settled_by o)) (settled_end o f.level) e

-- a's walk ends first, or together with b's, in e: it stays, or leaves it to b, which makes it g
abbrev pub below_a : Operation → End → End → End
below_a o e g = cond (beq (negative e.value) (stays_with o)) e g

-- the walks end in e and in f: a's first, b's first, both in a voxel, or both in one slot above the voxels
unfoldable pub combined_end : Operation → End → End → End
combined_end o e f =
    cond (ltb f.level e.level) (below_a o e (taken_end o f))
    (cond (ltb e.level f.level) (below_b o f e)
    (cond (eqb e.level 0) (ended 0 (e.active || f.active) (joined o e.value f.value))
    (below_a o e (below_b o f e))))
