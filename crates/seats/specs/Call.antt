-- The calls and the answers. Assumes nothing.
use Rattle.std.specs.Prelude.{Bool, true, false, List, [], ◌∷◌, ℕ}
use Rattle.std.proofs.Math.Option.{Option}
use Rattle.floats.specs.Test.{bounded}
use Rattle.floats.specs.Value.{is_finite}
use Rattle.floats.specs.declared.Test.{Test}
use Rattle.grid.specs.Combine.{Operation}
use Rattle.grid.specs.Geometry.{Point}

-- the calls on one seat; a value is its 32 bits
pub data Act : Type 0 where
  Lookup Sign Remove : Point → Act
  Insert : Point → ℕ → Act
  Fill : ℕ → Act
  Cut : Test → Act
  Clear Prune Flip FillSigns IsEmpty : Act

-- the calls on two seats: copy the first onto the second, combine the first with the second
pub data Pair : Type 0 where
  Copy : Pair
  Combine : Operation → Pair

pub data Call : Type 0 where
  One : ℕ → Act → Call
  Two : Pair → ℕ → ℕ → Call
  Prepare Count : Call

-- the seats that a call names; preparing names all, a count of free cells none
abbrev pub names : Call → List ℕ
names (One i x) = i ∷ []
names (Two x i j) = i ∷ j ∷ []
names Prepare = 0 ∷ 1 ∷ 2 ∷ 3 ∷ 4 ∷ 5 ∷ 6 ∷ 7 ∷ []
names Count = []

pub data Answer : Type 0 where
  refused : ℕ → Answer
  found : Option ℕ → Answer
  negative_is empty_is : Bool → Answer
  free_cells : ℕ → Answer
  done : Answer

-- "One-voxel calls are lookup, sign, insert and remove"
pub data Kind : Type 0 where
  one_voxel whole_pool preparing : Kind

abbrev pub on_kind : {A : Type 0} → A → A → A → Kind → A
on_kind x y z one_voxel = x
on_kind x y z whole_pool = y
on_kind x y z preparing = z

-- what the table of refusals asks of a call
pub record Asks : Type 0 where
  pub kind : Kind
  -- 4: every given value and bound is finite
  pub given : Bool
  -- 6: "sign or combination": the seats that it names have to be filled
  pub filled : Bool
  -- 7: "fill of signs or combination": no branch of them may be empty
  pub solid : Bool
  -- 8: "copy": its second seat has to be empty
  pub onto : Bool
  -- 9: it may need cells
  pub takes : Bool

abbrev pub card : Kind → Bool → Bool → Bool → Bool → Bool → Asks
card k g f s o t = record { kind = k; given = g; filled = f; solid = s; onto = o; takes = t }

-- for each call: kind, given, filled, solid, onto, takes
abbrev pub asks : Call → Asks
asks (One i (Lookup p)) = card one_voxel true false false false false
asks (One i (Sign p)) = card one_voxel true true false false false
asks (One i (Remove p)) = card one_voxel true false false false true
asks (One i (Insert p v)) = card one_voxel (is_finite v) false false false true
asks (One i (Fill v)) = card whole_pool (is_finite v) false false false false
asks (One i (Cut t)) = card whole_pool (bounded t) false false false false
asks (One i Clear) = card whole_pool true false false false false
asks (One i Prune) = card whole_pool true false false false false
asks (One i Flip) = card whole_pool true false false false false
asks (One i FillSigns) = card whole_pool true false true false false
asks (One i IsEmpty) = card whole_pool true false false false false
asks (Two Copy i j) = card whole_pool true false false true true
asks (Two (Combine o) i j) = card whole_pool true true true false false
asks Prepare = card preparing true false false false false
asks Count = card whole_pool true false false false false
