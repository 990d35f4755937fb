-- Slots and nodes. A grid is a node of the top level. Assumes nothing.
use Rattle.std.specs.Prelude.{◌≡◌, Bool, true, false, cond, ◌&&◌, List, [], ◌∷◌, ℕ, zero, suc, ◌+◌, ◌*◌, ◌%◌, ◌^◌, eqb}
use Rattle.floats.specs.Value.{is_finite}

-- "A slot is an active tile or voxel, a branch, or hidden. A hidden slot holds a value but no lookup shows it": a branch leads to a child C
pub data Slot (C : Type 0) : Type 0 where
  branch : C → Slot C
  tile hidden : ℕ → Slot C

abbrev pub on_slot {ℓ} : {C : Type 0} {B : Type ℓ} → (C → B) → (ℕ → B) → (ℕ → B) → Slot C → B
on_slot f g h (branch c) = f c
on_slot f g h (tile v) = g v
on_slot f g h (hidden v) = h v

abbrev pub slot_ind : {C : Type 0} (P : Slot C → Type 0) → ((c : C) → P (branch c)) → ((v : ℕ) → P (tile v)) → ((v : ℕ) → P (hidden v)) → (s : Slot C) → P s
slot_ind P f g h (branch c) = f c
slot_ind P f g h (tile v) = g v
slot_ind P f g h (hidden v) = h v

unfoldable pub is_hidden : {C : Type 0} → Slot C → Bool
is_hidden (branch c) = false
is_hidden (tile v) = false
is_hidden (hidden v) = true

-- the slots of a node with branching b
unfoldable pub size : ℕ → ℕ
size b = 2 ^ (3 * b)

-- a node with the branchings given, its own first and the leaf's last: its slots by number; below a leaf there is no node
abbrev pub Node : List ℕ → Type 0
Node [] = ⊥
Node (b ∷ bs) = ℕ → Slot (Node bs)

-- a slot above a node with the branchings bs; above none it is a voxel
abbrev pub SlotOf : List ℕ → Type 0
SlotOf bs = Slot (Node bs)

-- what a node in a sound pool is: "every value in a top or a reached cell is finite", hidden ones too; and it is read modulo its size, as memory is, so that two
-- nodes are equal exactly if every slot is
abbrev pub Proper : (bs : List ℕ) → Node bs → Type 0
Proper [] n = Unit {0}
Proper (b ∷ bs) n =
    ((k : ℕ) → n k ≡ n (k % size b)) × ((k : ℕ) → on_slot (λ c. Proper bs c) (λ v. is_finite v ≡ true) (λ v. is_finite v ≡ true) (n k))

abbrev pub ProperS : (bs : List ℕ) → SlotOf bs → Type 0
ProperS bs s = on_slot (λ c. Proper bs c) (λ v. is_finite v ≡ true) (λ v. is_finite v ≡ true) s

-- slot i of a node of m slots changed by f
unfoldable pub changed : {A : Type 0} → ℕ → ℕ → (A → A) → (ℕ → A) → ℕ → A
changed m i f n k = cond (eqb (k % m) i) (f (n k)) (n k)

-- place i of a sequence set to a
unfoldable pub put : {A : Type 0} → (ℕ → A) → ℕ → A → ℕ → A
put f i a j = cond (eqb j i) a (f j)

-- the first k places pass a test
unfoldable pub every : {A : Type 0} → (A → Bool) → ℕ → (ℕ → A) → Bool
every f zero n = true
every f (suc k) n = f (n k) && every f k n

unfoldable pub sum : ℕ → (ℕ → ℕ) → ℕ
sum zero f = 0
sum (suc k) f = f k + sum k f
