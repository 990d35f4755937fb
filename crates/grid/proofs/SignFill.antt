-- Sign fill keeps lookups and which branches are empty, filling twice is filling once, and the sign that comes to a slot by its coordinates. Assumes nothing.
use mathlib.Core.Path.{◌≡◌, refl, sym, ◌∙◌, ap, subst, fun_ext}
use mathlib.Core.Bool.{Bool, true, false, false≢true}
use mathlib.Core.List.{List, [], ◌∷◌}
use Prim.Native.Nat.{ℕ, zero, suc, ◌+◌, ◌*◌, ◌/◌, ◌%◌, ◌^◌, ◌<◌, ◌≤◌}
use native.Mathlib.Nat.{mod-le, mul-le-mul_right, div-mul-le_self, div-add-mod'}
use native.Mathlib.Omega.{arith}
use lib.Arith.{digits_lt, digits_div, digits_mod}
use lib.Pow.{mod-mod-pow}
use Rattle.floats.specs.Value.{negative, far, far_with}
use Rattle.grid.specs.Geometry.{Point, slot_of}
use Rattle.grid.specs.Node.{branch, tile, hidden, on_slot, slot_ind, is_hidden, size, Node, SlotOf}
use Rattle.grid.specs.SignFill.{first_sign, replaced, along, start, sign_i, sign_j, sign_k, carried, written, filled_rows, fill_signs, fill_signs_s}
use Rattle.grid.specs.Voxel.{lookup, lookup_s}
use Rattle.grid.specs.Whole.{is_empty, hollow, has_hollow}
use Rattle.grid.proofs.Geometry.{square}
use Rattle.grid.proofs.Whole.{SameShape, same_empty, same_has_hollow, same_hollow}

pub fill_signs_lookup_lem : (bs : List ℕ) (c : Node bs) (p : Point) → lookup bs (fill_signs bs c) p ≡ lookup bs c p
unfolding lookup fill_signs filled_rows
fill_signs_lookup_lem [] c p = absurd c
fill_signs_lookup_lem (b ∷ bs) n p =
    slot_ind (λ s. (k : Bool) → lookup_s bs (written bs k (fill_signs_s bs s)) p ≡ lookup_s bs s p)
    (λ c k. fill_signs_lookup_lem bs c p) (λ v k. refl) (λ v k. refl)
    (n (slot_of b bs p)) (carried b bs (λ i. fill_signs_s bs (n i)) (slot_of b bs p % size b))

-- what is written into hidden slots does not change what goes along a row, nor where the rows start
along_same : (bs : List ℕ) (f g : ℕ → SlotOf bs) → ((k : Bool) (i : ℕ) → replaced bs k (f i) ≡ replaced bs k (g i))
    → (s s' : Bool) → s ≡ s' → (k : ℕ) → along bs f s k ≡ along bs g s' k
unfolding along
along_same bs f g h s s' e zero = ap (λ (x : Bool). replaced bs x (f 0)) e ∙ h s' 0
along_same bs f g h s s' e (suc k) = ap (λ (x : Bool). replaced bs x (f (suc k))) (along_same bs f g h s s' e k) ∙ h (along bs g s' k) (suc k)

begin : (bs : List ℕ) → Bool → SlotOf bs → Bool
begin bs r s = on_slot (λ c. first_sign bs c) negative (λ v. r) s

start_same : (bs : List ℕ) (k : ℕ) (f g : ℕ → SlotOf bs) → ((r : Bool) (i : ℕ) → begin bs r (f i) ≡ begin bs r (g i)) → start bs k f ≡ start bs k g
unfolding start begin
start_same bs zero f g h = refl
start_same bs (suc k) f g h =
    h (start bs k (λ i. f (suc i))) 0
    ∙ ap (λ (r : Bool). begin bs r (g 0)) (start_same bs k (λ i. f (suc i)) (λ i. g (suc i)) (λ r i. h r (suc i)))

carried_same : (b : ℕ) (bs : List ℕ) (f g : Node (b ∷ bs)) → ((k : Bool) (i : ℕ) → replaced bs k (f i) ≡ replaced bs k (g i))
    → ((r : Bool) (i : ℕ) → begin bs r (f i) ≡ begin bs r (g i)) → (i : ℕ) → carried b bs f i ≡ carried b bs g i
unfolding carried sign_k sign_j sign_i
carried_same b bs f g h h' i =
    along_same bs _ _ (λ k j. h k (x * 2 ^ (2 * b) + y * 2 ^ b + j)) _ _
    (along_same bs _ _ (λ k j. h k (x * 2 ^ (2 * b) + j * 2 ^ b)) _ _
    (along_same bs _ _ (λ k j. h k (j * 2 ^ (2 * b))) _ _ (start_same bs (size b) f g h') x) y)
    (i % 2 ^ b)
  where
    x : ℕ
    x = i / 2 ^ (2 * b)

    y : ℕ
    y = i % 2 ^ (2 * b) / 2 ^ b

-- a node whose children are filled
filled_twice : (b : ℕ) (bs : List ℕ) (n : Node (b ∷ bs)) → filled_rows b bs (filled_rows b bs n) ≡ filled_rows b bs n
unfolding filled_rows begin
filled_twice b bs n =
    fun_ext (λ i.
    twice i (n i)
    (carried_same b bs (λ j. written bs (carried b bs n (j % size b)) (n j)) n
    (λ k j. slot_ind (λ s. (e : Bool) → replaced bs k (written bs e s) ≡ replaced bs k s) (λ c e. refl) (λ v e. refl) (λ v e. refl) (n j) (carried b bs n (j % size b)))
    (λ k j. slot_ind (λ s. (e : Bool) → begin bs k (written bs e s) ≡ begin bs k s) (λ c e. refl) (λ v e. refl) (λ v e. refl) (n j) (carried b bs n (j % size b)))
    (i % size b)))
  where
    twice : (i : ℕ) (s : SlotOf bs) {k k' : Bool} → k ≡ k' → written bs k (written bs k' s) ≡ written bs k' s
    twice i (branch c) e = refl
    twice i (tile v) e = refl
    twice i (hidden v) e = ap (λ (x : Bool). hidden (far_with x)) e

pub fill_signs_twice_lem : (bs : List ℕ) (c : Node bs) → fill_signs bs (fill_signs bs c) ≡ fill_signs bs c
unfolding fill_signs filled_rows
fill_signs_twice_lem [] c = absurd c
fill_signs_twice_lem (b ∷ bs) n =
    ap (filled_rows b bs)
    (fun_ext (λ i.
    slot_ind (λ s. (k : Bool) → fill_signs_s bs (written bs k (fill_signs_s bs s)) ≡ written bs k (fill_signs_s bs s))
    (λ c k. ap branch (fill_signs_twice_lem bs c)) (λ v k. refl) (λ v k. refl)
    (n i) (carried b bs (λ j. fill_signs_s bs (n j)) (i % size b))))
    ∙ filled_twice b bs (λ i. fill_signs_s bs (n i))

-- ---- the same slots are hidden and the same branches are empty

-- of a slot, whatever is written, from what it is in the branches
rewritten : (bs : List ℕ) → ((c : Node bs) → hollow bs (fill_signs bs c) ≡ hollow bs c) → (s : SlotOf bs) (k : Bool) → SameShape bs (written bs k (fill_signs_s bs s)) s
unfolding is_hidden
rewritten bs h (branch c) k = (refl, h c)
rewritten bs h (tile v) k = (refl, refl)
rewritten bs h (hidden v) k = (refl, refl)

fill_signs_hollow : (bs : List ℕ) (c : Node bs) → hollow bs (fill_signs bs c) ≡ hollow bs c
unfolding fill_signs filled_rows
fill_signs_hollow [] c = absurd c
fill_signs_hollow (b ∷ bs) n =
    same_hollow b bs _ n (λ i. rewritten bs (fill_signs_hollow bs) (n i) (carried b bs (λ j. fill_signs_s bs (n j)) (i % size b)))

module _ (b : ℕ) (bs : List ℕ) (n : Node (b ∷ bs)) where
  shape : (i : ℕ) → SameShape bs (fill_signs (b ∷ bs) n i) (n i)
  unfolding fill_signs filled_rows
  shape i = rewritten bs (fill_signs_hollow bs) (n i) (carried b bs (λ j. fill_signs_s bs (n j)) (i % size b))

  pub fill_signs_is_empty : is_empty b bs (fill_signs (b ∷ bs) n) ≡ is_empty b bs n
  fill_signs_is_empty = same_empty b bs (fill_signs (b ∷ bs) n) n shape

  pub fill_signs_has_hollow : has_hollow b bs (fill_signs (b ∷ bs) n) ≡ has_hollow b bs n
  fill_signs_has_hollow = same_has_hollow b bs (fill_signs (b ∷ bs) n) n shape

-- the sign that comes to slot (x,y,z), by its number
pub carried_at : (b : ℕ) (bs : List ℕ) (n : Node (b ∷ bs)) (x y z : ℕ) → y < 2 ^ b → z < 2 ^ b → carried b bs n (x * 2 ^ (2 * b) + y * 2 ^ b + z) ≡ sign_k b bs n x y z
unfolding carried
carried_at b bs n x y z h h' = λ j. sign_k b bs n (is_x j) (is_y j) (is_z j)
  where
    i : ℕ
    i = x * 2 ^ (2 * b) + y * 2 ^ b + z

    high : i ≡ x * 2 ^ (2 * b) + (y * 2 ^ b + z)
    high = omega arith

    low : y * 2 ^ b + z < 2 ^ (2 * b)
    low = subst (λ (m : ℕ). y * 2 ^ b + z < m) (sym (square b)) (digits_lt h h')

    is_x : i / 2 ^ (2 * b) ≡ x
    is_x = ap (λ (k : ℕ). k / 2 ^ (2 * b)) high ∙ digits_div x low

    is_y : i % 2 ^ (2 * b) / 2 ^ b ≡ y
    is_y = ap (λ (k : ℕ). k % 2 ^ (2 * b) / 2 ^ b) high ∙ ap (λ (k : ℕ). k / 2 ^ b) (digits_mod x low) ∙ digits_div y h'

    is_z : i % 2 ^ b ≡ z
    is_z = ap (λ (k : ℕ). k % 2 ^ b) (rw (square b) (omega arith)) ∙ digits_mod (x * 2 ^ b + y) h'

-- ---- an empty grid

-- every place that the rows read for slot i lies at or below i
module _ (b i : ℕ) where
  low_x : (j : ℕ) → j ≤ i / 2 ^ (2 * b) → j * 2 ^ (2 * b) ≤ i
  low_x j h = omega (arith, mul-le-mul_right (2 ^ (2 * b)) h, div-mul-le_self i (2 ^ (2 * b)))

  low_y : (j : ℕ) → j ≤ i % 2 ^ (2 * b) / 2 ^ b → i / 2 ^ (2 * b) * 2 ^ (2 * b) + j * 2 ^ b ≤ i
  low_y j h = omega (arith, mul-le-mul_right (2 ^ b) h, div-mul-le_self (i % 2 ^ (2 * b)) (2 ^ b), div-add-mod' i (2 ^ (2 * b)))

  low_z : (j : ℕ) → j ≤ i % 2 ^ b → i / 2 ^ (2 * b) * 2 ^ (2 * b) + i % 2 ^ (2 * b) / 2 ^ b * 2 ^ b + j ≤ i
  low_z j h = omega (arith, div-add-mod' (i % 2 ^ (2 * b)) (2 ^ b), div-add-mod' i (2 ^ (2 * b)), same_mod)
    where
      same_mod : i % 2 ^ (2 * b) % 2 ^ b ≡ i % 2 ^ b
      same_mod = ap (λ (k : ℕ). i % 2 ^ k % 2 ^ b) (omega arith) ∙ mod-mod-pow i b b

pass_hidden : (bs : List ℕ) (k : Bool) (s : SlotOf bs) → is_hidden s ≡ true → replaced bs k s ≡ k
unfolding is_hidden
pass_hidden bs k (branch c) e = absurd (false≢true e)
pass_hidden bs k (tile v) e = absurd (false≢true e)
pass_hidden bs k (hidden v) e = refl

along_hidden : (bs : List ℕ) (f : ℕ → SlotOf bs) (s : Bool) (k : ℕ) → ((j : ℕ) → j ≤ k → is_hidden (f j) ≡ true) → along bs f s k ≡ s
unfolding along
along_hidden bs f s zero h = pass_hidden bs s (f 0) (h 0 (omega arith))
along_hidden bs f s (suc k) h =
    pass_hidden bs (along bs f s k) (f (suc k)) (h (suc k) (omega arith)) ∙ along_hidden bs f s k (λ j l. h j (omega arith))

start_hidden : (bs : List ℕ) (k : ℕ) (n : ℕ → SlotOf bs) → ((j : ℕ) → j < k → is_hidden (n j) ≡ true) → start bs k n ≡ false
unfolding start is_hidden
start_hidden bs zero n h = refl
start_hidden bs (suc k) n h =
    go (n 0) (h 0 (omega arith)) (start_hidden bs k (λ i. n (suc i)) (λ j l. h (suc j) (omega arith)))
  where
    go : (s : SlotOf bs) → is_hidden s ≡ true → {r : Bool} → r ≡ false → on_slot (λ c. first_sign bs c) negative (λ v. r) s ≡ false
    go (branch c) e g = absurd (false≢true e)
    go (tile v) e g = absurd (false≢true e)
    go (hidden v) e g = g

carried_hidden : (b : ℕ) (bs : List ℕ) (n : Node (b ∷ bs)) → ((j : ℕ) → j < size b → is_hidden (n j) ≡ true) → (i : ℕ) → i < size b → carried b bs n i ≡ false
unfolding carried sign_k sign_j sign_i
carried_hidden b bs n h i l =
    along_hidden bs _ _ _ (λ j g. h _ (omega (arith, low_z b i j g)))
    ∙ along_hidden bs _ _ _ (λ j g. h _ (omega (arith, low_y b i j g)))
    ∙ along_hidden bs _ _ _ (λ j g. h _ (omega (arith, low_x b i j g)))
    ∙ start_hidden bs (size b) n h

-- an empty grid becomes all +far
pub fill_signs_empty_lem : (b : ℕ) (bs : List ℕ) (n : Node (b ∷ bs)) → ((j : ℕ) → j < size b → is_hidden (n j) ≡ true) → (i : ℕ) → i < size b
    → fill_signs (b ∷ bs) n i ≡ hidden far
unfolding fill_signs filled_rows is_hidden far_with
fill_signs_empty_lem b bs n h i l = go (n i) (h i l) (carried_hidden b bs (λ j. fill_signs_s bs (n j)) (λ j g. still (n j) (h j g)) (i % size b) (omega (arith, mod-le i (size b))))
  where
    still : (s : SlotOf bs) → is_hidden s ≡ true → is_hidden (fill_signs_s bs s) ≡ true
    still (branch c) e = absurd (false≢true e)
    still (tile v) e = absurd (false≢true e)
    still (hidden v) e = refl

    go : (s : SlotOf bs) → is_hidden s ≡ true → {k : Bool} → k ≡ false → written bs k (fill_signs_s bs s) ≡ hidden far
    go (branch c) e g = absurd (false≢true e)
    go (tile v) e g = absurd (false≢true e)
    go (hidden v) e g = ap (λ (k : Bool). hidden (far_with k)) g
