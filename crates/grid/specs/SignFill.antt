-- The sign fill: "goes child first. It keeps active values and writes every hidden slot as far with a sign". Assumes nothing.
use Rattle.std.specs.Prelude.{Bool, false, List, [], ◌∷◌, ℕ, zero, suc, ◌+◌, ◌-◌, ◌*◌, ◌/◌, ◌%◌, ◌^◌}
use Rattle.floats.specs.Value.{negative, far_with}
use Rattle.grid.specs.Node.{branch, tile, hidden, on_slot, size, Node, SlotOf}

-- "a branch gives its first sign, that of its slot 0 and, where that is a branch, of that branch's slot 0"
unfoldable pub first_sign : (bs : List ℕ) → Node bs → Bool
first_sign [] n = false
first_sign (b ∷ bs) n = on_slot (λ c. first_sign bs c) negative negative (n 0)

abbrev pub first_sign_s : (bs : List ℕ) → SlotOf bs → Bool
first_sign_s bs s = on_slot (λ c. first_sign bs c) negative negative s

-- "its last sign: for a leaf, slot 63; for a middle node, slot 63, and where that is a leaf, that leaf's slot 0, as in the source"
unfoldable pub last_sign : (bs : List ℕ) → Node bs → Bool
last_sign [] n = false
last_sign (b ∷ bs) n = first_sign_s bs (n (size b - 1))

-- what a slot that is not hidden replaces the sign k by: its own, and for a branch its last
abbrev pub replaced : (bs : List ℕ) → Bool → SlotOf bs → Bool
replaced bs k s = on_slot (λ c. last_sign bs c) negative (λ v. k) s

-- the sign behind places 0 to k of a row that starts as s
unfoldable pub along : (bs : List ℕ) → (ℕ → SlotOf bs) → Bool → ℕ → Bool
along bs row s zero = replaced bs s (row 0)
along bs row s (suc k) = replaced bs (along bs row s k) (row (suc k))

-- "Start: the sign of the first active or branch slot" among k; + if all are hidden: "an empty grid becomes all +far"
unfoldable pub start : (bs : List ℕ) → ℕ → (ℕ → SlotOf bs) → Bool
start bs zero n = false
start bs (suc k) n = on_slot (λ c. first_sign bs c) negative (λ v. start bs k (λ i. n (suc i))) (n 0)

-- "For each x in turn, slot (x,0,0) if not hidden replaces i"
unfoldable pub sign_i : (b : ℕ) (bs : List ℕ) → Node (b ∷ bs) → ℕ → Bool
sign_i b bs n x = along bs (λ k. n (k * 2 ^ (2 * b))) (start bs (size b) n) x

-- "j starts as i and slot (x,y,0) replaces it"
unfoldable pub sign_j : (b : ℕ) (bs : List ℕ) → Node (b ∷ bs) → ℕ → ℕ → Bool
unfolding sign_i
sign_j b bs n x y = along bs (λ k. n (x * 2 ^ (2 * b) + k * 2 ^ b)) (sign_i b bs n x) y

-- "k starts as j and slot (x,y,z) replaces it"
unfoldable pub sign_k : (b : ℕ) (bs : List ℕ) → Node (b ∷ bs) → ℕ → ℕ → ℕ → Bool
unfolding sign_j
sign_k b bs n x y z = along bs (λ k. n (x * 2 ^ (2 * b) + y * 2 ^ b + k)) (sign_j b bs n x y) z

-- the sign that comes to slot i, which is (x,y,z)
unfoldable pub carried : (b : ℕ) (bs : List ℕ) → Node (b ∷ bs) → ℕ → Bool
unfolding sign_k
carried b bs n i = sign_k b bs n (i / 2 ^ (2 * b)) (i % 2 ^ (2 * b) / 2 ^ b) (i % 2 ^ b)

-- "else the hidden slot gets k"
abbrev pub written : (bs : List ℕ) → Bool → SlotOf bs → SlotOf bs
written bs k s = on_slot branch tile (λ v. hidden (far_with k)) s

-- one node whose children are filled. "A full node is left as it is": it has no hidden slot
unfoldable pub filled_rows : (b : ℕ) (bs : List ℕ) → Node (b ∷ bs) → Node (b ∷ bs)
filled_rows b bs n i = written bs (carried b bs n (i % size b)) (n i)

unfoldable pub fill_signs : (bs : List ℕ) → Node bs → Node bs
fill_signs [] n = n
fill_signs (b ∷ bs) n = filled_rows b bs (λ i. on_slot (λ c. branch (fill_signs bs c)) tile hidden (n i))

abbrev pub fill_signs_s : (bs : List ℕ) → SlotOf bs → SlotOf bs
fill_signs_s bs s = on_slot (λ c. branch (fill_signs bs c)) tile hidden s
