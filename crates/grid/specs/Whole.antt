-- The calls on a whole grid, and the cells that it reaches. Assumes nothing.
use Rattle.std.specs.Prelude.{Bool, false, not, ◌||◌, cond, List, [], ◌∷◌, ℕ, suc}
use Rattle.floats.specs.Value.{negated, far}
use Rattle.grid.specs.Node.{branch, tile, hidden, on_slot, is_hidden, size, Node, SlotOf, every, sum}
use Rattle.grid.specs.Voxel.{kept}

-- "Fill with a value makes all 512 top slots active and releases all branches"
unfoldable pub fill : (b : ℕ) (bs : List ℕ) → ℕ → Node (b ∷ bs)
fill b bs v i = tile v

-- "Clear empties the seat and leaves every top slot +far"
unfoldable pub clear : (b : ℕ) (bs : List ℕ) → Node (b ∷ bs)
clear b bs i = hidden far

-- "Prune releases every empty branch", child first
unfoldable pub prune_s : (bs : List ℕ) → SlotOf bs → SlotOf bs
prune_s [] s = s
prune_s (b ∷ bs) s = on_slot (λ n. kept b bs (λ i. prune_s bs (n i))) tile hidden s

-- "Active slots that pass are hidden, empty branches released"
unfoldable pub cut_s : (ℕ → Bool) → (bs : List ℕ) → SlotOf bs → SlotOf bs
cut_s t [] s = on_slot branch (λ v. cond (t v) (hidden v) (tile v)) hidden s
cut_s t (b ∷ bs) s = on_slot (λ n. kept b bs (λ i. cut_s t bs (n i))) (λ v. cond (t v) (hidden v) (tile v)) hidden s

-- "Flip negates every value, hidden ones too"
unfoldable pub flip : (bs : List ℕ) → Node bs → Node bs
flip [] n = n
flip (b ∷ bs) n = λ i. on_slot (λ c. branch (flip bs c)) (λ v. tile (negated v)) (λ v. hidden (negated v)) (n i)

abbrev pub flip_s : (bs : List ℕ) → SlotOf bs → SlotOf bs
flip_s bs s = on_slot (λ c. branch (flip bs c)) (λ v. tile (negated v)) (λ v. hidden (negated v)) s

-- the cells of a branch: its own and those below it
unfoldable pub cells : (bs : List ℕ) → Node bs → ℕ
cells [] n = 0
cells (b ∷ bs) n = suc (sum (size b) (λ i. on_slot (λ c. cells bs c) (λ v. 0) (λ v. 0) (n i)))

abbrev pub cells_s : (bs : List ℕ) → SlotOf bs → ℕ
cells_s bs s = on_slot (λ c. cells bs c) (λ v. 0) (λ v. 0) s

-- the cells that a grid reaches: its top is none of them
unfoldable pub reach : (b : ℕ) (bs : List ℕ) → Node (b ∷ bs) → ℕ
reach b bs n = sum (size b) (λ i. cells_s bs (n i))

-- empty: no slot of the top is active or a branch, so both its masks are empty
unfoldable pub is_empty : (b : ℕ) (bs : List ℕ) → Node (b ∷ bs) → Bool
is_empty b bs n = every is_hidden (size b) n

-- refusal 7: "a branch has both masks empty", this one or one below it
unfoldable pub hollow : (bs : List ℕ) → Node bs → Bool
hollow [] n = false
hollow (b ∷ bs) n = every is_hidden (size b) n || not (every (λ s. not (on_slot (λ c. hollow bs c) (λ v. false) (λ v. false) s)) (size b) n)

abbrev pub hollow_s : (bs : List ℕ) → SlotOf bs → Bool
hollow_s bs s = on_slot (λ c. hollow bs c) (λ v. false) (λ v. false) s

-- some branch of a grid is empty
unfoldable pub has_hollow : (b : ℕ) (bs : List ℕ) → Node (b ∷ bs) → Bool
has_hollow b bs n = not (every (λ s. not (hollow_s bs s)) (size b) n)
