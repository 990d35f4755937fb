-- The whole-grid calls, as lookups see them: fill, clear, prune, cut, flip; and which of them leave no empty branch, or keep those that there are. Assumes nothing.
use mathlib.Core.Path.{◌≡◌, refl, ◌∙◌, ap, ap₂, fun_ext}
use mathlib.Core.Bool.{Bool, true, false, not, ◌||◌, cond}
use mathlib.Core.List.{List, [], ◌∷◌}
use mathlib.Core.Option.{Option, none, some}
use Prim.Native.Nat.{ℕ}
use Rattle.floats.specs.Value.{negated, far}
use Rattle.floats.proofs.Words.{negated_twice}
use Rattle.grid.specs.Geometry.{Point, slot_of}
use Rattle.grid.specs.Node.{branch, tile, hidden, slot_ind, is_hidden, size, Node, SlotOf, every}
use Rattle.grid.specs.Voxel.{lookup, lookup_s, kept}
use Rattle.grid.specs.Whole.{fill, clear, prune_s, cut_s, flip, flip_s, is_empty, hollow, hollow_s, has_hollow}
use Rattle.grid.proofs.Places.{cond_at, every_all, every_same}
use Rattle.grid.proofs.Voxel.{kept_lookup}

-- a lookup, changed
abbrev pub through : {A B : Type 0} → (A → Option B) → Option A → Option B
through f none = none
through f (some a) = f a

-- what a lookup shows of a value after a cut: one that passes is hidden
abbrev pub uncut : (ℕ → Bool) → ℕ → Option ℕ
uncut t v = cond (t v) none (some v)

module _ (p : Point) where
  pub fill_lookup : (b : ℕ) (bs : List ℕ) (v : ℕ) → lookup (b ∷ bs) (fill b bs v) p ≡ some v
  unfolding lookup fill
  fill_lookup b bs v = refl

  pub clear_lookup : (b : ℕ) (bs : List ℕ) → lookup (b ∷ bs) (clear b bs) p ≡ none
  unfolding lookup clear
  clear_lookup b bs = refl

  pub flip_lookup : (bs : List ℕ) (c : Node bs) → lookup bs (flip bs c) p ≡ through (λ v. some (negated v)) (lookup bs c p)
  unfolding lookup flip
  flip_lookup [] c = absurd c
  flip_lookup (b ∷ bs) n =
      slot_ind (λ s. lookup_s bs (flip_s bs s) p ≡ through (λ v. some (negated v)) (lookup_s bs s p)) (flip_lookup bs) (λ v. refl) (λ v. refl) (n (slot_of b bs p))

  pub prune_lookup : (bs : List ℕ) (s : SlotOf bs) → lookup_s bs (prune_s bs s) p ≡ lookup_s bs s p
  unfolding lookup prune_s
  prune_lookup [] s = refl
  prune_lookup (b ∷ bs) (tile v) = refl
  prune_lookup (b ∷ bs) (hidden v) = refl
  prune_lookup (b ∷ bs) (branch n) = kept_lookup p b bs (λ i. prune_s bs (n i)) p ∙ prune_lookup bs (n (slot_of b bs p))

  cut_tile : (t : ℕ → Bool) (bs : List ℕ) (v : ℕ) → lookup_s bs (cond (t v) (hidden v) (tile v)) p ≡ uncut t v
  cut_tile t bs v = go (t v)
    where
      go : (k : Bool) → lookup_s bs (cond k (hidden v) (tile v)) p ≡ cond k none (some v)
      go true = refl
      go false = refl

  pub cut_lookup : (t : ℕ → Bool) (bs : List ℕ) (s : SlotOf bs) → lookup_s bs (cut_s t bs s) p ≡ through (uncut t) (lookup_s bs s p)
  unfolding lookup cut_s
  cut_lookup t [] (branch c) = absurd c
  cut_lookup t [] (tile v) = cut_tile t [] v
  cut_lookup t [] (hidden v) = refl
  cut_lookup t (b ∷ bs) (tile v) = cut_tile t (b ∷ bs) v
  cut_lookup t (b ∷ bs) (hidden v) = refl
  cut_lookup t (b ∷ bs) (branch n) = kept_lookup p b bs (λ i. cut_s t bs (n i)) p ∙ cut_lookup t bs (n (slot_of b bs p))

-- ---- no empty branch is left

-- a branch that is kept has something in it
kept_solid : (b : ℕ) (bs : List ℕ) (n : Node (b ∷ bs)) → ((i : ℕ) → hollow_s bs (n i) ≡ false) → hollow_s (b ∷ bs) (kept b bs n) ≡ false
unfolding kept hollow
kept_solid b bs n h = go (every is_hidden (size b) n) refl
  where
    go : (k : Bool) → every is_hidden (size b) n ≡ k → hollow_s (b ∷ bs) (cond k (hidden far) (branch n)) ≡ false
    go true e = refl
    go false e = ap₂ (λ x y. x || not y) e (every_all (λ s. not (hollow_s bs s)) (size b) n (λ i. ap not (h i)))

-- "Prune releases every empty branch"
pub prune_solid : (bs : List ℕ) (s : SlotOf bs) → hollow_s bs (prune_s bs s) ≡ false
unfolding prune_s hollow
prune_solid [] (branch c) = absurd c
prune_solid [] (tile v) = refl
prune_solid [] (hidden v) = refl
prune_solid (b ∷ bs) (tile v) = refl
prune_solid (b ∷ bs) (hidden v) = refl
prune_solid (b ∷ bs) (branch n) = kept_solid b bs (λ i. prune_s bs (n i)) (λ i. prune_solid bs (n i))

-- a cut: "empty branches released"
pub cut_solid : (t : ℕ → Bool) (bs : List ℕ) (s : SlotOf bs) → hollow_s bs (cut_s t bs s) ≡ false
unfolding cut_s hollow
cut_solid t [] (branch c) = absurd c
cut_solid t [] (tile v) = cond_at (λ s. hollow_s [] s ≡ false) (t v) (hidden v) (tile v) (λ _. refl) (λ _. refl)
cut_solid t [] (hidden v) = refl
cut_solid t (b ∷ bs) (tile v) = cond_at (λ s. hollow_s (b ∷ bs) s ≡ false) (t v) (hidden v) (tile v) (λ _. refl) (λ _. refl)
cut_solid t (b ∷ bs) (hidden v) = refl
cut_solid t (b ∷ bs) (branch n) = kept_solid b bs (λ i. cut_s t bs (n i)) (λ i. cut_solid t bs (n i))

module _ (b : ℕ) (bs : List ℕ) where
  all_solid : (n : Node (b ∷ bs)) → ((i : ℕ) → hollow_s bs (n i) ≡ false) → has_hollow b bs n ≡ false
  unfolding has_hollow
  all_solid n h = ap not (every_all (λ s. not (hollow_s bs s)) (size b) n (λ i. ap not (h i)))

  pub prune_none_hollow : (n : Node (b ∷ bs)) → has_hollow b bs (λ i. prune_s bs (n i)) ≡ false
  prune_none_hollow n = all_solid (λ i. prune_s bs (n i)) (λ i. prune_solid bs (n i))

  pub cut_none_hollow : (t : ℕ → Bool) (n : Node (b ∷ bs)) → has_hollow b bs (λ i. cut_s t bs (n i)) ≡ false
  cut_none_hollow t n = all_solid (λ i. cut_s t bs (n i)) (λ i. cut_solid t bs (n i))

-- ---- the same slots are hidden and the same branches are empty

abbrev pub SameShape : (bs : List ℕ) → SlotOf bs → SlotOf bs → Type 0
SameShape bs s t = (is_hidden s ≡ is_hidden t) × (hollow_s bs s ≡ hollow_s bs t)

module _ (b : ℕ) (bs : List ℕ) (n m : Node (b ∷ bs)) (h : (i : ℕ) → SameShape bs (n i) (m i)) where
  pub same_empty : is_empty b bs n ≡ is_empty b bs m
  unfolding is_empty
  same_empty = every_same is_hidden (size b) n m (λ i. (h i).0)

  pub same_has_hollow : has_hollow b bs n ≡ has_hollow b bs m
  unfolding has_hollow
  same_has_hollow = ap not (every_same (λ s. not (hollow_s bs s)) (size b) n m (λ i. ap not (h i).1))

  pub same_hollow : hollow (b ∷ bs) n ≡ hollow (b ∷ bs) m
  unfolding hollow is_empty has_hollow
  same_hollow = ap₂ ◌||◌ same_empty same_has_hollow

-- so it is after a flip, from what it is in the branches
flipped : (bs : List ℕ) → ((c : Node bs) → hollow bs (flip bs c) ≡ hollow bs c) → (s : SlotOf bs) → SameShape bs (flip_s bs s) s
unfolding is_hidden
flipped bs h (branch c) = (refl, h c)
flipped bs h (tile v) = (refl, refl)
flipped bs h (hidden v) = (refl, refl)

flip_hollow : (bs : List ℕ) (c : Node bs) → hollow bs (flip bs c) ≡ hollow bs c
unfolding flip
flip_hollow [] c = absurd c
flip_hollow (b ∷ bs) n = same_hollow b bs (λ i. flip_s bs (n i)) n (λ i. flipped bs (flip_hollow bs) (n i))

module _ (b : ℕ) (bs : List ℕ) (n : Node (b ∷ bs)) where
  pub flip_empty : is_empty b bs (flip (b ∷ bs) n) ≡ is_empty b bs n
  unfolding flip
  flip_empty = same_empty b bs (λ i. flip_s bs (n i)) n (λ i. flipped bs (flip_hollow bs) (n i))

  pub flip_has_hollow : has_hollow b bs (flip (b ∷ bs) n) ≡ has_hollow b bs n
  unfolding flip
  flip_has_hollow = same_has_hollow b bs (λ i. flip_s bs (n i)) n (λ i. flipped bs (flip_hollow bs) (n i))

-- the sign bit, changed twice
pub flip_twice : (bs : List ℕ) (c : Node bs) → flip bs (flip bs c) ≡ c
unfolding flip
flip_twice [] c = absurd c
flip_twice (b ∷ bs) n =
    fun_ext (λ i.
    slot_ind (λ s. flip_s bs (flip_s bs s) ≡ s) (λ c. ap branch (flip_twice bs c)) (λ v. ap tile (negated_twice v)) (λ v. ap hidden (negated_twice v)) (n i))
