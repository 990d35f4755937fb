-- The links of a node's branches, taken one at a time from the first slot to the last. Assumes nothing.
use Rattle.std.specs.Prelude.{Bool, cond, ◌&&◌, List, [], ◌∷◌, ◌++◌, ℕ, zero, suc, ◌+◌, ◌*◌, ◌/◌, ◌%◌, get_or, ltb, eqb}
use Rattle.bitset.specs.Set.{bit_of, word_bit}

-- what f gives at those of the first m numbers that p holds of
unfoldable pub listed : (ℕ → Bool) → (ℕ → ℕ) → ℕ → List ℕ
listed p f zero = []
listed p f (suc m) = listed p f m ++ cond (p m) (f m ∷ []) []

-- place i is that of a branch that is still to come: of group g, whose bits that are left are w, or of a later group
abbrev pub to_come : List ℕ → ℕ → ℕ → ℕ → Bool
to_come masks g w i = cond (eqb (i / 64) g) (word_bit w (i % 64)) (ltb g (i / 64) && bit_of masks i)

-- their links, where `last` is the last group
abbrev pub links_left : List ℕ → List ℕ → ℕ → ℕ → ℕ → List ℕ
links_left slots masks last g w = listed (to_come masks g w) (λ i. get_or slots i 0) (64 * last + 64)
