-- The bits tell the words, so a promise by bits leaves nothing open. And cases that antt computes. Assumes nothing.
use mathlib.Core.Path.{◌≡◌, refl, sym, ◌∙◌}
use mathlib.Core.Bool.{true}
use mathlib.Core.List.{List, [], ◌∷◌}
use Prim.Native.Nat.{ℕ, ◌+◌, ◌*◌, ◌^◌, ◌<◌}
use lib.ListN.{length, get_or}
use lib.Seq.{ext_get_or}
use Rattle.bitset.specs.Set.{weight, bit_of, every, full, empty}
use Rattle.bitset.proofs.Words.{word_ext}
use Rattle.bitset.proofs.Sets.{has_own}

-- two sets of as many words with the same bits are the same words
pub words_ext : (a b : List ℕ) → length a ≡ length b → ((q : ℕ) → get_or a q 0 < 2 ^ 64) → ((q : ℕ) → get_or b q 0 < 2 ^ 64) → ((k : ℕ) → bit_of a k ≡ bit_of b k) → a ≡ b
words_ext a b e A B h =
    ext_get_or 0 a b e (λ q l. word_ext (get_or a q 0) (get_or b q 0) (A q) (B q) (λ r m. has_own a q r m ∙ h (64 * q + r) ∙ sym (has_own b q r m)))

-- "bit 22 has weight 2^41 in its word"
bit_22_weighs : weight 22 ≡ 2 ^ 41
bit_22_weighs = refl

bit_22_is_on : bit_of (2 ^ 41 ∷ []) 22 ≡ true
unfolding bit_of
bit_22_is_on = refl

-- a set of 8 bits is full by the top byte of its word, and empty without it
eight_are_full : full (0xff00000000000000 ∷ []) 8 ≡ true
unfolding bit_of every
eight_are_full = refl

eight_are_empty : empty (0x00ffffffffffffff ∷ []) 8 ≡ true
unfolding bit_of every
eight_are_empty = refl
