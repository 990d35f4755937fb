-- A set of n bits, in words of 64. The words are numbers below 2 ^ 64, from the first to the last.
use Rattle.std.specs.Prelude.{◌≡◌, List, Bool, true, not, ◌&&◌, ◌||◌, ℕ, zero, suc, ◌+◌, ◌-◌, ◌*◌, ◌/◌, ◌%◌, ◌^◌, ◌≤◌, ◌<◌, length, get_or, eqb, leb, ltb}
use Rattle.std.specs.Bool.{beq}

-- "Sets of 8, 64 and 512 bits are served by one fact proved over the size": m words are just those that a set of n bits needs
pub record Sized (m n : ℕ) : Type 0 where
  pub enough : n ≤ 64 * m
  pub last : 64 * m < n + 64
  pub small : n ≤ 512
  pub some : 0 < n

-- the words ws are just those that a set of n bits needs
abbrev pub Holds : List ℕ → ℕ → Type 0
Holds ws n = Sized (length ws) n

-- "Bit 0 is the top bit of word 0": what bit i weighs in its word
abbrev pub weight : ℕ → ℕ
weight i = 2 ^ (63 - i % 64)

-- a word has the bit of number i: the word's quotient by the weight is odd
abbrev pub word_bit : ℕ → ℕ → Bool
word_bit w i = eqb (w / weight i % 2) 1

-- the set has bit i; past the last word there is none
unfoldable pub bit_of : List ℕ → ℕ → Bool
bit_of ws i = word_bit (get_or ws (i / 64) 0) i

-- the word w has, at the place of word q, the bits that g gives
abbrev pub Has : (ℕ → Bool) → ℕ → ℕ → Type 0
Has g q w = (r : ℕ) → r < 64 → word_bit w r ≡ g (64 * q + r)

-- "the port moves bit n to n+s": bit k of the set after a shift to the right
abbrev pub up : List ℕ → ℕ → ℕ → Bool
up ws s k = leb s k && bit_of ws (k - s)

-- bit k of the set of n bits after a shift to the left: where s is not 0, no unused bit comes in
abbrev pub down : List ℕ → ℕ → ℕ → ℕ → Bool
down ws n s k = (eqb s 0 || ltb (k + s) n) && bit_of ws (k + s)

-- p holds of each number below n
unfoldable pub every : (ℕ → Bool) → ℕ → Bool
every p zero = true
every p (suc n) = p n && every p n

-- "unused bits are ignored by empty, full and equality": no bit below n is on
abbrev pub empty : List ℕ → ℕ → Bool
empty ws n = every (λ k. not (bit_of ws k)) n

-- "unused bits are ignored by empty, full and equality": each bit below n is on
abbrev pub full : List ℕ → ℕ → Bool
full ws n = every (bit_of ws) n

-- "unused bits are ignored by empty, full and equality": the bits below n are the same
abbrev pub same : List ℕ → List ℕ → ℕ → Bool
same a b n = every (λ k. beq (bit_of a k) (bit_of b k)) n
