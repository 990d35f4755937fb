-- When a call on a set of bits is refused, and what the calls answer and leave in lent memory. Assumes nothing.
use Rattle.std.specs.Prelude.{◌≡◌, List, Bool, true, false, ◌&&◌, cond, ℕ, ◌+◌, ◌-◌, ◌*◌, ◌/◌, ◌<◌, eqb, leb, ltb, Option, Some, None}
use Rattle.bitset.specs.Set.{word_bit, bit_of}
use Rattle.bitset.specs.Answers.{FirstOn, WordAt}
use Rattle.bitset_calls.specs.declared.BitsAnswer.{BitsAnswer}

-- ---- what is not refused
-- n is from 1 to 512, and m words are just those that a set of n bits needs
unfoldable pub sized : ℕ → ℕ → Bool
sized m n = ltb 0 n && (leb n 512 && eqb m ((n + 63) / 64))

-- and i is a bit of the set
unfoldable pub has : ℕ → ℕ → ℕ → Bool
has m n i = sized m n && ltb i n

-- and a second set, and a third, has as many words
unfoldable pub pair : ℕ → ℕ → ℕ → Bool
pair m p n = sized m n && eqb p m

unfoldable pub triple : ℕ → ℕ → ℕ → ℕ → Bool
triple m p q n = pair m p n && eqb q m

-- ---- the three kinds of answer: done, with a value; refused; nothing there
abbrev pub done : ℕ → BitsAnswer
done v = record { code = 0; value = v }

abbrev pub refused : BitsAnswer
refused = record { code = 1; value = 0 }

abbrev pub nothing : BitsAnswer
nothing = record { code = 2; value = 0 }

-- a bool as an answer's value
abbrev pub truth : Bool → ℕ
truth b = cond b 1 0

-- whether a word was there to be written
abbrev pub stored : Bool → BitsAnswer
stored b = cond b (done 0) nothing

-- what was looked for, or nothing
abbrev pub found_answer : Option ℕ → BitsAnswer
found_answer (Some v) = done v
found_answer None = nothing

-- the word at offset o, and the first bit that is on, as the set's definitions have them
abbrev pub Word : List ℕ → ℕ → ℕ → BitsAnswer → Type 0
Word ws n o r = (w : Option ℕ) × (WordAt ws n o w × (r ≡ found_answer w))

abbrev pub First : List ℕ → ℕ → BitsAnswer → Type 0
First ws n r = (f : Option ℕ) × (FirstOn ws n f × (r ≡ found_answer f))

-- the bits of the last of m words that are in use
abbrev pub Mask : ℕ → ℕ → BitsAnswer → Type 0
Mask m n r = (r.code ≡ 0) × ((k : ℕ) → k < 64 → word_bit r.value k ≡ ltb (64 * (m - 1) + k) n)

-- ---- what a call promises on every input: b says whether it is accepted, and r is its answer
-- a call that reads: A where it is accepted
pub record Reads (b : Bool) (A : Type 0) (r : BitsAnswer) : Type 0 where
  pub accepted : b ≡ true → A
  pub otherwise : b ≡ false → r ≡ refused

-- a call that writes: the words entry are exit after it. Where it is accepted its answer is a, and each bit is as said; else no word has changed
pub record Writes (b : Bool) (a : BitsAnswer) (bits : ℕ → Bool) (entry exit : List ℕ) (r : BitsAnswer) : Type 0 where
  pub accepted : b ≡ true → (r ≡ a) × ((k : ℕ) → bit_of exit k ≡ bits k)
  pub otherwise : b ≡ false → (r ≡ refused) × (exit ≡ entry)
