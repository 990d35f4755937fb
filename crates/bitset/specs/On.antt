-- The bits of a word that are on, taken one at a time from the first, the top one.
use Rattle.std.specs.Prelude.{◌≡◌, Option, MatchOption, true, false, ℕ, ◌-◌, ◌<◌, bit_and}
use Rattle.bitset.specs.Set.{word_bit, weight}

-- i is the place of the first bit of w that is on
pub record Leads (w i : ℕ) : Type 0 where
  pub within : i < 64
  pub on : word_bit w i ≡ true
  pub before : (r : ℕ) → r < i → word_bit w r ≡ false

-- the word w without bit i
abbrev pub less : ℕ → ℕ → ℕ
less w i = bit_and w (0xffff_ffff_ffff_ffff - weight i)

-- one call took the first bit that is on in w, and left v, which is w without it; where none was on, none is
abbrev pub TakesFirst : ℕ → Option ℕ → ℕ → Type 0
TakesFirst w r v = MatchOption r ((w ≡ 0) × (v ≡ 0)) (λ i. Leads w i × (v ≡ less w i))
