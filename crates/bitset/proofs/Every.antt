-- What holds of every bit of a set, tested on whole words: no word has a bit at which it fails. Assumes nothing.
use mathlib.Core.Path.{◌≡◌, refl, sym, ap, ap₂, ◌∙◌, subst}
use mathlib.Core.Logic.{inl, inr}
use mathlib.Core.List.{List}
use mathlib.Core.Bool.{Bool, true, false, not, ◌&&◌, xor, beq, not-not, and-true, and-false, and_comm}
use Prim.Native.Nat.{ℕ, zero, suc, ◌+◌, ◌-◌, ◌*◌, ◌≤◌, ◌<◌, ◌^◌}
use native.Mathlib.Nat.{not-suc-le-zero, le_of_suc-le-suc, lt_of_le_of_lt}
use native.Mathlib.Omega.{arith}
use lib.Dec.{T, eqb, ltb, lit<}
use lib.Bits.{bit_and, bit_or, and_le_l, and_le_r, or_add_and}
use lib.Arith.{lt_of_le-ne}
use borrow.Author.Tests.{eq-eqb, eqb-true, lt-ltb, le-ltb, not-true}
use Rattle.bitset.specs.Set.{Sized, word_bit, bit_of, every, same, full}
use Rattle.bitset.proofs.Digits.{lt_or_le, is_or_not}
use Rattle.bitset.proofs.Words.{and_acts, word_ext, zero_bit}
use Rattle.bitset.proofs.Sets.{Has, has_both}

-- ---- Bool
pub both_ways : (a b : Bool) → (a ≡ true → b ≡ true) → (b ≡ true → a ≡ true) → a ≡ b
both_ways true b f g = sym (f refl)
both_ways false true f g = g refl
both_ways false false f g = refl

pub and_both : (a b : Bool) → a && b ≡ true → (a ≡ true) × (b ≡ true)
and_both true b e = (refl, e)
and_both false b e = absurd (subst T (sym e) tt)

-- ---- every
pub every_intro : (p : ℕ → Bool) (n : ℕ) → ((k : ℕ) → k < n → p k ≡ true) → every p n ≡ true
unfolding every
every_intro p zero h = refl
every_intro p (suc n) h = ap₂ (λ (a b : Bool). a && b) (h n (omega arith)) (every_intro p n (λ k l. h k (omega arith)))

pub every_elim : (p : ℕ → Bool) (n : ℕ) → every p n ≡ true → (k : ℕ) → k < n → p k ≡ true
unfolding every
every_elim p zero e k l = absurd (not-suc-le-zero l)
every_elim p (suc n) e k l =
    let b = and_both (p n) (every p n) e in
    elim (is_or_not k n) [
      | inl q ↦ ap p q ∙ b.0
      | inr ne ↦ every_elim p n b.1 k (lt_of_le-ne (le_of_suc-le-suc l) ne)
    ]

pub every_cong : (p q : ℕ → Bool) (n : ℕ) → ((k : ℕ) → p k ≡ q k) → every p n ≡ every q n
unfolding every
every_cong p q zero h = refl
every_cong p q (suc n) h = ap₂ (λ (a b : Bool). a && b) (h n) (every_cong p q n h)

-- two tests that agree on each number below n
pub every_alike : (p q : ℕ → Bool) (n : ℕ) → ((k : ℕ) → k < n → p k ≡ q k) → every p n ≡ every q n
every_alike p q n h =
    both_ways (every p n) (every q n)
    (λ e. every_intro q n (λ k l. sym (h k l) ∙ every_elim p n e k l))
    (λ e. every_intro p n (λ k l. h k l ∙ every_elim q n e k l))

-- ---- words gathered by or: all of them are 0 where one is
pub or_test : (a b : ℕ) → eqb (bit_or a b) 0 ≡ eqb a 0 && eqb b 0
or_test a b =
    let s : bit_or a b + bit_and a b ≡ a + b = or_add_and a b in
    let l : bit_and a b ≤ a = and_le_l a b in
    let r : bit_and a b ≤ b = and_le_r a b in
    both_ways (eqb (bit_or a b) 0) (eqb a 0 && eqb b 0)
    (λ t. let o : bit_or a b ≡ 0 = eqb-true (bit_or a b) 0 t in ap₂ (λ (x y : Bool). x && y) (eq-eqb a 0 (omega arith)) (eq-eqb b 0 (omega arith)))
    (λ t. let h = and_both (eqb a 0) (eqb b 0) t in eq-eqb (bit_or a b) 0 (ap₂ bit_or (eqb-true a 0 h.0) (eqb-true b 0 h.1)))

-- the numbers below n that g does not give
abbrev pub none : (ℕ → Bool) → ℕ → Bool
none g = every (λ k. not (g k))

-- the word w has, of the bits that g gives, those that are among the first m at its place, q: it is 0 where there are none
module _ (g : ℕ → Bool) (q m : ℕ) {w : ℕ} (few : m ≤ 64) (fits : w < 2 ^ 64) (has : Has (λ k. g k && ltb k (64 * q + m)) q w) where
  off_here : w ≡ 0 → (k : ℕ) → 64 * q ≤ k → k < 64 * q + m → not (g k) ≡ true
  off_here z k b l =
      let e : 64 * q + (k - 64 * q) ≡ k = omega arith in
      ap not (only (g k) (ltb k (64 * q + m)) (lt-ltb k (64 * q + m) l)
      (ap (λ (k : ℕ). g k && ltb k (64 * q + m)) (sym e) ∙ sym (has (k - 64 * q) (omega arith)) ∙ ap (λ (w : ℕ). word_bit w (k - 64 * q)) z ∙ zero_bit (k - 64 * q)))
    where
      only : (a b : Bool) → b ≡ true → a && b ≡ false → a ≡ false
      only true b e f = sym e ∙ f
      only false b e f = refl

  zero_here : none g (64 * q + m) ≡ true → w ≡ 0
  zero_here e = word_ext w 0 fits (lit< tt) (λ r l. has r l ∙ off (64 * q + r) ∙ sym (zero_bit r))
    where
      off : (k : ℕ) → g k && ltb k (64 * q + m) ≡ false
      off k = elim (lt_or_le k (64 * q + m)) [
        | inl l ↦ ap (λ (b : Bool). b && ltb k (64 * q + m)) (not-true (g k) (every_elim (λ k. not (g k)) (64 * q + m) e k l))
        | inr l ↦ ap (λ (b : Bool). g k && b) (le-ltb k (64 * q + m) l) ∙ and-false (g k)
      ]

  none_more : none g (64 * q) && eqb w 0 ≡ none g (64 * q + m)
  none_more =
      both_ways (none g (64 * q) && eqb w 0) (none g (64 * q + m))
      (λ e.
      let h = and_both (none g (64 * q)) (eqb w 0) e in
      every_intro (λ k. not (g k)) (64 * q + m) (λ k l. elim (lt_or_le k (64 * q)) [
        | inl b ↦ every_elim (λ k. not (g k)) (64 * q) h.0 k b
        | inr b ↦ off_here (eqb-true w 0 h.1) k b l
      ]))
      (λ e.
      ap₂ (λ (a b : Bool). a && b)
      (every_intro (λ k. not (g k)) (64 * q) (λ k l. every_elim (λ k. not (g k)) (64 * q + m) e k (omega arith)))
      (eq-eqb w 0 (zero_here e)))

-- ---- a loop that gathers words by or: the word so far, v, is 0 where that of the last word, z, is, and no bit of the words before q is on
pub record Gathered (g : ℕ → Bool) (z v q : ℕ) : Type 0 where
  pub tests : eqb v 0 ≡ none g (64 * q) && eqb z 0

pub gather_none : (g : ℕ → Bool) (z : ℕ) → Gathered g z z 0
unfolding every
gather_none g z = record { tests = refl }

module _ (g : ℕ → Bool) (q : ℕ) {z v w : ℕ} (e : Gathered g z v q) (fits : w < 2 ^ 64) (has : Has g q w) where
  pub gather_more : Gathered g z (bit_or v w) (q + 1)
  gather_more = record {
    tests =
        or_test v w ∙ ap (λ (b : Bool). b && eqb w 0) e.tests ∙ swap (none g (64 * q)) (eqb z 0) (eqb w 0)
        ∙ ap (λ (b : Bool). b && eqb z 0) (none_more g q 64 (omega arith) fits here ∙ ap (none g) (omega arith));
  }
    where
      here : Has (λ k. g k && ltb k (64 * q + 64)) q w
      here r l = has r l ∙ sym (ap (λ (b : Bool). g (64 * q + r) && b) (lt-ltb (64 * q + r) (64 * q + 64) (omega arith)) ∙ and-true (g (64 * q + r)))

      swap : (a b c : Bool) → (a && b) && c ≡ (a && c) && b
      swap true b c = and_comm b c
      swap false b c = refl

-- z is what the mask m keeps of the last word, w
pub gather_all : (g : ℕ → Bool) {M n w v : ℕ} (m : ℕ) → Sized M n → Has (λ k. ltb k n) (M - 1) m → w < 2 ^ 64 → Has g (M - 1) w → Gathered g (bit_and w m) v (M - 1) → eqb v 0 ≡ none g n
gather_all g {M} {n} {w} {v} m z mask fits has e =
    let L = M - 1 in
    let d : 64 * L + (n - 64 * L) ≡ n = omega (arith, z.enough, z.last, z.some) in
    e.tests ∙ none_more g L (n - 64 * L) (omega (arith, z.enough)) (lt_of_le_of_lt (and_le_l w m) fits)
    (subst (λ (i : ℕ). Has (λ k. g k && ltb k i) L (bit_and w m)) (sym d) (has_both and_acts g (λ k. ltb k n) L w m has mask))
    ∙ ap (none g) d

-- "full" gathers the words' complements, and "same" the bits in which two words differ
pub full_by : (ws : List ℕ) (n : ℕ) → every (λ k. not (not (bit_of ws k))) n ≡ full ws n
full_by ws n = every_cong (λ k. not (not (bit_of ws k))) (bit_of ws) n (λ k. not-not (bit_of ws k))

pub same_by : (a b : List ℕ) (n : ℕ) → every (λ k. not (xor (bit_of a k) (bit_of b k))) n ≡ same a b n
unfolding xor
same_by a b n = every_cong (λ k. not (xor (bit_of a k) (bit_of b k))) (λ k. beq (bit_of a k) (bit_of b k)) n (λ k. alike (bit_of a k) (bit_of b k))
  where
    alike : (a b : Bool) → not (xor a b) ≡ beq a b
    alike true true = refl
    alike true false = refl
    alike false true = refl
    alike false false = refl
