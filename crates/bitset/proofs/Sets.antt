-- The bits of a set: where they lie in its words, what a word gives a set, and what a store of one word changes. Assumes nothing.
use mathlib.Core.Path.{◌≡◌, refl, sym, ap, ap₂, ◌∙◌, subst}
use mathlib.Core.Logic.{inl, inr}
use mathlib.Core.List.{List}
use mathlib.Core.Bool.{Bool, true, false, cond, not, ◌&&◌, ◌||◌, and_comm, or_comm}
use Prim.Native.Nat.{ℕ, suc, ◌+◌, ◌-◌, ◌*◌, ◌/◌, ◌%◌, ◌≤◌, ◌<◌, ◌^◌}
use native.Mathlib.Omega.{arith}
use lib.Dec.{eqb, ltb}
use lib.ListN.{length, get_or, set, get_or-eq_default}
use lib.Seq.{get_or-set_same, get_or-set_other}
use lib.Bits.{bit_and, bit_or}
use borrow.Author.Tests.{eq-eqb, ne_eqb, lt-ltb}
use Rattle.bitset.specs.Set.{weight, word_bit, bit_of}
pub use Rattle.bitset.specs.Set.{Has}
use Rattle.bitset.proofs.Digits.{lt_or_le, is_or_not}
use Rattle.bitset.proofs.Words.{ones, Acts, and_acts, or_acts, not_bit, zero_bit, bit_rem, weight_bit, weight_lt}

pub bit_is : (ws : List ℕ) (k : ℕ) → bit_of ws k ≡ word_bit (get_or ws (k / 64) 0) k
unfolding bit_of
bit_is ws k = refl

-- past the last word there is no bit
pub bit_past : (ws : List ℕ) (k : ℕ) → 64 * length ws ≤ k → bit_of ws k ≡ false
bit_past ws k h =
    let l : length ws ≤ k / 64 = omega arith in
    bit_is ws k ∙ ap (λ (w : ℕ). word_bit w k) (get_or-eq_default ws 0 l) ∙ zero_bit k

-- two sets with the same word have the same bits there
pub bit_same : (ws vs : List ℕ) (k : ℕ) → get_or ws (k / 64) 0 ≡ get_or vs (k / 64) 0 → bit_of ws k ≡ bit_of vs k
bit_same ws vs k e = bit_is ws k ∙ ap (λ (w : ℕ). word_bit w k) e ∙ sym (bit_is vs k)

-- ---- the bits that a word has at its place
-- a bit of the word by the bit's number in the set
pub has_bit : (g : ℕ → Bool) (w k : ℕ) → Has g (k / 64) w → word_bit w k ≡ g k
has_bit g w k h =
    let e : 64 * (k / 64) + k % 64 ≡ k = omega arith in
    bit_rem w k ∙ h (k % 64) (omega arith) ∙ ap g e

-- a word of a set has the set's bits
pub has_own : (ws : List ℕ) (q : ℕ) → Has (bit_of ws) q (get_or ws q 0)
has_own ws q r h =
    let e : (64 * q + r) / 64 ≡ q = omega arith in
    let f : r ≡ (64 * q + r) % 64 = omega arith in
    ap (λ (x : ℕ). word_bit (get_or ws q 0) x) f ∙ sym (bit_rem (get_or ws q 0) (64 * q + r)) ∙ ap (λ (p : ℕ). word_bit (get_or ws p 0) (64 * q + r)) (sym e) ∙ sym (bit_is ws (64 * q + r))

-- one word at every place
pub has_one : (v q : ℕ) → Has (word_bit v) q v
has_one v q r h =
    let e : r % 64 ≡ (64 * q + r) % 64 = omega arith in
    bit_rem v r ∙ ap (word_bit v) e ∙ sym (bit_rem v (64 * q + r))

-- an operation on words is the operation on their bits
module _ {op : ℕ → ℕ → ℕ} {f : Bool → Bool → Bool} (acts : Acts op f) where
  pub has_both : (x y : ℕ → Bool) (q w v : ℕ) → Has x q w → Has y q v → Has (λ k. f (x k) (y k)) q (op w v)
  has_both x y q w v hw hv r h = acts.by_bits w v r ∙ ap₂ f (hw r h) (hv r h)

pub has_not : (x : ℕ → Bool) (q w : ℕ) → w < 2 ^ 64 → Has x q w → Has (λ k. not (x k)) q (ones - w)
has_not x q w l hw r h = not_bit w r l ∙ ap not (hw r h)

-- ---- a store of one word
pub bit_set : (ws : List ℕ) (q v : ℕ) → q < length ws → (k : ℕ) → bit_of (set ws q v) k ≡ cond (eqb (k / 64) q) (word_bit v k) (bit_of ws k)
bit_set ws q v h k =
    bit_is (set ws q v) k ∙ elim (is_or_not (k / 64) q) [
      | inl e ↦
          ap (λ (w : ℕ). word_bit w k) (ap (λ (j : ℕ). get_or (set ws q v) j 0) e ∙ get_or-set_same ws q v 0 h)
          ∙ sym (ap (λ (b : Bool). cond b (word_bit v k) (bit_of ws k)) (eq-eqb (k / 64) q e))
      | inr ne ↦
          ap (λ (w : ℕ). word_bit w k) (get_or-set_other ws q (k / 64) v 0 ne) ∙ sym (bit_is ws k)
          ∙ sym (ap (λ (b : Bool). cond b (word_bit v k) (bit_of ws k)) (ne_eqb (k / 64) q ne))
    ]

-- the same, where it is known what the bits are to be there and elsewhere
pub bit_store : (ws : List ℕ) (q v : ℕ) → q < length ws → (g : ℕ → Bool) → ((k : ℕ) → k / 64 ≡ q → word_bit v k ≡ g k) → ((k : ℕ) → (k / 64 ≡ q → ⊥) → bit_of ws k ≡ g k) → (k : ℕ)
    → bit_of (set ws q v) k ≡ g k
bit_store ws q v h g here other k =
    bit_set ws q v h k ∙ elim (is_or_not (k / 64) q) [
      | inl e ↦ ap (λ (b : Bool). cond b (word_bit v k) (bit_of ws k)) (eq-eqb (k / 64) q e) ∙ here k e
      | inr ne ↦ ap (λ (b : Bool). cond b (word_bit v k) (bit_of ws k)) (ne_eqb (k / 64) q ne) ∙ other k ne
    ]

-- ---- a store of a word's own value under an operation with v: elsewhere the operation is to leave the bits as they are
pub bit_change : {op : ℕ → ℕ → ℕ} {f : Bool → Bool → Bool} → Acts op f → (ws : List ℕ) (q v : ℕ) → q < length ws → (g : ℕ → Bool) → Has g q v
    → ((k : ℕ) → (k / 64 ≡ q → ⊥) → f (bit_of ws k) (g k) ≡ bit_of ws k)
    → (k : ℕ) → bit_of (set ws q (op (get_or ws q 0) v)) k ≡ f (bit_of ws k) (g k)
bit_change {op} {f} acts ws q v h g has other =
    bit_store ws q (op (get_or ws q 0) v) h (λ k. f (bit_of ws k) (g k))
    (λ k e. has_bit (λ k. f (bit_of ws k) (g k)) (op (get_or ws q 0) v) k
    (subst (λ (p : ℕ). Has (λ k. f (bit_of ws k) (g k)) p (op (get_or ws q 0) v)) (sym e) (has_both acts (bit_of ws) g q (get_or ws q 0) v (has_own ws q) has)))
    (λ k ne. sym (other k ne))

-- ---- the word m that has bit i alone joins i's word, or leaves it
module _ (ws : List ℕ) (i m : ℕ) (h : i / 64 < length ws) (e : m ≡ weight i) where
  alone : Has (λ k. eqb k i) (i / 64) m
  alone r h = ap (λ (w : ℕ). word_bit w r) e ∙ weight_bit i r ∙ elim (is_or_not r (i % 64)) [
    | inl e ↦ eq-eqb (r % 64) (i % 64) (omega arith) ∙ sym (eq-eqb (64 * (i / 64) + r) i (omega arith))
    | inr ne ↦ ne_eqb (r % 64) (i % 64) (λ e. ne (omega arith)) ∙ sym (ne_eqb (64 * (i / 64) + r) i (λ e. ne (omega arith)))
  ]

  other_place : (k : ℕ) → (k / 64 ≡ i / 64 → ⊥) → eqb k i ≡ false
  other_place k ne = ne_eqb k i (λ e. ne (ap (λ (n : ℕ). n / 64) e))

  pub set_on : (k : ℕ) → bit_of (set ws (i / 64) (bit_or (get_or ws (i / 64) 0) m)) k ≡ eqb k i || bit_of ws k
  set_on k =
      bit_change or_acts ws (i / 64) m h (λ k. eqb k i) alone
      (λ k ne. ap (λ (b : Bool). bit_of ws k || b) (other_place k ne) ∙ or_comm (bit_of ws k) false) k
      ∙ or_comm (bit_of ws k) (eqb k i)

  pub set_off : (k : ℕ) → bit_of (set ws (i / 64) (bit_and (get_or ws (i / 64) 0) (ones - m))) k ≡ not (eqb k i) && bit_of ws k
  set_off k =
      bit_change and_acts ws (i / 64) (ones - m) h (λ k. not (eqb k i)) (has_not (λ k. eqb k i) (i / 64) m (subst (λ (w : ℕ). w < 2 ^ 64) (sym e) (weight_lt i)) alone)
      (λ k ne. ap (λ (b : Bool). bit_of ws k && not b) (other_place k ne) ∙ and_comm (bit_of ws k) true) k
      ∙ and_comm (bit_of ws k) (not (eqb k i))

-- ---- the last word under the mask of the bits in use: the bits from n on are turned off
pub set_trim : (ws : List ℕ) (q v n : ℕ) → suc q ≡ length ws → 64 * q ≤ n → Has (λ k. ltb k n) q v → (k : ℕ) → bit_of (set ws q (bit_and (get_or ws q 0) v)) k ≡ ltb k n && bit_of ws k
set_trim ws q v n e l has k =
    bit_change and_acts ws q v (omega arith) (λ k. ltb k n) has
    (λ k ne. elim (lt_or_le k n) [
      | inl h ↦ ap (λ (b : Bool). bit_of ws k && b) (lt-ltb k n h) ∙ and_comm (bit_of ws k) true
      | inr h ↦ let p : bit_of ws k ≡ false = bit_past ws k (omega arith) in ap (λ (b : Bool). b && ltb k n) p ∙ sym p
    ]) k
    ∙ and_comm (bit_of ws k) (ltb k n)
