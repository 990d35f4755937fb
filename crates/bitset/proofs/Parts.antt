-- A set whose words are a part of a longer list of words: what is said of the part, said of the whole. For the crates above. Assumes nothing.
use mathlib.Core.Path.{◌≡◌, sym, ap, ap₂, ◌∙◌, subst}
use mathlib.Core.Logic.{◌⊎◌, inl, inr}
use mathlib.Core.Bool.{Bool, false}
use mathlib.Core.List.{List, ◌++◌}
use Prim.Native.Nat.{ℕ, ◌+◌, ◌-◌, ◌*◌, ◌/◌, ◌%◌, ◌≤◌, ◌<◌}
use native.Mathlib.Omega.{arith}
use lib.ListN.{length, get_or, take, drop, get_or-append}
use lib.Seq.{get_or-take, get_or-drop, get_or-append-add, length-take-le}
use lib.Dec.{eqb}
use borrow.Author.Tests.{eq-eqb, ne_eqb}
use borrow.Rule.Slice.PartMut.{put_mid}
use Rattle.bitset.specs.Set.{bit_of, word_bit}
use Rattle.bitset.proofs.Digits.{lt_or_le, is_or_not}
use Rattle.bitset.proofs.Words.{bit_rem}
use Rattle.bitset.proofs.Sets.{bit_is, bit_same, has_own}

-- bit i of the part is bit 64 * a + i of the whole
pub bit_part : (ws : List ℕ) (a n i : ℕ) → i < 64 * n → bit_of (take n (drop a ws)) i ≡ bit_of ws (64 * a + i)
bit_part ws a n i h =
    let e : 64 * (a + i / 64) + i % 64 ≡ 64 * a + i = omega arith in
    bit_is (take n (drop a ws)) i
    ∙ ap (λ (w : ℕ). word_bit w i) (get_or-take n (drop a ws) (i / 64) 0 (omega arith) ∙ get_or-drop a ws (i / 64) 0)
    ∙ bit_rem (get_or ws (a + i / 64) 0) i ∙ has_own ws (a + i / 64) (i % 64) (omega arith) ∙ ap (bit_of ws) e

-- ---- the part is back, as ys
module _ (ws ys : List ℕ) (a n : ℕ) (fits : a + n ≤ length ws) (long : length ys ≡ n) where
  front : length (take a ws) ≡ a
  front = length-take-le a ws (omega arith)

  word_before : (p : ℕ) → p < a → get_or (put_mid a n ws ys) p 0 ≡ get_or ws p 0
  word_before p h = get_or-append (take a ws) (ys ++ drop n (drop a ws)) 0 p (subst (λ (m : ℕ). p < m) (sym front) h) ∙ get_or-take a ws p 0 h

  word_after_front : (j : ℕ) → get_or (put_mid a n ws ys) (a + j) 0 ≡ get_or (ys ++ drop n (drop a ws)) j 0
  word_after_front j = ap (λ (m : ℕ). get_or (put_mid a n ws ys) (m + j) 0) (sym front) ∙ get_or-append-add (take a ws) (ys ++ drop n (drop a ws)) j 0

  word_in : (j : ℕ) → j < n → get_or (put_mid a n ws ys) (a + j) 0 ≡ get_or ys j 0
  word_in j h = word_after_front j ∙ get_or-append ys (drop n (drop a ws)) 0 j (subst (λ (m : ℕ). j < m) (sym long) h)

  word_past : (j : ℕ) → get_or (put_mid a n ws ys) (a + (n + j)) 0 ≡ get_or ws (a + (n + j)) 0
  word_past j =
      word_after_front (n + j) ∙ ap (λ (m : ℕ). get_or (ys ++ drop n (drop a ws)) (m + j) 0) (sym long) ∙ get_or-append-add ys (drop n (drop a ws)) j 0
      ∙ get_or-drop n (drop a ws) j 0 ∙ get_or-drop a ws (n + j) 0

  -- what the part's new bits say, the whole's say at 64 * a more; every other bit is as it was
  pub bit_put : (g : ℕ → Bool) → ((i : ℕ) → i < 64 * n → bit_of ys i ≡ g (64 * a + i)) → ((k : ℕ) → (k < 64 * a) ⊎ (64 * (a + n) ≤ k) → bit_of ws k ≡ g k) → (k : ℕ) → bit_of
      (put_mid a n ws ys) k ≡ g k
  bit_put g inside outside k = elim (lt_or_le (k / 64) a) [
    | inl h ↦ bit_same (put_mid a n ws ys) ws k (word_before (k / 64) h) ∙ outside k (inl (omega arith))
    | inr h ↦ elim (lt_or_le (k / 64) (a + n)) [
      | inl l ↦
          let i = k - 64 * a in
          let e : 64 * a + i ≡ k = omega arith in
          let q : k / 64 ≡ a + i / 64 = omega arith in
          let f : 64 * (i / 64) + k % 64 ≡ i = omega arith in
          bit_is (put_mid a n ws ys) k ∙ ap (λ (p : ℕ). word_bit (get_or (put_mid a n ws ys) p 0) k) q
          ∙ ap (λ (w : ℕ). word_bit w k) (word_in (i / 64) (omega arith))
          ∙ bit_rem (get_or ys (i / 64) 0) k ∙ has_own ys (i / 64) (k % 64) (omega arith) ∙ ap (bit_of ys) f ∙ inside i (omega arith) ∙ ap g e
      | inr l ↦
          let e : k / 64 ≡ a + (n + (k / 64 - (a + n))) = omega arith in
          bit_same (put_mid a n ws ys) ws k (ap (λ (p : ℕ). get_or (put_mid a n ws ys) p 0) e ∙ word_past (k / 64 - (a + n)) ∙ ap (λ (p : ℕ). get_or ws p 0) (sym e))
          ∙ outside k (inr (omega arith))
    ]
  ]

  -- the same for a function that changes bit i of the part alone, as f does, which leaves the others: in the whole it is bit 64 * a + i
  pub bit_put_one : (f : Bool → Bool → Bool) → ((b : Bool) → f false b ≡ b) → (i : ℕ) → i < 64 * n → ((j : ℕ) → bit_of ys j ≡ f (eqb j i) (bit_of (take n (drop a ws)) j))
      → (k : ℕ) → bit_of (put_mid a n ws ys) k ≡ f (eqb k (64 * a + i)) (bit_of ws k)
  bit_put_one f still i h new =
      bit_put (λ k. f (eqb k (64 * a + i)) (bit_of ws k))
      (λ j l. new j ∙ ap₂ f (moved j) (bit_part ws a n j l))
      (λ k o. sym (ap (λ (t : Bool). f t (bit_of ws k)) (ne_eqb k (64 * a + i) (apart k o)) ∙ still (bit_of ws k)))
    where
      moved : (j : ℕ) → eqb j i ≡ eqb (64 * a + j) (64 * a + i)
      moved j = elim (is_or_not j i) [
        | inl e ↦ eq-eqb j i e ∙ sym (eq-eqb (64 * a + j) (64 * a + i) (omega arith))
        | inr ne ↦ ne_eqb j i ne ∙ sym (ne_eqb (64 * a + j) (64 * a + i) (λ e. ne (omega arith)))
      ]

      apart : (k : ℕ) → (k < 64 * a) ⊎ (64 * (a + n) ≤ k) → k ≡ 64 * a + i → ⊥
      apart k o e = elim o [ inl l ↦ omega arith | inr l ↦ omega arith ]
