-- The links of the nodes, counted by the words of the child masks. Assumes nothing.
use mathlib.Core.Path.{◌≡◌, refl, sym, ap, ap₂, ◌∙◌}
use mathlib.Core.Bool.{Bool, true, false, cond, ◌&&◌}
use mathlib.Core.List.{List}
use Prim.Native.Nat.{ℕ, zero, suc, ◌+◌, ◌-◌, ◌*◌, ◌/◌, ◌%◌, ◌^◌, ◌<◌, ◌≤◌}
use native.Mathlib.Nat.{add-zero, pow-suc, div-one}
use native.Mathlib.Omega.{arith}
use lib.Dec.{eqb}
use lib.ListN.{get_or}
use lib.Count.{ones, ones_step}
use borrow.Author.Tests.{lt-ltb}
use Rattle.bitset.specs.Set.{word_bit, bit_of}
use Rattle.bitset.proofs.Digits.{digit, digit_lt, digit_shr, bits2}
use Rattle.bitset.proofs.Words.{bit_digit}
use Rattle.bitset.proofs.Sets.{has_own}
use Rattle.grid.specs.Node.{sum}
use Rattle.grid.proofs.Places.{sum_same, sum_zero}
use Rattle.nodes.specs.State.{St, wide}
use Rattle.nodes.specs.Layout.{st, kid_bit}
use Rattle.nodes.specs.Test.{fork_b}
use Rattle.nodes.proofs.Places.{wide_top, wide_cell, word_top, word_cell}
use Rattle.nodes.proofs.States.{st_kid}
use Rattle.sound.proofs.Chains.{sum_more}
use Rattle.means.proofs.Sums.{sum_append, sum_rows}
use Rattle.sound.specs.Links.{tally, links_of}
use Rattle.sound.proofs.Tally.{tally_most}

-- ---- the set digits of a number of k digits, from the top
ones_digits : (k w : ℕ) → w < 2 ^ k → ones w ≡ sum k (λ i. digit (k - suc i) w)
unfolding sum ones
ones_digits zero w h = let e : w ≡ 0 = omega arith in ap ones e
ones_digits (suc k) w h =
    let e : suc k - suc k ≡ 0 = omega arith in
    let l : 2 ^ suc k ≡ 2 ^ k * 2 = pow-suc 2 k in
    ones_step w
    ∙ ap₂ (λ (a b : ℕ). a + b)
    (ap (λ (x : ℕ). x % 2) (sym (div-one w)) ∙ ap (λ (j : ℕ). digit j w) (sym e))
    (ones_digits k (w / 2) (omega arith) ∙ sum_same k _ _ (λ i q. let d : 1 + (k - suc i) ≡ suc k - suc i = omega arith in digit_shr (k - suc i) 1 w ∙ ap (λ (j : ℕ). digit j w) d))

-- of a word
pub ones_bits : (w : ℕ) → w < 2 ^ 64 → ones w ≡ tally (word_bit w) 64
ones_bits w h = ones_digits 64 w h ∙ sum_same 64 _ _ (λ i l.
    let e : 64 - suc i ≡ 63 - i = omega arith in
    ap (λ (j : ℕ). digit j w) e ∙ one (digit (63 - i) w) (digit_lt (63 - i) w) ∙ ap (λ (b : Bool). cond b 1 0) (sym (bit_digit w i l)))
  where
    one : (d : ℕ) → d < 2 → d ≡ cond (eqb d 1) 1 0
    one d h = bits2 (λ d. d ≡ cond (eqb d 1) 1 0) d h refl refl

-- ---- the bits of word j of the masks
abbrev pub word_bits : List ℕ → ℕ → ℕ
word_bits masks j = tally (word_bit (get_or masks j 0)) 64

word_links : (masks : List ℕ) (j : ℕ) → word_bits masks j ≡ tally (λ i. bit_of masks (64 * j + i)) 64
word_links masks j = sum_same 64 _ _ (λ i l. ap (λ (b : Bool). cond b 1 0) (has_own masks j i l))

module _ (n : ℕ) (slots masks book : List ℕ) where
  -- a node that may have branches has as many links as bits of the child mask, from bit p on
  fork_links : (x p w : ℕ) → x < 8 + n → fork_b (st n slots masks book) x ≡ true → wide x ≡ w → ((k : ℕ) → kid_bit x k ≡ p + k) → tally (λ k. bit_of masks (p + k)) w ≡ links_of
      (st n slots masks book) x
  unfolding links_of
  fork_links x p w h f e q =
      ap (tally (λ k. bit_of masks (p + k))) (sym e)
      ∙ sum_same (wide x) _ _ (λ k l. ap (λ (b : Bool). cond b 1 0)
      (ap (bit_of masks) (sym (q k)) ∙ sym (st_kid slots masks book (record { node = h; slot = l })) ∙ ap (λ (b : Bool). b && (st n slots masks book).kid x k) (sym f)))

  -- the tops: 64 words
  pub top_links : sum 64 (word_bits masks) ≡ sum 8 (links_of (st n slots masks book))
  top_links =
      sum_same 64 _ _ (λ j l. word_links masks j)
      ∙ sum_rows 64 64 (λ i. cond (bit_of masks i) 1 0)
      ∙ sym (sum_rows 512 8 (λ i. cond (bit_of masks i) 1 0))
      ∙ sum_same 8 _ _ (λ x l. fork_links x (512 * x) 512 (omega arith) (rw (lt-ltb x 8 l) refl) (wide_top x l) (λ k. word_top x k l))

  -- a cell: one word
  pub cell_links : (c : ℕ) → c < n → fork_b (st n slots masks book) (8 + c) ≡ true → word_bits masks (64 + c) ≡ links_of (st n slots masks book) (8 + c)
  cell_links c l f =
      word_links masks (64 + c)
      ∙ fork_links (8 + c) (64 * (64 + c)) 64 (omega arith) f (wide_cell (8 + c) (omega arith)) (λ k. omega (arith, word_cell (8 + c) k (omega arith)))

-- ---- the links of the nodes of a state, node after node
module _ (s : St) where
  pub no_links : (x : ℕ) → fork_b s x ≡ false → 0 ≡ links_of s x
  unfolding links_of
  no_links x f = sym (sum_zero (wide x) _ (λ k l. rw f refl))

  -- where no cell below m may have branches, the tops have all the links
  pub links_none : (m : ℕ) → ((c : ℕ) → c < m → fork_b s (8 + c) ≡ false) → sum 8 (links_of s) ≡ sum (8 + m) (links_of s)
  links_none m h = sym (sum_append 8 m (links_of s) ∙ ap (λ (r : ℕ). sum 8 (links_of s) + r) (sum_zero m _ (λ c l. sym (no_links (8 + c) (h c l)))) ∙ add-zero (sum 8 (links_of s)))

  -- a node has no more links than slots
  links_most : (x : ℕ) → links_of s x ≤ wide x
  unfolding links_of
  links_most x = tally_most _ (wide x)

  pub links_few : (n : ℕ) → sum (8 + n) (links_of s) ≤ 4096 + 64 * n
  unfolding sum
  links_few zero = omega (arith, links_most 0, links_most 1, links_most 2, links_most 3, links_most 4, links_most 5, links_most 6, links_most 7)
  links_few (suc n) =
      let e : 8 + n + 1 ≡ 8 + suc n = omega arith in
      let more : sum (8 + n) (links_of s) + links_of s (8 + n) ≡ sum (8 + suc n) (links_of s) = sum_more (links_of s) (8 + n) refl refl ∙ ap (λ (i : ℕ). sum i (links_of s)) e in
      omega (arith, more, links_few n, links_most (8 + n), wide_cell (8 + n) (omega arith))

  pub links_more : (c : ℕ) {a r : ℕ} → a ≡ sum (8 + c) (links_of s) → r ≡ links_of s (8 + c) → a + r ≡ sum (8 + (c + 1)) (links_of s)
  links_more c p q = let e : 8 + c + 1 ≡ 8 + (c + 1) = omega arith in sum_more (links_of s) (8 + c) p q ∙ ap (λ (i : ℕ). sum i (links_of s)) e
