-- One tree copied to another node: a node as one piece, and its branches one after the other. Assumes nothing.
use Rattle.std.specs.Prelude.{Some, None}
use mathlib.Core.Path.{◌≡◌, refl, sym, ap, ◌∙◌, subst}
use mathlib.Core.Logic.{inl, inr}
use mathlib.Core.Bool.{Bool, true, false, cond, ◌&&◌, false≢true}
use mathlib.Core.List.{List}
use Prim.Native.Nat.{ℕ, zero, suc, ◌+◌, ◌-◌, ◌*◌, ◌/◌, ◌%◌, ◌^◌, ◌<◌, ◌≤◌}
use native.Mathlib.Omega.{arith}
use native.Mathlib.Nat.{mod-lt}
use lib.ListN.{length, get_or, set, length-set}
use lib.Dec.{ltb, eqb}
use lib.Count.{count_leading_zeros}
use lib.Pow.{pow_pos}
use borrow.Author.Tests.{lt-ltb, le-ltb, eq-eqb, ne_eqb}
use Rattle.bitset.specs.Set.{bit_of, word_bit}
use Rattle.bitset.proofs.Digits.{lt_or_le, is_or_not}
use Rattle.bitset.proofs.Words.{zero_bit, bit_rem, shl_bit, shl_bit_out}
use Rattle.bitset.proofs.Sets.{bit_set, has_own}
use Rattle.bitset.proofs.First.{Leads, leads}
use Rattle.grid.specs.Node.{size}
use Rattle.nodes.specs.State.{St, wide}
use Rattle.nodes.specs.Layout.{st, word_of, slots_length}
use Rattle.nodes.specs.Change.{at2, next, claim_s}
use Rattle.nodes.specs.Range.{In}
use Rattle.nodes.specs.Each.{each_s}
use Rattle.nodes.specs.Walk.{branching, below, ready_s}
use Rattle.nodes.proofs.Places.{spread, spread_in, spread_same, spread_one, spread_group, word_cell, wide_cell, word_lt, word_from, wide_groups}
use Rattle.nodes.proofs.Changes.{st_ext}
use Rattle.nodes.proofs.States.{st_kid}
use Rattle.nodes.proofs.Paths.{one_less, low_size}
use Rattle.nodes.proofs.Each.{each_more, each_skip}
use Rattle.trees.specs.Slot.{child_r}
use Rattle.trees.proofs.Slots.{child_go, child_stop}
use Rattle.trees.specs.Copy.{laid, lay_s, branch_at, branch_m, copy_m}

-- ---- of the places of group g, of 64, the first m are given the values a
module _ {A : Type 0} (f : ℕ → A) (g : ℕ) (a : ℕ → A) where
  abbrev pub first : ℕ → ℕ → A
  first m i = cond (eqb (i / 64) g && ltb (i % 64) m) (a (i % 64)) (f i)

  pub first_none : (i : ℕ) → f i ≡ first 0 i
  first_none i = elim (is_or_not (i / 64) g) [
    | inl e ↦ sym (rw (eq-eqb (i / 64) g e, le-ltb (i % 64) 0 (omega arith)) refl)
    | inr e ↦ sym (rw (ne_eqb (i / 64) g e) refl)
  ]

  -- one more
  pub first_more : (m : ℕ) → m < 64 → (i : ℕ) → cond (eqb i (64 * g + m)) (a m) (first m i) ≡ first (suc m) i
  first_more m l i = elim (is_or_not (i / 64) g) [
    | inl e ↦ elim (is_or_not (i % 64) m) [
      | inl d ↦ rw (eq-eqb (i / 64) g e, eq-eqb i (64 * g + m) (omega arith), lt-ltb (i % 64) (suc m) (omega arith)) (ap a (sym d))
      | inr d ↦ elim (lt_or_le (i % 64) m) [
        | inl h ↦ rw (eq-eqb (i / 64) g e, ne_eqb i (64 * g + m) (λ q. d (omega arith)), lt-ltb (i % 64) m h, lt-ltb (i % 64) (suc m) (omega arith)) refl
        | inr h ↦ rw (eq-eqb (i / 64) g e, ne_eqb i (64 * g + m) (λ q. d (omega arith)), le-ltb (i % 64) m h, le-ltb (i % 64) (suc m) (past d h)) refl
      ]
    ]
    | inr e ↦ rw (ne_eqb (i / 64) g e, ne_eqb i (64 * g + m) (λ q. e (omega arith))) refl
  ]
    where
      past : (i % 64 ≡ m → ⊥) → m ≤ i % 64 → suc m ≤ i % 64
      past d h = omega arith

  -- place m of any group is as it was
  pub first_left : (m h : ℕ) → m < 64 → first m (64 * h + m) ≡ f (64 * h + m)
  first_left m h l = elim (is_or_not ((64 * h + m) / 64) g) [
    | inl e ↦ rw (eq-eqb ((64 * h + m) / 64) g e, le-ltb ((64 * h + m) % 64) m (omega arith)) refl
    | inr e ↦ rw (ne_eqb ((64 * h + m) / 64) g e) refl
  ]

  pub first_all : (i : ℕ) → first 64 i ≡ cond (eqb (i / 64) g) (a (i % 64)) (f i)
  first_all i = elim (is_or_not (i / 64) g) [
    | inl e ↦ rw (eq-eqb (i / 64) g e, lt-ltb (i % 64) 64 (omega arith)) refl
    | inr e ↦ rw (ne_eqb (i / 64) g e) refl
  ]

-- ---- the masks: the bits of word h
pub word_at : (mk : List ℕ) (h j : ℕ) → word_bit (get_or mk h 0) j ≡ bit_of mk (64 * h + j % 64)
word_at mk h j = bit_rem (get_or mk h 0) j ∙ has_own mk h (j % 64) (omega arith)

-- word p is 0, and word q is what word h was
pub masks_copied : (mk : List ℕ) (p q h : ℕ) → p < length mk → q < length mk → (j : ℕ)
    → bit_of (set (set mk p 0) q (get_or mk h 0)) j ≡ cond (eqb (j / 64) q) (bit_of mk (64 * h + j % 64)) (cond (eqb (j / 64) p) false (bit_of mk j))
masks_copied mk p q h hp hq j =
    bit_set (set mk p 0) q (get_or mk h 0) (omega (arith, length-set mk p 0)) j
    ∙ (λ i. cond (eqb (j / 64) q) (word_at mk h j i)
    ((bit_set mk p 0 hp j ∙ ap (λ (t : Bool). cond (eqb (j / 64) p) t (bit_of mk j)) (zero_bit j)) i))

-- ---- a leaf as one piece: the first m slots of cell y are given the values a, by the places of group 56 + y
module _ {A : Type 0} (n : ℕ) (d : A) (f : ℕ → A) (y : ℕ) (a : ℕ → A) where
  abbrev pub dealt : ℕ → ℕ → ℕ → A
  dealt m = spread n d (first f (56 + y) a m)

  pub dealt_none : (z j : ℕ) → spread n d f z j ≡ dealt 0 z j
  dealt_none z j = sym (spread_same n d f (first f (56 + y) a 0) (λ i _. sym (first_none f (56 + y) a i)) z j)

  -- a slot of a cell that is not given anything yet
  pub dealt_left : (m z : ℕ) → 8 ≤ z → m < 64 → In n z m → dealt m z m ≡ f (64 * (56 + z) + m)
  dealt_left m z h l i =
      let w : word_of z m ≡ 64 * (56 + z) + m = omega (arith, word_cell z m h) in
      spread_in n d (first f (56 + y) a m) i ∙ ap (first f (56 + y) a m) w ∙ first_left f (56 + y) a m (56 + z) l

  -- one more
  pub dealt_more : 8 ≤ y → (m : ℕ) → m < 64 → In n y m → (z j : ℕ) → at2 (dealt m) y m (a m) z j ≡ dealt (suc m) z j
  dealt_more hy m l iy z j =
      let w : 64 * (56 + y) + m ≡ word_of y m = omega (arith, word_cell y m hy) in
      sym (spread_one n d (first f (56 + y) a m) (first f (56 + y) a (suc m)) y m (a m) iy (λ i _.
      sym (first_more f (56 + y) a m l i) ∙ ap (λ (t : ℕ). cond (eqb i t) (a m) (first f (56 + y) a m i)) w) z j)

  pub dealt_all : (f' : ℕ → A) → ((i : ℕ) → i < slots_length n → f' i ≡ cond (eqb (i / 64) (56 + y)) (a (i % 64)) (f i)) → (z j : ℕ) → spread n d f' z j ≡ dealt 64 z j
  dealt_all f' h = spread_same n d (first f (56 + y) a 64) f' (λ i l. h i l ∙ sym (first_all f (56 + y) a i))

-- the same with what op makes of them and of those of cell x, which may be y
module _ {A : Type 0} (n : ℕ) (d : A) (op : A → A → A) (f : ℕ → A) (x y : ℕ) where
  abbrev made : ℕ → A
  made r = op (f (64 * (56 + y) + r)) (f (64 * (56 + x) + r))

  abbrev pub blent : ℕ → ℕ → ℕ → A
  blent m = dealt n d f y made m

  pub blent_none : (z j : ℕ) → spread n d f z j ≡ blent 0 z j
  blent_none = dealt_none n d f y made

  pub blent_more : 8 ≤ x → 8 ≤ y → (m : ℕ) → m < 64 → In n x m → In n y m → (z j : ℕ) → at2 (blent m) y m (op (blent m y m) (blent m x m)) z j ≡ blent (suc m) z j
  blent_more hx hy m l ix iy z j =
      (λ i. at2 (blent m) y m (op (dealt_left n d f y made m y hy l iy i) (dealt_left n d f y made m x hx l ix i)) z j) ∙ dealt_more n d f y made hy m l iy z j

  pub blent_all : (f' : ℕ → A) → ((i : ℕ) → i < slots_length n → f' i ≡ cond (eqb (i / 64) (56 + y)) (made (i % 64)) (f i)) → (z j : ℕ) → spread n d f' z j ≡ blent 64 z j
  blent_all = dealt_all n d f y made

-- the place of a value of cell y in the masks, and in their half for values
pub value_place : (n y r : ℕ) → 8 ≤ y → 64 * (128 + n + (y - 8)) + r ≡ 64 * (64 + n) + (64 * (56 + y) + r)
value_place n y r h = omega arith

-- a word of the masks, by its number in their half for values
value_word : {A : Type 0} (n h : ℕ) (a : ℕ → A) (c : A) (i : ℕ) → cond (eqb ((64 * (64 + n) + i) / 64) (64 + n + h)) (a ((64 * (64 + n) + i) % 64)) c ≡ cond (eqb (i / 64) h) (a (i % 64)) c
value_word n h a c i = elim (is_or_not (i / 64) h) [
  | inl e ↦
      let w : (64 * (64 + n) + i) % 64 ≡ i % 64 = omega arith in
      rw (eq-eqb ((64 * (64 + n) + i) / 64) (64 + n + h) (omega arith), eq-eqb (i / 64) h e) (ap a w)
  | inr e ↦ rw (ne_eqb ((64 * (64 + n) + i) / 64) (64 + n + h) (λ q. e (omega arith)), ne_eqb (i / 64) h e) refl
]

-- the words and the values of the leaf, by the promises about them; the other bits are b
module _ (n y : ℕ) (hy : 8 ≤ y) where
  pub dealt_values : (a : ℕ → Bool) (m m' : List ℕ) (b : ℕ → Bool)
      → ((j : ℕ) → bit_of m' j ≡ cond (eqb (j / 64) (128 + n + (y - 8))) (a (j % 64)) (b j))
      → ((i : ℕ) → b (64 * (64 + n) + i) ≡ bit_of m (64 * (64 + n) + i))
      → (z j : ℕ) → spread n false (λ i. bit_of m' (64 * (64 + n) + i)) z j ≡ dealt n false (λ i. bit_of m (64 * (64 + n) + i)) y a 64 z j
  dealt_values a m m' b q r =
      let w : 128 + n + (y - 8) ≡ 64 + n + (56 + y) = omega arith in
      dealt_all n false (λ i. bit_of m (64 * (64 + n) + i)) y a (λ i. bit_of m' (64 * (64 + n) + i)) (λ i _.
      q (64 * (64 + n) + i) ∙ (λ z. cond (eqb ((64 * (64 + n) + i) / 64) (w z)) (a ((64 * (64 + n) + i) % 64)) (r i z)) ∙ value_word n (56 + y) a (bit_of m (64 * (64 + n) + i)) i)

module _ (n x y : ℕ) (hx : 8 ≤ x) (hy : 8 ≤ y) where
  pub leaf_words : (op : ℕ → ℕ → ℕ) (l l' : List ℕ)
      → ((i : ℕ) → get_or l' i 0 ≡ cond (eqb (i / 64) (64 + (y - 8))) (op (get_or l (64 * (64 + (y - 8)) + i % 64) 0) (get_or l (64 * (64 + (x - 8)) + i % 64) 0)) (get_or l i 0))
      → (z j : ℕ) → spread n 0 (λ i. get_or l' i 0) z j ≡ blent n 0 op (λ i. get_or l i 0) x y 64 z j
  leaf_words op l l' p =
      let ex : 64 + (x - 8) ≡ 56 + x = omega arith in
      let ey : 64 + (y - 8) ≡ 56 + y = omega arith in
      blent_all n 0 op (λ i. get_or l i 0) x y (λ i. get_or l' i 0) (λ i _.
      p i ∙ (λ z. cond (eqb (i / 64) (ey z)) (op (get_or l (64 * ey z + i % 64) 0) (get_or l (64 * ex z + i % 64) 0)) (get_or l i 0)))

  pub leaf_values : (op : Bool → Bool → Bool) (m m' : List ℕ) (b : ℕ → Bool)
      → ((j : ℕ) → bit_of m' j ≡ cond (eqb (j / 64) (128 + n + (y - 8))) (op (bit_of m (64 * (128 + n + (y - 8)) + j % 64)) (bit_of m (64 * (128 + n + (x - 8)) + j % 64))) (b j))
      → ((i : ℕ) → b (64 * (64 + n) + i) ≡ bit_of m (64 * (64 + n) + i))
      → (z j : ℕ) → spread n false (λ i. bit_of m' (64 * (64 + n) + i)) z j ≡ blent n false op (λ i. bit_of m (64 * (64 + n) + i)) x y 64 z j
  leaf_values op m m' b q r =
      dealt_values n y hy (made n false op (λ i. bit_of m (64 * (64 + n) + i)) x y) m m' b (λ j.
      q j ∙ (λ z. cond (eqb (j / 64) (128 + n + (y - 8))) (op (bit_of m (value_place n y (j % 64) hy z)) (bit_of m (value_place n x (j % 64) hx z))) (b j))) r

-- a number that is not from a on and below b is below both or neither
pub ltb_beside : (k a b : ℕ) → a ≤ b → (a ≤ k → k < b → ⊥) → ltb k a ≡ ltb k b
ltb_beside k a b h out = elim (lt_or_le k a) [
  | inl l ↦ lt-ltb k a l ∙ sym (lt-ltb k b (omega arith))
  | inr l ↦ elim (lt_or_le k b) [
    | inl l' ↦ absurd (out l l')
    | inr l' ↦ le-ltb k a l ∙ sym (le-ltb k b l')
  ]
]

-- ---- a node as one piece: the first slots of node y hold v, and all others what f says
module _ {A : Type 0} (y : ℕ) (v : ℕ → A) (f : ℕ → ℕ → A) where
  -- a slot from m on is as it was
  pub laid_left : (m z k : ℕ) → m ≤ k → laid m y v f z k ≡ f z k
  laid_left m z k h = rw (le-ltb k m h) (go (eqb z y))
    where
      go : (b : Bool) → cond (b && false) (v k) (f z k) ≡ f z k
      go true = refl
      go false = refl

  -- one group of 64 slots more
  module _ (n : ℕ) (d : A) (h j : ℕ) (w : (k : ℕ) → word_of y k ≡ 64 * h + k) (i : In n y (64 * j + 63)) (g g' a : ℕ → A) (p : (z k : ℕ) → spread n d g z k ≡ laid (64 * j) y v f z k) where
    laid_more : ((k : ℕ) → k / 64 ≡ j → a (k % 64) ≡ v k) → ((i : ℕ) → i < slots_length n → g' i ≡ cond (eqb (i / 64) (h + j)) (a (i % 64)) (g i))
        → (z k : ℕ) → spread n d g' z k ≡ laid (64 * (j + 1)) y v f z k
    laid_more c q z k = spread_group n d g g' y h j a w i q z k ∙ elim (is_or_not z y) [
      | inl e ↦ elim (is_or_not (k / 64) j) [
        | inl o ↦ rw (eq-eqb z y e, eq-eqb (k / 64) j o, lt-ltb k (64 * (j + 1)) (omega arith)) (c k o)
        | inr o ↦ rw (eq-eqb z y e, ne_eqb (k / 64) j o) (p z k ∙ rw (eq-eqb z y e, ltb_beside k (64 * j) (64 * (j + 1)) (omega arith) (λ a b. o (omega arith))) refl)
      ]
      | inr e ↦ rw (ne_eqb z y e) (p z k ∙ rw (ne_eqb z y e) refl)
    ]

-- the same, where they are copied from node x
module _ {A : Type 0} (y : ℕ) (f : ℕ → ℕ → A) (x n : ℕ) (d : A) (h g j : ℕ) (wy : (k : ℕ) → word_of y k ≡ 64 * h + k) (wx : (k : ℕ) → word_of x k ≡ 64 * g + k)
    (iy : In n y (64 * j + 63)) (ix : In n x (64 * j + 63)) (u u' : ℕ → A) (p : (z k : ℕ) → spread n d u z k ≡ laid (64 * j) y (f x) f z k) where
  laid_copied : ((i : ℕ) → i < slots_length n → u' i ≡ cond (eqb (i / 64) (h + j)) (u (64 * (g + j) + i % 64)) (u i)) → (z k : ℕ) → spread n d u' z k ≡ laid (64 * (j + 1)) y (f x) f z k
  laid_copied = laid_more y (f x) f n d h j wy iy u u' (λ r. u (64 * (g + j) + r)) p (λ k o.
      let e : 64 * (g + j) + k % 64 ≡ word_of x k = omega (arith, wx k) in
      ap u e ∙ sym (spread_in n d u (record { node = ix.node; slot = omega (arith, ix.slot) })) ∙ p x k ∙ laid_left y (f x) f (64 * j) x k (omega arith))

-- group j of node x, of m slots, by the place of its first word as the code has reckoned it
module _ (n x : ℕ) {m j r : ℕ} (h : x < 8 + n) (w : wide x ≡ m) (l : j < m / 64) (e : r ≡ word_of x 0) where
  pub group_slots : In n x (64 * j + 63)
  group_slots = record { node = h; slot = omega arith }

  pub group_words : (k : ℕ) → word_of x k ≡ 64 * (r / 64) + k
  group_words k = omega (arith, word_from x k)

  pub group_low : r / 64 + j < 64 + n
  group_low = omega (arith, group_words (64 * j + 63), word_lt group_slots)

module _ (n : ℕ) (sl mk sl₁ mk₁ : List ℕ) (x y g h j : ℕ) (wx : (k : ℕ) → word_of x k ≡ 64 * g + k) (wy : (k : ℕ) → word_of y k ≡ 64 * h + k)
    (ix : In n x (64 * j + 63)) (iy : In n y (64 * j + 63)) where
  pub group_laid : (sl' mk' : List ℕ) → ((i : ℕ) → get_or sl' i 0 ≡ cond (eqb (i / 64) (h + j)) (get_or sl₁ (64 * (g + j) + i % 64) 0) (get_or sl₁ i 0))
      → ((i : ℕ) → bit_of mk' i ≡ cond (eqb (i / 64) (64 + n + (h + j))) (bit_of mk₁ (64 * (64 + n + (g + j)) + i % 64)) (cond (eqb (i / 64) (h + j)) false (bit_of mk₁ i)))
      → (book book' : List ℕ) → st n sl₁ mk₁ book' ≡ lay_s (64 * j) x y (st n sl mk book) → st n sl' mk' book' ≡ lay_s (64 * (j + 1)) x y (st n sl mk book)
  unfolding lay_s st
  group_laid sl' mk' p q book book' e =
      let s = st n sl mk book in
      let b : h + j < 64 + n = omega (arith, wy (64 * j + 63), word_lt iy) in
      st_ext _ _
      (laid_copied y s.slot x n 0 h g j wy wx iy ix (λ i. get_or sl₁ i 0) (λ i. get_or sl' i 0) (λ z k. ap (λ (t : St). t.slot z k) e) (λ i _. p i))
      (laid_more y (λ _. false) s.kid n false h j wy iy (bit_of mk₁) (bit_of mk') (λ _. false) (λ z k. ap (λ (t : St). t.kid z k) e)
      (λ _ _. refl) (λ i l. q i ∙ rw (ne_eqb (i / 64) (64 + n + (h + j)) (λ o. omega arith)) refl))
      (laid_copied y s.val x n false h g j wy wx iy ix (λ i. bit_of mk₁ (64 * (64 + n) + i)) (λ i. bit_of mk' (64 * (64 + n) + i)) (λ z k. ap (λ (t : St). t.val z k) e) (λ i _. value b i))
      (ap (λ (t : St). t.count) e) (λ i. ap (λ (t : St). t.stack i) e) (λ i. ap (λ (t : St). t.tag i) e) (λ i. ap (λ (t : St). t.mark i) e)
    where
      value : h + j < 64 + n → (i : ℕ) → bit_of mk' (64 * (64 + n) + i) ≡ cond (eqb (i / 64) (h + j)) (bit_of mk₁ (64 * (64 + n) + (64 * (g + j) + i % 64))) (bit_of mk₁ (64 * (64 + n) + i))
      value b i =
          let v = 64 * (64 + n) + i in
          let w : 64 * (64 + n + (g + j)) + v % 64 ≡ 64 * (64 + n) + (64 * (g + j) + v % 64) = omega arith in
          let no : cond (eqb (v / 64) (h + j)) false (bit_of mk₁ v) ≡ bit_of mk₁ v = rw (ne_eqb (v / 64) (h + j) (λ o. omega arith)) refl in
          q v ∙ (λ z. cond (eqb (v / 64) (64 + n + (h + j))) (bit_of mk₁ (w z)) (no z)) ∙ value_word n (h + j) (λ r. bit_of mk₁ (64 * (64 + n) + (64 * (g + j) + r))) (bit_of mk₁ v) i

pub none_laid : (x y : ℕ) (s : St) → s ≡ lay_s 0 x y s
unfolding lay_s
none_laid x y s = st_ext _ _
    (λ z k. sym (laid_left y (s.slot x) s.slot 0 z k (omega arith)))
    (λ z k. sym (laid_left y (λ _. false) s.kid 0 z k (omega arith)))
    (λ z k. sym (laid_left y (s.val x) s.val 0 z k (omega arith)))
    refl (λ _. refl) (λ _. refl) (λ _. refl)

-- a cell of the pool is one group
pub cell_slots : {n c : ℕ} → c < n → wide (8 + c) ≡ 64
cell_slots {n} {c} h = wide_cell (8 + c) (omega arith)

-- ---- one branch, where l is the level below
module _ (n l x y k : ℕ) (s : St) where
  abbrev After : St → Type 0
  After t = t ≡ branch_at (copy_m (branching l) (below l) n) n x y k s

  pub branch_none : None ≡ child_r n s x k → After s
  branch_none e = sym (rw (child_stop n s x k e) refl)

  module _ {c : ℕ} (e : Some c ≡ child_r n s x k) {r : Bool} (g : r ≡ ready_s n s) where
    pub branch_full : r ≡ false → After s
    branch_full o = let d = child_go n s x k e in sym (rw (d.on, sym g ∙ o) refl)

    pub branch_down : r ≡ true → l ≤ 1 → {d : ℕ} {s₁ s₂ s₃ : St} → s₁ ≡ claim_s y k s → d ≡ next s → s₂ ≡ lay_s 64 (8 + c) (8 + d) s₁ → s₃ ≡ branch_m (branching l) (below l) n (8 + c) (8 + d) s₂
        → After s₃
    branch_down o m {d} p q u v =
        let f = child_go n s x k e in
        v ∙ ap (branch_m (branching l) (below l) n (8 + c) (8 + d)) u
        ∙ (λ z. branch_m (branching l) (below l) n (8 + f.there z) (8 + q z) (lay_s (low_size l m z) (8 + f.there z) (8 + q z) (p z)))
        ∙ sym (rw (f.on, sym g ∙ o) refl)

-- a leaf has none
pub no_branch : (n l x y : ℕ) (s : St) → l ≡ 0 → s ≡ branch_m (branching l) (below l) n x y s
unfolding branch_m
no_branch n l x y s e = subst (λ (l : ℕ). s ≡ branch_m (branching l) (below l) n x y s) (sym e) refl

-- ---- every branch
module _ (n l x y : ℕ) (s : St) where
  pub branch_all : (k : ℕ) {t : St} → 0 < l → k ≡ size (branching l) → t ≡ each_s (branch_at (copy_m (branching (l - 1)) (below (l - 1)) n) n x y) k s
      → t ≡ branch_m (branching l) (below l) n x y s
  unfolding branch_m
  branch_all k h e p = p ∙ ap (λ (m : ℕ). each_s (branch_at (copy_m (branching (l - 1)) (below (l - 1)) n) n x y) m s) e ∙ up l h
    where
      up : (l : ℕ) → 0 < l → each_s (branch_at (copy_m (branching (l - 1)) (below (l - 1)) n) n x y) (size (branching l)) s ≡ branch_m (branching l) (below l) n x y s
      up zero h = absurd (omega arith)
      up (suc l) h = ap (λ (m : ℕ). each_s (branch_at (copy_m (branching m) (below m) n) n x y) (size (branching (suc l))) s) (one_less l)

-- one branch more, and from there on to slot r none
pub branch_more : (go : ℕ → ℕ → St → St) (n x y k r : ℕ) (s : St) {t t' : St} → t ≡ each_s (branch_at go n x y) k s → t' ≡ branch_at go n x y k t → k < r
    → ((i : ℕ) → k < i → i < r → t'.kid x i ≡ false) → t' ≡ each_s (branch_at go n x y) r s
branch_more go n x y k r s p q h off =
    each_skip (branch_at go n x y) s (k + 1) r (omega arith) (each_more (branch_at go n x y) s k p q) (λ i a b. rw (off i (omega arith) b) refl)

-- ---- the whole node
module _ (n l x y : ℕ) (s : St) {m : ℕ} {t : St} (e : m ≡ size (branching l)) (p : t ≡ lay_s m x y s) where
  whole : t ≡ lay_s (size (branching l)) x y s
  whole = p ∙ ap (λ (m : ℕ). lay_s m x y s) e

  pub copy_leaf : l ≡ 0 → t ≡ copy_m (branching l) (below l) n x y s
  copy_leaf z = whole ∙ no_branch n l x y (lay_s (size (branching l)) x y s) z

  pub copy_all : {t' : St} → t' ≡ branch_m (branching l) (below l) n x y t → t' ≡ copy_m (branching l) (below l) n x y s
  copy_all q = q ∙ ap (branch_m (branching l) (below l) n x y) whole

-- ---- the branches after slot k, by the word of the mask that its bit is in, moved up so that the bits after it come first
abbrev pub moved : List ℕ → ℕ → ℕ → ℕ
moved mk q k = get_or mk (q / 64) 0 * 2 ^ (k % 64) % 2 ^ 64 * 2 ^ 1 % 2 ^ 64

module _ (n : ℕ) (sl mk book : List ℕ) (x k : ℕ) (ik : In n x k) {q : ℕ} (e : q ≡ word_of x k) where
  after_bit : (i : ℕ) → k < i → i < 64 * (k / 64) + 64 → (st n sl mk book).kid x i ≡ word_bit (moved mk q k) (i - k - 1)
  after_bit i h l =
      let r = i - k - 1 in
      let w = get_or mk (q / 64) 0 in
      let a : r + 1 + k % 64 ≡ i % 64 = omega arith in
      let p : word_of x i ≡ 64 * (q / 64) + i % 64 = omega (arith, word_from x k, word_from x i) in
      st_kid sl mk book (record { node = ik.node; slot = omega (arith, ik.slot, wide_groups x) })
      ∙ ap (bit_of mk) p ∙ sym (has_own mk (q / 64) (i % 64) (omega arith))
      ∙ sym (shl_bit (w * 2 ^ (k % 64) % 2 ^ 64) 1 r (omega arith) (omega arith) ∙ shl_bit w (k % 64) (r + 1) (omega arith) (omega arith) ∙ ap (word_bit w) a)

  pub after_none : moved mk q k ≡ 0 → (i : ℕ) → k < i → i < 64 * (k / 64) + 64 → (st n sl mk book).kid x i ≡ false
  after_none z i h l = after_bit i h l ∙ ap (λ (w : ℕ). word_bit w (i - k - 1)) z ∙ zero_bit (i - k - 1)

  module _ {w : ℕ} (f : w ≡ moved mk q k) (ne : w ≡ 0 → ⊥) where
    lead : Leads (moved mk q k) (count_leading_zeros 64 w)
    lead = subst (λ (v : ℕ). Leads v (count_leading_zeros 64 w)) f (leads w ne (subst (λ (v : ℕ). v < 2 ^ 64) (sym f) (mod-lt _ (pow_pos 64))))

    -- the first of them is in that word
    pub after_low : k % 64 + 1 + count_leading_zeros 64 w < 64
    after_low = elim (lt_or_le (k % 64 + 1 + count_leading_zeros 64 w) 64) [
      | inl h ↦ h
      | inr h ↦ absurd (false≢true (sym (out h) ∙ lead.on))
    ]
      where
        out : 64 ≤ k % 64 + 1 + count_leading_zeros 64 w → word_bit (moved mk q k) (count_leading_zeros 64 w) ≡ false
        out h = elim (lt_or_le (count_leading_zeros 64 w + 1) 64) [
          | inl l ↦ shl_bit (get_or mk (q / 64) 0 * 2 ^ (k % 64) % 2 ^ 64) 1 (count_leading_zeros 64 w) lead.within l ∙ shl_bit_out (get_or mk (q / 64) 0) (k % 64)
              (count_leading_zeros 64 w + 1) l (omega arith)
          | inr l ↦ shl_bit_out (get_or mk (q / 64) 0 * 2 ^ (k % 64) % 2 ^ 64) 1 (count_leading_zeros 64 w) lead.within l
        ]

    pub after_first : (i : ℕ) → k < i → i < k + 1 + count_leading_zeros 64 w → (st n sl mk book).kid x i ≡ false
    after_first i h l = after_bit i h (omega (arith, after_low)) ∙ lead.before (i - k - 1) (omega arith)
