-- The state tells the lent memory: every word of the three slices is in it, so a promise about the state leaves nothing open. Assumes nothing.
use mathlib.Core.Path.{◌≡◌, sym, ap, ◌∙◌}
use mathlib.Core.Logic.{inl, inr}
use mathlib.Core.Bool.{false}
use mathlib.Core.List.{List}
use Prim.Native.Nat.{ℕ, ◌+◌, ◌-◌, ◌*◌, ◌/◌, ◌%◌, ◌<◌, ◌≤◌}
use native.Mathlib.Omega.{arith}
use lib.ListN.{get_or}
use lib.Seq.{ext_get_or}
use Rattle.bitset.specs.Set.{bit_of}
use Rattle.bitset.proofs.Digits.{lt_or_le}
use Rattle.bitset.proofs.Sets.{bit_past}
use Rattle.bitset.proofs.Ext.{words_ext}
use Rattle.nodes.specs.State.{St}
use Rattle.nodes.specs.Layout.{Sized, st, part, word_of, count_place, head, tops, slots_length, masks_length}
use Rattle.nodes.specs.Range.{In}
use Rattle.nodes.proofs.Places.{wide_top, wide_cell, word_top, word_cell, spread, spread_in}
use Rattle.nodes.proofs.Books.{part_at}

-- ---- every place below the end is that of a slot
pub record Sits (n i : ℕ) : Type 0 where
  pub x : ℕ
  pub k : ℕ
  pub within : In n x k
  pub there : word_of x k ≡ i

pub sits : (n i : ℕ) → i < slots_length n → Sits n i
sits n i h = elim (lt_or_le i tops) [
  | inl l ↦
      let q : i / 512 < 8 = omega arith in
      record { x = i / 512; k = i % 512; within = record { node = omega arith; slot = omega (arith, wide_top (i / 512) q) }; there = word_top (i / 512) (i % 512) q ∙ omega arith }
  | inr l ↦
      let q : 8 ≤ i / 64 - 56 = omega arith in
      record {
        x = i / 64 - 56;
        k = i % 64;
        within = record { node = omega arith; slot = omega (arith, wide_cell (i / 64 - 56) q) };
        there = word_cell (i / 64 - 56) (i % 64) q ∙ omega arith;
      }
]

spread_tells : {A : Type 0} (n : ℕ) (d : A) (f f' : ℕ → A) → ((x k : ℕ) → spread n d f x k ≡ spread n d f' x k) → (i : ℕ) → i < slots_length n → f i ≡ f' i
spread_tells n d f f' h i l =
    let s : Sits n i = sits n i l in
    ap f (sym s.there) ∙ sym (spread_in n d f s.within) ∙ h s.x s.k ∙ spread_in n d f' s.within ∙ ap f' s.there

part_tells : (lo len : ℕ) (a b : List ℕ) → ((i : ℕ) → part lo len a i ≡ part lo len b i) → (i : ℕ) → lo ≤ i → i < lo + len → get_or a i 0 ≡ get_or b i 0
part_tells lo len a b h i l m =
    let e : lo + (i - lo) ≡ i = omega arith in
    ap (λ (j : ℕ). get_or a j 0) (sym e) ∙ sym (part_at lo len a (i - lo) (omega arith)) ∙ h (i - lo) ∙ part_at lo len b (i - lo) (omega arith) ∙ ap (λ (j : ℕ). get_or b j 0) e

-- ---- two pools of n cells that hold the same state hold the same words. A mask's word is below 2 ^ 64
module _ (n : ℕ) (sl mk bk sl' mk' bk' : List ℕ) (z : Sized n sl mk bk) (z' : Sized n sl' mk' bk') (e : st n sl mk bk ≡ st n sl' mk' bk') where
  pub slots_told : sl ≡ sl'
  unfolding st
  slots_told = ext_get_or 0 sl sl' (z.slots_fit ∙ sym z'.slots_fit)
      (λ i l. spread_tells n 0 (λ j. get_or sl j 0) (λ j. get_or sl' j 0) (λ x k. ap (λ (s : St). s.slot x k) e) i (omega (arith, z.slots_fit)))

  bits_told : (j : ℕ) → bit_of mk j ≡ bit_of mk' j
  unfolding st
  bits_told j = elim (lt_or_le j (64 * (64 + n))) [
    | inl l ↦ spread_tells n false (bit_of mk) (bit_of mk') (λ x k. ap (λ (s : St). s.kid x k) e) j (omega arith)
    | inr l ↦ elim (lt_or_le j (64 * masks_length n)) [
      | inl m ↦
          let i = j - 64 * (64 + n) in
          let q : 64 * (64 + n) + i ≡ j = omega arith in
          ap (bit_of mk) (sym q)
          ∙ spread_tells n false (λ p. bit_of mk (64 * (64 + n) + p)) (λ p. bit_of mk' (64 * (64 + n) + p)) (λ x k. ap (λ (s : St). s.val x k) e) i (omega arith)
          ∙ ap (bit_of mk') q
      | inr m ↦ bit_past mk j (omega (arith, z.masks_fit)) ∙ sym (bit_past mk' j (omega (arith, z'.masks_fit)))
    ]
  ]

  pub masks_told : ((q : ℕ) → get_or mk q 0 < 18446744073709551616) → ((q : ℕ) → get_or mk' q 0 < 18446744073709551616) → mk ≡ mk'
  masks_told f g = words_ext mk mk' (z.masks_fit ∙ sym z'.masks_fit) f g bits_told

  pub book_told : bk ≡ bk'
  unfolding st
  book_told = ext_get_or 0 bk bk' (z.book_fit ∙ sym z'.book_fit) (λ i l. elim (lt_or_le i count_place) [
    | inl a ↦ part_tells 0 8 bk bk' (λ t. ap (λ (s : St). s.mark t) e) i (omega arith) (omega arith)
    | inr a ↦ elim (lt_or_le i head) [
      | inl b ↦
          let q : i ≡ count_place = omega arith in
          ap (λ (j : ℕ). get_or bk j 0) q ∙ ap (λ (s : St). s.count) e ∙ ap (λ (j : ℕ). get_or bk' j 0) (sym q)
      | inr b ↦ elim (lt_or_le i (head + n)) [
        | inl d ↦ part_tells head n bk bk' (λ t. ap (λ (s : St). s.tag t) e) i b d
        | inr d ↦ part_tells (head + n) n bk bk' (λ t. ap (λ (s : St). s.stack t) e) i d (omega (arith, z.book_fit))
      ]
    ]
  ])
