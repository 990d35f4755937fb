-- Two leaves joined, as one piece. Assumes nothing.
use mathlib.Core.Path.{◌≡◌, refl, sym, ap, ap₂, ◌∙◌}
use mathlib.Core.Bool.{Bool, false, cond, ◌||◌}
use mathlib.Core.List.{List}
use Prim.Native.Nat.{ℕ, zero, suc, ◌+◌, ◌-◌, ◌*◌, ◌/◌, ◌%◌, ◌<◌, ◌≤◌}
use native.Mathlib.Omega.{arith}
use lib.ListN.{length, get_or, set}
use lib.Bits.{bit_or}
use lib.Dec.{eqb}
use borrow.Author.Tests.{ne_eqb}
use Rattle.bitset.specs.Set.{bit_of}
use Rattle.bitset.proofs.Words.{or_acts}
use Rattle.bitset.proofs.Sets.{bit_set}
use Rattle.grid.specs.Combine.{Operation, joined}
use Rattle.grid.specs.Node.{size}
use Rattle.nodes.specs.State.{St}
use Rattle.nodes.specs.Layout.{st}
use Rattle.nodes.specs.Change.{put_s}
use Rattle.nodes.specs.Range.{In}
use Rattle.nodes.specs.Each.{each_s}
use Rattle.nodes.specs.Walk.{branching, below}
use Rattle.nodes.proofs.Places.{spread_same, wide_cell}
use Rattle.nodes.proofs.Changes.{st_ext}
use Rattle.trees.specs.Combine.{join_s, combine_m}
use Rattle.trees.proofs.Copies.{word_at, blent, blent_none, blent_more, leaf_words, leaf_values}

-- ---- the masks: word q has the bits of word h too
pub masks_joined : (mk : List ℕ) (q h : ℕ) → q < length mk → (j : ℕ)
    → bit_of (set mk q (bit_or (get_or mk q 0) (get_or mk h 0))) j ≡ cond (eqb (j / 64) q) (bit_of mk (64 * q + j % 64) || bit_of mk (64 * h + j % 64)) (bit_of mk j)
masks_joined mk q h l j =
    bit_set mk q (bit_or (get_or mk q 0) (get_or mk h 0)) l j
    ∙ ap (λ (t : Bool). cond (eqb (j / 64) q) t (bit_of mk j)) (or_acts.by_bits (get_or mk q 0) (get_or mk h 0) j ∙ ap₂ ◌||◌ (word_at mk q j) (word_at mk h j))

-- ---- the steps at the slots of leaf x, also where y is x
module _ (o : Operation) (n : ℕ) (sl mk book : List ℕ) (x y : ℕ) (hx : 8 ≤ x) (hy : 8 ≤ y) (nx : x < 8 + n) (ny : y < 8 + n) where
  -- the first m slots are joined
  joined_s : ℕ → St
  joined_s m =
      let s = st n sl mk book in
      record {
        slot = blent n 0 (joined o) (λ i. get_or sl i 0) y x m;
        kid = s.kid;
        val = blent n false ◌||◌ (λ i. bit_of mk (64 * (64 + n) + i)) y x m;
        count = s.count;
        stack = s.stack;
        tag = s.tag;
        mark = s.mark;
      }

  each_joined : (m : ℕ) → m ≤ 64 → each_s (join_s o x y) m (st n sl mk book) ≡ joined_s m
  unfolding each_s join_s put_s joined_s st
  each_joined zero h = st_ext _ _
      (blent_none n 0 (joined o) (λ i. get_or sl i 0) y x)
      (λ _ _. refl)
      (blent_none n false ◌||◌ (λ i. bit_of mk (64 * (64 + n) + i)) y x)
      refl (λ _. refl) (λ _. refl) (λ _. refl)
  each_joined (suc m) h =
      let ix : In n x m = record { node = nx; slot = omega (arith, wide_cell x hx) } in
      let iy : In n y m = record { node = ny; slot = omega (arith, wide_cell y hy) } in
      ap (join_s o x y m) (each_joined m (omega arith)) ∙ st_ext _ _
      (blent_more n 0 (joined o) (λ i. get_or sl i 0) y x hy hx m (omega arith) iy ix)
      (λ _ _. refl)
      (blent_more n false ◌||◌ (λ i. bit_of mk (64 * (64 + n) + i)) y x hy hx m (omega arith) iy ix)
      refl (λ _. refl) (λ _. refl) (λ _. refl)

  pub leaf_joined : (sl' mk' : List ℕ)
      → ((i : ℕ) → get_or sl' i 0 ≡ cond (eqb (i / 64) (64 + (x - 8))) (joined o (get_or sl (64 * (64 + (x - 8)) + i % 64) 0) (get_or sl (64 * (64 + (y - 8)) + i % 64) 0)) (get_or sl i 0))
      → ((i : ℕ) → bit_of mk' i ≡ cond (eqb (i / 64) (128 + n + (x - 8))) (bit_of mk (64 * (128 + n + (x - 8)) + i % 64) || bit_of mk (64 * (128 + n + (y - 8)) + i % 64)) (bit_of mk i))
      → st n sl' mk' book ≡ combine_m (branching 0) (below 0) o n x y (st n sl mk book)
  unfolding combine_m size joined_s st
  leaf_joined sl' mk' p q =
      st_ext _ _
      (leaf_words n y x hy hx (joined o) sl sl' p)
      (spread_same n false (bit_of mk) (bit_of mk') (λ i l. q i ∙ rw (ne_eqb (i / 64) (128 + n + (x - 8)) (λ e. omega arith)) refl))
      (leaf_values n y x hy hx ◌||◌ mk mk' (bit_of mk) q (λ _. refl))
      refl (λ _. refl) (λ _. refl) (λ _. refl)
      ∙ sym (each_joined 64 (omega arith))
