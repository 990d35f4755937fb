-- An insert and a remove of a voxel whose walk ends in a leaf, by the slot at which it ends: on any state. Assumes nothing.
use mathlib.Core.Path.{◌≡◌, refl, sym, ap, ap₂, ◌∙◌}
use mathlib.Core.Bool.{Bool, true, false, not, cond, ◌&&◌, ◌||◌}
use mathlib.Core.List.{List, [], ◌∷◌}
use Prim.Native.Nat.{ℕ, zero, suc, ◌+◌, ◌-◌, ◌*◌, ◌/◌, ◌%◌, ◌<◌, ◌≤◌, ◌^◌}
use native.Mathlib.Omega.{arith}
use lib.ListN.{get_or, length}
use lib.Bits.{and_le_l}
use lib.Dec.{ltb, eqb}
use borrow.Author.Tests.{eq-eqb}
use Rattle.bitset.specs.Set.{bit_of, every, weight, word_bit}
use Rattle.bitset.proofs.Every.{every_elim}
use Rattle.bitset.proofs.Sets.{has_own}
use Rattle.bitset.proofs.Words.{ones}
use Rattle.bitset.proofs.First.{less, less_bit}
use Rattle.grid.specs.Geometry.{Point, slot_of}
use Rattle.grid.specs.Node.{size}
use Rattle.grid.proofs.Geometry.{slot_lt}
use Rattle.nodes.specs.State.{St}
use Rattle.nodes.specs.Layout.{st, word_of, val_bit}
use Rattle.nodes.specs.Change.{put_s, hide_s}
use Rattle.nodes.specs.Place.{Place, at, nowhere, place_s}
use Rattle.nodes.specs.Range.{In}
use Rattle.nodes.specs.Remove.{none_s, alone_s, bare_s, shut_m, remove_m}
use Rattle.nodes.specs.Walk.{branching, below, insert_m, view_s}
use Rattle.nodes.proofs.Places.{wide_cell, word_cell}
use Rattle.nodes.proofs.Seeks.{clash}
use Rattle.nodes.proofs.States.{st_val}
use Rattle.nodes.proofs.Changes.{same_test}
use Rattle.nodes.proofs.Removes.{every_same, word_none}

-- ---- a word of the value masks without the bit of place i
module _ (masks : List ℕ) (n i : ℕ) where
  abbrev w : ℕ
  w = get_or masks (64 + n + i / 64) 0

  left_off : (j : ℕ) → j < 64 → not (word_bit (less w i) j) ≡ eqb j (i % 64) || not (bit_of masks (64 * (64 + n + i / 64) + j))
  left_off j h =
      ap not (less_bit w i j ∙ ap₂ (λ (b t : Bool). b && not t) (has_own masks (64 + n + i / 64) j h) (same_test (j % 64) (i % 64) j (i % 64) (λ o. omega arith) (λ o. omega arith)))
      ∙ off (eqb j (i % 64)) (bit_of masks (64 * (64 + n + i / 64) + j))
    where
      off : (t b : Bool) → not (b && not t) ≡ t || not b
      off true true = refl
      off true false = refl
      off false true = refl
      off false false = refl

  pub shared_is : {v : ℕ} → w < 2 ^ 64 → v ≡ less w i → not (eqb v 0) ≡ not (alone_s n masks i)
  shared_is f q =
      ap (λ (v : ℕ). not (eqb v 0)) q
      ∙ ap not (word_none (less w i) (omega (arith, f, and_le_l w (ones - weight i))) ∙ every_same _ _ 64 left_off)

  -- where that place is slot k of a cell x, the word is the cell's own: what is active there once that slot is hidden
  pub alone_is : (slots book : List ℕ) {x k : ℕ} → In n x k → 8 ≤ x → i ≡ word_of x k → alone_s n masks i ≡ none_s (hide_s x k (st n slots masks book)).val x
  unfolding hide_s
  alone_is slots book {x} {k} m l e =
      let low : k < 64 = omega (arith, m.slot, wide_cell x l) in
      every_same _ _ 64 (λ j h.
      let q : 64 * (64 + n + i / 64) + j ≡ val_bit n x j = omega (arith, word_cell x j l, word_cell x k l, e, low) in
      ap₂ (λ (t b : Bool). t || not b)
      (same_test j (i % 64) j k (λ o. omega (arith, word_cell x k l, e, low, o)) (λ o. omega (arith, word_cell x k l, e, low, o)))
      (ap (bit_of masks) q ∙ sym (st_val slots masks book (record { node = m.node; slot = omega (arith, wide_cell x l) })))
      ∙ rw (eq-eqb x x refl) (hidden (eqb j k) ((st n slots masks book).val x j)))
    where
      hidden : (t b : Bool) → t || not b ≡ not (cond t false b)
      hidden true b = refl
      hidden false b = refl

-- ---- one bit that is on
some_on : (f : ℕ → Bool) (j : ℕ) → j < 64 → f j ≡ true → every (λ j. not (f j)) 64 ≡ false
some_on f j h t = go (every (λ j. not (f j)) 64) refl
  where
    go : (b : Bool) → every (λ j. not (f j)) 64 ≡ b → every (λ j. not (f j)) 64 ≡ false
    go true e = absurd (clash (sym (ap not t) ∙ every_elim _ 64 e j h))
    go false e = e

and_no : (a b : Bool) → b ≡ false → a && b ≡ false
and_no true b e = e
and_no false b e = refl

-- ---- a walk that ends in a leaf has gone down at each level above
down : (b a t : Bool) (i : Place) (m y j x k : ℕ) → cond b (cond a nowhere (cond t i nowhere)) (at (suc m) y j) ≡ at 0 x k → (b ≡ true) × (t ≡ true) × (i ≡ at 0 x k)
down true true t i m y j x k e = absurd (none e)
  where
    none : nowhere ≡ at 0 x k → ⊥
    none e = let z : ◌≡◌ {A = ℕ} 0 1 = cc in omega arith
down true false true i m y j x k e = (refl, refl, e)
down true false false i m y j x k e = absurd (none e)
  where
    none : nowhere ≡ at 0 x k → ⊥
    none e = let z : ◌≡◌ {A = ℕ} 0 1 = cc in omega arith
down false a t i m y j x k e = absurd (none e)
  where
    none : at (suc m) y j ≡ at 0 x k → ⊥
    none e = let z : suc m ≡ 0 = cc in omega arith

module _ (n : ℕ) (s : St) (p : Point) where
  abbrev Down : ℕ → ℕ → ℕ → ℕ → Type 0
  Down l y x k =
      let j = slot_of (branching (suc l)) (below (suc l)) p in
      (s.kid y j ≡ true) × (ltb (s.slot y j) n ≡ true) × (place_s (branching l) (below l) n s (8 + s.slot y j) p ≡ at 0 x k)

  went : (l y : ℕ) {x k : ℕ} → place_s (branching (suc l)) (below (suc l)) n s y p ≡ at 0 x k → Down l y x k
  unfolding place_s
  went l y {x} {k} e =
      let j = slot_of (branching (suc l)) (below (suc l)) p in
      down (s.kid y j) (s.val y j) (ltb (s.slot y j) n) (place_s (branching l) (below l) n s (8 + s.slot y j) p) (length (below l)) y j x k e

  module _ {x k : ℕ} where
    pub insert_here : (w l y : ℕ) → place_s (branching l) (below l) n s y p ≡ at 0 x k → insert_m (branching l) (below l) n p w y s ≡ put_s x k w true s
    unfolding place_s insert_m view_s
    insert_here w zero y e =
        let f : y ≡ x = cc in
        let g : slot_of 2 [] p ≡ k = cc in
        ap₂ (λ (a b : ℕ). put_s a b w true s) f g
    insert_here w (suc l) y e = let d = went l y e in rw (d.0, d.1) (insert_here w l (8 + s.slot y (slot_of (branching (suc l)) (below (suc l)) p)) d.2)

    -- a node on the way is not bare where the leaf is not
    kept : (l y : ℕ) → l ≤ 1 → place_s (branching l) (below l) n s y p ≡ at 0 x k → none_s (hide_s x k s).val x ≡ false → bare_s (below l) (hide_s x k s) y ≡ false
    unfolding place_s bare_s hide_s size
    kept zero y h e f = let g : y ≡ x = cc in ap (none_s (hide_s x k s).val) g ∙ f
    kept (suc zero) y h e f = and_no (none_s (hide_s x k s).val y) _ (some_on (s.kid y) (slot_of 2 (2 ∷ []) p) (slot_lt 2 (2 ∷ []) p) (went 0 y e).0)
    kept (suc (suc l)) y h e f = absurd (omega arith)

    pub remove_here : (l y : ℕ) → l ≤ 2 → place_s (branching l) (below l) n s y p ≡ at 0 x k → none_s (hide_s x k s).val x ≡ false
        → remove_m (branching l) (below l) n p y s ≡ hide_s x k s
    unfolding place_s remove_m view_s hide_s
    remove_here zero y h e f =
        let g : y ≡ x = cc in
        let j : slot_of 2 [] p ≡ k = cc in
        ap₂ (λ (a b : ℕ). hide_s a b s) g j
    remove_here (suc l) y h e f =
        let d = went l y e in
        let j = slot_of (branching (suc l)) (below (suc l)) p in
        rw (d.0, d.1)
        (ap (shut_m (below l) n y j) (remove_here l (8 + s.slot y j) (omega arith) d.2 f) ∙ stays l y j d.1 (kept l (8 + s.slot y j) (omega arith) d.2 f))
      where
        stays : (l y j : ℕ) → ltb (s.slot y j) n ≡ true → bare_s (below l) (hide_s x k s) (8 + s.slot y j) ≡ false → shut_m (below l) n y j (hide_s x k s) ≡ hide_s x k s
        stays l y j t b = rw (t, b) refl
