-- Prune, cut and flip, by what the code does at each slot. Assumes nothing.
use Rattle.std.specs.Prelude.{Some, None}
use mathlib.Core.Path.{◌≡◌, refl, sym, ap, ap₂, ◌∙◌, subst}
use mathlib.Core.Logic.{inl, inr}
use mathlib.Core.Bool.{Bool, true, false, cond, not, ◌&&◌, ◌||◌, and_comm, or_comm}
use mathlib.Core.List.{List}
use Prim.Native.Nat.{ℕ, zero, suc, ◌+◌, ◌-◌, ◌*◌, ◌/◌, ◌%◌, ◌^◌, ◌<◌, ◌≤◌}
use native.Mathlib.Omega.{arith}
use lib.ListN.{length, get_or, set}
use lib.Bits.{bit_and, bit_or}
use lib.Dec.{ltb, eqb}
use borrow.Author.Tests.{lt-ltb, le-ltb, eq-eqb, ne_eqb}
use Rattle.bitset.specs.Set.{bit_of, word_bit}
use Rattle.bitset.proofs.Digits.{lt_or_le, is_or_not}
use Rattle.bitset.proofs.Words.{ones, and_acts, or_acts, not_bit, zero_bit}
use Rattle.bitset.proofs.Sets.{bit_set}
use Rattle.floats.specs.Value.{negated}
use Rattle.floats.specs.declared.Test.{Test}
use Rattle.grid.specs.Node.{size}
use Rattle.nodes.specs.State.{St}
use Rattle.nodes.specs.Layout.{st, word_of, slots_length}
use Rattle.nodes.specs.Change.{at2, hide_s}
use Rattle.nodes.specs.Each.{each_s}
use Rattle.nodes.specs.Range.{In, Stands, Cells}
use Rattle.nodes.specs.Walk.{branching, below}
use Rattle.nodes.proofs.Paths.{one_less, leaf_cell}
use Rattle.nodes.proofs.Places.{spread_in, spread_same, word_cell, wide_cell}
use Rattle.nodes.proofs.Changes.{st_ext}
use Rattle.trees.specs.Slot.{child_r, word_s}
use Rattle.trees.specs.Turn.{cuts, hide_if_s, flat_s, back_s, turn_at, turn_m}
use Rattle.trees.specs.declared.turn.Work.{Work}
use Rattle.trees.specs.declared.turn.Work.TheVariants.{Prune, Cut, Flip}
use Rattle.trees.proofs.Slots.{child_go, child_stop}
use Rattle.trees.proofs.Copies.{word_at, dealt, dealt_none, dealt_left, dealt_more, dealt_values, blent, blent_none, blent_more, leaf_words, value_place}

-- ---- a slot above the leaves
module _ (w : Work) (bs : List ℕ) (go : ℕ → St → St) (n x k : ℕ) (s : St) where
  pub turn_flat : {r : St} → None ≡ child_r n s x k → r ≡ flat_s w x k s → r ≡ turn_at w bs go n x k s
  unfolding turn_at
  turn_flat e p = p ∙ sym (rw (child_stop n s x k e) refl)

  pub turn_down : {c : ℕ} {r t : St} → Some c ≡ child_r n s x k → r ≡ go (8 + c) s → t ≡ back_s w bs n x k r → t ≡ turn_at w bs go n x k s
  unfolding turn_at
  turn_down e p q =
      let g = child_go n s x k e in
      q ∙ ap (back_s w bs n x k) (p ∙ ap (λ (i : ℕ). go (8 + i) s) g.there) ∙ sym (rw g.on refl)

-- the same, where l is the node's level and the cell below is a leaf
module _ (w : Work) (n x k : ℕ) (s : St) where
  pub turn_near : {c : ℕ} {r t : St} (l : ℕ) → l ≡ 1 → Some c ≡ child_r n s x k → r ≡ turn_m (branching 0) (below 0) w n (8 + c) s → t ≡ back_s w (below 0) n x k r
      → t ≡ turn_at w (below (l - 1)) (turn_m (branching (l - 1)) (below (l - 1)) w n) n x k s
  turn_near l h e p q =
      let z : 0 ≡ l - 1 = omega arith in
      turn_down w (below 0) (turn_m (branching 0) (below 0) w n) n x k s e p q ∙ ap (λ (i : ℕ). turn_at w (below i) (turn_m (branching i) (below i) w n) n x k s) z

-- ---- the bits of a cut: of the slots that p holds of, those below i are there
pub record Marked (p : ℕ → Bool) (b i : ℕ) : Type 0 where
  pub marks : (k : ℕ) → word_bit b k ≡ ltb (k % 64) i && p (k % 64)

pub marked_none : (p : ℕ → Bool) → Marked p 0 0
marked_none p = record { marks = λ k. zero_bit k ∙ sym (rw (le-ltb (k % 64) 0 (omega arith)) refl) }

module _ {p : ℕ → Bool} {b i : ℕ} (m : Marked p b i) where
  pub marked_more : (v : ℕ) → i < 64 → ((k : ℕ) → word_bit v k ≡ p i && eqb (k % 64) (i % 64)) → Marked p (bit_or b v) (i + 1)
  marked_more v l q = record {
    marks = λ k.
        or_acts.by_bits b v k ∙ ap₂ ◌||◌ (m.marks k) (q k) ∙ elim (is_or_not (k % 64) i) [
          | inl e ↦ rw (le-ltb (k % 64) i (omega arith), eq-eqb (k % 64) (i % 64) (omega arith), lt-ltb (k % 64) (i + 1) (omega arith)) (and_comm (p i) true ∙ ap p (sym e))
          | inr e ↦ elim (lt_or_le (k % 64) i) [
            | inl h ↦ rw (lt-ltb (k % 64) i h, ne_eqb (k % 64) (i % 64) (λ d. e (omega arith)), lt-ltb (k % 64) (i + 1) (omega arith), and_comm (p i) false) (or_comm (p (k % 64)) false)
            | inr h ↦ rw (le-ltb (k % 64) i h, ne_eqb (k % 64) (i % 64) (λ d. e (omega arith)), le-ltb (k % 64) (i + 1) (past (k % 64) e h), and_comm (p i) false) refl
          ]
        ];
  }
    where
      past : (r : ℕ) → (r ≡ i → ⊥) → i ≤ r → i + 1 ≤ r
      past r d h = omega arith

-- word q without the bits of v
pub masks_dropped : (mk : List ℕ) (q v : ℕ) → q < length mk → v < 2 ^ 64 → (j : ℕ)
    → bit_of (set mk q (bit_and (get_or mk q 0) (ones - v))) j ≡ cond (eqb (j / 64) q) (bit_of mk (64 * q + j % 64) && not (word_bit v j)) (bit_of mk j)
masks_dropped mk q v l h j =
    bit_set mk q (bit_and (get_or mk q 0) (ones - v)) l j
    ∙ ap (λ (t : Bool). cond (eqb (j / 64) q) t (bit_of mk j)) (and_acts.by_bits (get_or mk q 0) (ones - v) j ∙ ap₂ ◌&&◌ (word_at mk q j) (not_bit v j h))

-- ---- a slot of a cut, as one store of its value
module _ (x k : ℕ) (s : St) where
  val_s : Bool → St
  val_s a = record { slot = s.slot; kid = s.kid; val = at2 s.val x k a; count = s.count; stack = s.stack; tag = s.tag; mark = s.mark }

  at_same : {v : Bool} → s.val x k ≡ v → s ≡ val_s v
  unfolding val_s
  at_same {v} e = st_ext _ _ (λ _ _. refl) (λ _ _. refl) (λ z j. elim (is_or_not z x) [
    | inl p ↦ elim (is_or_not j k) [
      | inl q ↦ (λ i. s.val (p i) (q i)) ∙ e ∙ sym (rw (eq-eqb z x p, eq-eqb j k q) refl)
      | inr q ↦ sym (rw (eq-eqb z x p, ne_eqb j k q) refl)
    ]
    | inr p ↦ sym (rw (ne_eqb z x p) refl)
  ]) refl (λ _. refl) (λ _. refl) (λ _. refl)

  hidden_by : (v c : Bool) → s.val x k ≡ v → cond (v && c) (hide_s x k s) s ≡ val_s (v && not c)
  unfolding hide_s val_s
  hidden_by true true e = refl
  hidden_by true false e = at_same e
  hidden_by false c e = at_same e

  hide_is : (t : Test) → hide_if_s t x k s ≡ val_s (s.val x k && not (cuts t (s.slot x k)))
  unfolding hide_if_s
  hide_is t = hidden_by (s.val x k) (cuts t (s.slot x k)) refl

-- ---- a leaf as one piece
module _ (n : ℕ) (sl mk book : List ℕ) (x : ℕ) (hx : 8 ≤ x) (nx : x < 8 + n) where
  abbrev s₀ : St
  s₀ = st n sl mk book

  leaf_in : (m : ℕ) → m < 64 → In n x m
  leaf_in m h = record { node = nx; slot = omega (arith, wide_cell x hx) }

  -- the first m slots are flipped
  flipped_s : ℕ → St
  flipped_s m = record { slot = blent n 0 (λ v _. negated v) (λ i. get_or sl i 0) x x m; kid = s₀.kid; val = s₀.val; count = s₀.count; stack = s₀.stack; tag = s₀.tag; mark = s₀.mark }

  each_flipped : (m : ℕ) → m ≤ 64 → each_s (flat_s Flip x) m s₀ ≡ flipped_s m
  unfolding each_s flat_s word_s flipped_s st
  each_flipped zero h = st_ext _ _ (blent_none n 0 (λ v _. negated v) (λ i. get_or sl i 0) x x) (λ _ _. refl) (λ _ _. refl) refl (λ _. refl) (λ _. refl) (λ _. refl)
  each_flipped (suc m) h =
      let i = leaf_in m (omega arith) in
      ap (flat_s Flip x m) (each_flipped m (omega arith))
      ∙ st_ext _ _ (blent_more n 0 (λ v _. negated v) (λ i. get_or sl i 0) x x hx hx m (omega arith) i i) (λ _ _. refl) (λ _ _. refl) refl (λ _. refl) (λ _. refl) (λ _. refl)

  pub leaf_flipped : (sl' : List ℕ) → ((i : ℕ) → get_or sl' i 0 ≡ cond (eqb (i / 64) (64 + (x - 8))) (negated (get_or sl (64 * (64 + (x - 8)) + i % 64) 0)) (get_or sl i 0))
      → st n sl' mk book ≡ turn_m (branching 0) (below 0) Flip n x s₀
  unfolding turn_m size flipped_s st
  leaf_flipped sl' p =
      st_ext _ _ (leaf_words n x x hx hx (λ v _. negated v) sl sl' p) (λ _ _. refl) (λ _ _. refl) refl (λ _. refl) (λ _. refl) (λ _. refl)
      ∙ sym (each_flipped 64 (omega arith))

  -- the first m slots are cut
  module _ (t : Test) where
    abbrev kept : ℕ → Bool
    kept r = bit_of mk (64 * (64 + n) + (64 * (56 + x) + r)) && not (cuts t (get_or sl (64 * (56 + x) + r) 0))

    cut_s : ℕ → St
    cut_s m = record { slot = s₀.slot; kid = s₀.kid; val = dealt n false (λ i. bit_of mk (64 * (64 + n) + i)) x kept m; count = s₀.count; stack = s₀.stack; tag = s₀.tag; mark = s₀.mark }

    each_cut : (m : ℕ) → m ≤ 64 → each_s (flat_s (Cut t) x) m s₀ ≡ cut_s m
    unfolding each_s flat_s val_s cut_s st
    each_cut zero h = st_ext _ _ (λ _ _. refl) (λ _ _. refl) (dealt_none n false (λ i. bit_of mk (64 * (64 + n) + i)) x kept) refl (λ _. refl) (λ _. refl) (λ _. refl)
    each_cut (suc m) h =
        let i = leaf_in m (omega arith) in
        let w : word_of x m ≡ 64 * (56 + x) + m = omega (arith, word_cell x m hx) in
        let v = dealt_left n false (λ i. bit_of mk (64 * (64 + n) + i)) x kept m x hx (omega arith) i in
        let u = spread_in n 0 (λ i. get_or sl i 0) i ∙ ap (λ (i : ℕ). get_or sl i 0) w in
        ap (flat_s (Cut t) x m) (each_cut m (omega arith)) ∙ hide_is x m (cut_s m) t
        ∙ st_ext _ _ (λ _ _. refl) (λ _ _. refl)
        (λ z j. (λ i. at2 (dealt n false (λ i. bit_of mk (64 * (64 + n) + i)) x kept m) x m (v i && not (cuts t (u i))) z j) ∙ dealt_more n false
        (λ i. bit_of mk (64 * (64 + n) + i)) x kept hx m (omega arith) i z j)
        refl (λ _. refl) (λ _. refl) (λ _. refl)

    pub leaf_cut : (mk' : List ℕ) (b : ℕ) → ((k : ℕ) → word_bit b k ≡ cuts t (get_or sl (64 * (64 + (x - 8)) + k % 64) 0))
        → ((j : ℕ) → bit_of mk' j ≡ cond (eqb (j / 64) (128 + n + (x - 8))) (bit_of mk (64 * (128 + n + (x - 8)) + j % 64) && not (word_bit b j)) (bit_of mk j))
        → st n sl mk' book ≡ turn_m (branching 0) (below 0) (Cut t) n x s₀
    unfolding turn_m size cut_s st
    leaf_cut mk' b p q =
        let e : 64 + (x - 8) ≡ 56 + x = omega arith in
        st_ext _ _ (λ _ _. refl)
        (spread_same n false (bit_of mk) (bit_of mk') (λ i l. q i ∙ rw (ne_eqb (i / 64) (128 + n + (x - 8)) (λ e. omega arith)) refl))
        (dealt_values n x hx kept mk mk' (bit_of mk) (λ j.
        q j ∙ (λ z. cond (eqb (j / 64) (128 + n + (x - 8))) (bit_of mk (value_place n x (j % 64) hx z) && not ((p j ∙ (λ z. cuts t (get_or sl (64 * e z + j % 64) 0))) z)) (bit_of mk j))) (λ _. refl))
        refl (λ _. refl) (λ _. refl) (λ _. refl)
        ∙ sym (each_cut 64 (omega arith))

each_pruned : (x m : ℕ) (s : St) → s ≡ each_s (flat_s Prune x) m s
unfolding each_s flat_s
each_pruned x zero s = refl
each_pruned x (suc m) s = each_pruned x m s

pub leaf_pruned : (n x : ℕ) (s : St) → s ≡ turn_m (branching 0) (below 0) Prune n x s
unfolding turn_m
leaf_pruned n x s = each_pruned x (size (branching 0)) s

-- ---- the whole node
pub leaf_room : {n x : ℕ} {a d : List ℕ} → Cells n a d → Stands n 0 x → (x - 8 < 65536) × (slots_length (x - 8 + 1) ≤ length a)
leaf_room z s = (omega (arith, z.most, s.node), omega (arith, z.slots_fit, s.node, leaf_cell s refl))

pub leaf_stands : {n l x : ℕ} → Stands n l x → l ≡ 0 → Stands n 0 x
leaf_stands {n} {l} {x} s e = subst (λ (i : ℕ). Stands n i x) e s

module _ (w : Work) (n x : ℕ) (s : St) {t : St} where
  pub leaf_work : {v : Work} → w ≡ v → t ≡ turn_m (branching 0) (below 0) v n x s → t ≡ turn_m (branching 0) (below 0) w n x s
  leaf_work e p = p ∙ ap (λ (w : Work). turn_m (branching 0) (below 0) w n x s) (sym e)

  pub turn_all : (l k : ℕ) → (l ≡ 0 → ⊥) → k ≡ size (branching l) → t ≡ each_s (turn_at w (below (l - 1)) (turn_m (branching (l - 1)) (below (l - 1)) w n) n x) k s
      → t ≡ turn_m (branching l) (below l) w n x s
  unfolding turn_m
  turn_all l k h e p = p ∙ ap (λ (m : ℕ). each_s (turn_at w (below (l - 1)) (turn_m (branching (l - 1)) (below (l - 1)) w n) n x) m s) e ∙ up l h
    where
      up : (l : ℕ) → (l ≡ 0 → ⊥) → each_s (turn_at w (below (l - 1)) (turn_m (branching (l - 1)) (below (l - 1)) w n) n x) (size (branching l)) s ≡ turn_m (branching l) (below l) w n x s
      up zero h = absurd (h refl)
      up (suc l) h = ap (λ (m : ℕ). each_s (turn_at w (below m) (turn_m (branching m) (below m) w n) n x) (size (branching (suc l))) s) (one_less l)
