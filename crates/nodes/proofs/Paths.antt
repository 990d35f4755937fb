-- The levels by their numbers, as the code goes them, and what a slot is. Assumes nothing.
use Rattle.std.specs.Prelude.{Option, Some, None}
use Rattle.std.specs.Bool.{then_some}
use mathlib.Core.Path.{◌≡◌, refl, sym, ap, ◌∙◌, subst}
use mathlib.Core.Bool.{Bool, true, false, cond}
use mathlib.Core.List.{List}
use mathlib.Core.Logic.{inl, inr}
use Prim.Native.Nat.{ℕ, zero, suc, ◌+◌, ◌-◌, ◌<◌, ◌≤◌}
use native.Mathlib.Omega.{arith}
use lib.ListN.{length, get_or}
use lib.Dec.{ltb}
use borrow.Author.Tests.{ltb-true}
use Rattle.std.proofs.lemmas.Bool.{and_parts}
use Rattle.bitset.specs.Set.{bit_of}
use Rattle.bitset.proofs.Digits.{lt_or_le}
use Rattle.grid.specs.Geometry.{Point, slot_of}
use Rattle.grid.specs.Node.{size}
use Rattle.grid.proofs.Geometry.{slot_lt}
use Rattle.nodes.specs.State.{St}
use Rattle.nodes.specs.Layout.{st, word_of, kid_bit, val_bit}
use Rattle.nodes.specs.Walk.{branching, below, closed_s, view_s, child_s, child_r}
use Rattle.nodes.specs.Range.{In, Stands}
use Rattle.nodes.specs.declared.walk.Slot.{Slot}
use Rattle.nodes.specs.declared.walk.Slot.TheVariants.{Branch, Tile, Hidden}
use Rattle.nodes.proofs.Places.{wide_top, wide_cell}
use Rattle.nodes.proofs.States.{st_slot, st_kid, st_val}

-- ---- the levels
pub below_length : (l : ℕ) → length (below l) ≡ l
below_length zero = refl
below_length (suc l) = ap suc (below_length l)

pub down : (l : ℕ) → (l ≡ 0 → ⊥) → l ≡ suc (l - 1)
down zero h = absurd (h refl)
down (suc l) h = omega arith

pub one_less : (l : ℕ) → suc l - 1 ≡ l
one_less l = omega arith

-- the slot of a point is one of the node's
pub slot_in : {n l x k : ℕ} (p : Point) → Stands n l x → k ≡ slot_of (branching l) (below l) p → In n x k
slot_in {n} {l} {x} {k} p s e = record { node = s.node; slot = omega (arith, e, s.slots, slot_lt (branching l) (below l) p) }

-- so is any slot below the size of its level
pub slot_of_lem : {n l x m k : ℕ} → Stands n l x → m ≡ size (branching l) → k < m → In n x k
slot_of_lem s e h = record { node = s.node; slot = omega (arith, s.slots) }

pub size_is : (m r : ℕ) {l : ℕ} → l ≡ m → r ≡ size (branching m) → r ≡ size (branching l)
size_is m r e h = h ∙ ap (λ (i : ℕ). size (branching i)) (sym e)

pub top_stands : (n x : ℕ) → x < 8 → Stands n 2 x
unfolding size
top_stands n x h = record { known = omega arith; node = omega arith; slots = wide_top x h }

pub low_size : (m : ℕ) → m ≤ 1 → 64 ≡ size (branching m)
unfolding size
low_size zero h = refl
low_size (suc zero) h = refl
low_size (suc (suc m)) h = absurd (none h)
  where
    none : suc (suc m) ≤ 1 → ⊥
    none h = omega arith

-- a middle node or a leaf is a cell
pub low_cell : {n l x : ℕ} → Stands n l x → l ≤ 1 → 8 ≤ x
low_cell {n} {l} {x} s h = elim (lt_or_le x 8) [
  | inl q ↦ absurd (omega (arith, wide_top x q, s.slots, low_size l h))
  | inr q ↦ q
]

pub leaf_cell : {n l x : ℕ} → Stands n l x → l ≡ 0 → 8 ≤ x
leaf_cell s e = low_cell s (omega arith)

pub stands_below : {n l x : ℕ} → Stands n l x → (l ≡ 0 → ⊥) → (c : ℕ) → c < n → Stands n (l - 1) (8 + c)
stands_below {n} {l} {x} s h c hc =
    let e : l ≡ suc (l - 1) = down l h in
    record { known = omega (arith, s.known); node = omega arith; slots = wide_cell (8 + c) (omega arith) ∙ low_size (l - 1) (omega (arith, s.known)) }

-- ---- an answer that is there where a test holds
pub some_if : (b : Bool) (c : ℕ) → then_some b c ≡ cond b (Some c) None
some_if true c = refl
some_if false c = refl

pub some_under : {c d : ℕ} (b : Bool) → Some c ≡ cond b (Some d) None → (b ≡ true) × (c ≡ d)
some_under true e = (refl, cc)
some_under false e = absurd cc

pub none_under : (b : Bool) (d : ℕ) → None ≡ cond b (Some d) None → b ≡ false
none_under true d e = cc
none_under false d e = refl

pub low_under : {c d n : ℕ} → ltb d n ≡ true → c ≡ d → c < n
low_under {c} {d} {n} h e = subst (λ (i : ℕ). i < n) (sym e) (ltb-true d n h)

-- ---- what a slot is
pub view_leaf : (s : St) (l x k : ℕ) → l ≡ 0 → closed_s s x k ≡ view_s (below l) s x k
unfolding view_s
view_leaf s l x k e = subst (λ (i : ℕ). closed_s s x k ≡ view_s (below i) s x k) (sym e) refl

pub view_up : (s : St) (l x k : ℕ) → (l ≡ 0 → ⊥) → cond (s.kid x k) (Branch (s.slot x k)) (closed_s s x k) ≡ view_s (below l) s x k
unfolding view_s
view_up s zero x k h = absurd (h refl)
view_up s (suc l) x k h = refl

-- ---- what the code has read of the lists
module _ (slots masks book : List ℕ) {n x k : ℕ} (i : In n x k) where
  pub closed_by : {w : ℕ} {v : Bool} (b : Bool) → w ≡ get_or slots (word_of x k) 0 → v ≡ bit_of masks (val_bit n x k) → v ≡ b → cond b (Tile w) (Hidden w) ≡ closed_s (st n slots masks book) x k
  closed_by b p q r = λ z. cond ((sym r ∙ q ∙ sym (st_val slots masks book i)) z) (Tile ((p ∙ sym (st_slot slots masks book i)) z)) (Hidden ((p ∙ sym (st_slot slots masks book i)) z))

  pub view_branch : (l : ℕ) {w : ℕ} {v : Bool} → (l ≡ 0 → ⊥) → w ≡ get_or slots (word_of x k) 0 → v ≡ bit_of masks (kid_bit x k) → v ≡ true → Branch w ≡ view_s (below l) (st n slots masks book) x k
  view_branch l h p q r =
      let t : (st n slots masks book).kid x k ≡ true = st_kid slots masks book i ∙ sym q ∙ r in
      ap Branch (p ∙ sym (st_slot slots masks book i)) ∙ rw t at (view_up (st n slots masks book) l x k h)

  pub view_closed : (l : ℕ) {t : Slot} {v : Bool} → (l ≡ 0 → ⊥) → v ≡ bit_of masks (kid_bit x k) → v ≡ false → t ≡ closed_s (st n slots masks book) x k → t ≡ view_s (below l)
      (st n slots masks book) x k
  view_closed l h q r e =
      let t : (st n slots masks book).kid x k ≡ false = st_kid slots masks book i ∙ sym q ∙ r in
      e ∙ rw t at (view_up (st n slots masks book) l x k h)

-- ---- where slot k of node x leads, as the code reads it
module _ (slots masks book : List ℕ) {n x k : ℕ} (i : In n x k) {b : Bool} (e : b ≡ bit_of masks (kid_bit x k)) where
  pub child_none : b ≡ false → None ≡ child_r n (st n slots masks book) x k
  child_none h = sym (rw (st_kid slots masks book i ∙ sym e ∙ h) refl)

  pub child_by : {c : ℕ} {r : Option ℕ} → b ≡ true → c ≡ get_or slots (word_of x k) 0 → r ≡ then_some (ltb c n) c → r ≡ child_r n (st n slots masks book) x k
  child_by {c} h d p =
      p ∙ some_if (ltb c n) c ∙ ap (λ (j : ℕ). cond (ltb j n) (Some j) None) (d ∙ sym (st_slot slots masks book i)) ∙ sym (rw (st_kid slots masks book i ∙ sym e ∙ h) refl)

-- ---- where a slot leads, taken apart
pub record Leads (n : ℕ) (s : St) (x k c : ℕ) : Type 0 where
  pub on : child_s n s x k ≡ true
  pub there : c ≡ s.slot x k
  pub low : c < n

module _ (n : ℕ) (s : St) (x k : ℕ) where
  pub child_go : {c : ℕ} → Some c ≡ child_r n s x k → Leads n s x k c
  child_go e =
      let t = some_under (child_s n s x k) e in
      record { on = t.0; there = t.1; low = low_under (and_parts _ _ t.0).1 t.1 }

  pub child_stop : None ≡ child_r n s x k → child_s n s x k ≡ false
  child_stop e = none_under (child_s n s x k) _ e

pub child_low : (slots masks book : List ℕ) {n x k c : ℕ} → In n x k → Some c ≡ child_r n (st n slots masks book) x k → c < n
child_low slots masks book {n} {x} {k} i e = (child_go n (st n slots masks book) x k e).low
