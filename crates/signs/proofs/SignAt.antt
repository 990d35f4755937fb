-- The sign of a slot, the sign behind it, and the first slot that is not hidden, by the level's number as the code goes; a hidden slot written. Assumes nothing.
use Rattle.std.specs.Prelude.{Option, Some, None}
use mathlib.Core.Path.{◌≡◌, refl, sym, ap, ◌∙◌, subst}
use mathlib.Core.Bool.{Bool, true, false, not, cond}
use mathlib.Core.List.{List}
use Prim.Native.Nat.{ℕ, zero, suc, ◌+◌, ◌-◌, ◌*◌, ◌^◌, ◌<◌, ◌≤◌}
use native.Mathlib.Numerals.{add-one}
use native.Mathlib.Omega.{arith}
use lib.ListN.{get_or}
use borrow.Author.Tests.{not-true, not-false}
use Rattle.bitset.specs.Set.{bit_of}
use Rattle.floats.specs.Value.{negative, far_with}
use Rattle.grid.specs.Node.{size}
use Rattle.nodes.specs.State.{St}
use Rattle.nodes.specs.Layout.{st, word_of, val_bit}
use Rattle.nodes.specs.Range.{In, Stands}
use Rattle.nodes.specs.Walk.{branching, below}
use Rattle.nodes.proofs.States.{st_slot, st_val}
use Rattle.nodes.proofs.Paths.{one_less, slot_of_lem}
use Rattle.trees.specs.Slot.{child_s, child_r, hidden_s, word_s}
use Rattle.signs.specs.Signs.{sign_s, behind_s, start_s, write_s}
use Rattle.signs.specs.Seen.{Seen, Sides, UpperShows}
use Rattle.trees.proofs.Slots.{child_go, child_stop}

-- ---- what the code has read of the lists
module _ (slots masks book : List ℕ) {n x k : ℕ} (i : In n x k) where
  pub sign_read : {w : ℕ} {v : Bool} → w ≡ get_or slots (word_of x k) 0 → v ≡ negative w → v ≡ negative ((st n slots masks book).slot x k)
  sign_read p q = q ∙ ap negative (p ∙ sym (st_slot slots masks book i))

  module _ (g : Bool) {a : Bool} (e : a ≡ bit_of masks (val_bit n x k)) where
    pub behind_active : {w : ℕ} {v : Bool} → a ≡ true → w ≡ get_or slots (word_of x k) 0 → v ≡ negative w → v ≡ behind_s (below 0) n (st n slots masks book) x k g
    unfolding behind_s
    behind_active h p q = sign_read p q ∙ sym (rw (st_val slots masks book i ∙ sym e ∙ h) refl)

    pub behind_hidden : a ≡ false → g ≡ behind_s (below 0) n (st n slots masks book) x k g
    unfolding behind_s
    behind_hidden h = sym (rw (st_val slots masks book i ∙ sym e ∙ h) refl)

-- ---- by what slot k of node x leads to: a, or f of the cell
module _ {A : Type 0} (n : ℕ) (s : St) (x k : ℕ) (f : ℕ → A) (a : A) {v : A} {r : Option ℕ} where
  pub by_stop : r ≡ None → r ≡ child_r n s x k → v ≡ a → v ≡ cond (child_s n s x k) (f (s.slot x k)) a
  by_stop d e p = p ∙ sym (rw (child_stop n s x k (sym d ∙ e)) refl)

  pub by_go : {c : ℕ} → r ≡ Some c → r ≡ child_r n s x k → v ≡ f c → v ≡ cond (child_s n s x k) (f (s.slot x k)) a
  by_go d e p = p ∙ ap f (child_go n s x k (sym d ∙ e)).there ∙ sym (rw (child_go n s x k (sym d ∙ e)).on refl)

-- ---- above the leaves
pub sides_low : (l : ℕ) → l ≤ 2 → (l ≡ 2 → ⊥) → Sides (branching l) 4
sides_low zero h d = record { side = refl; face = refl; cube = refl; face_some = omega arith; few = omega arith }
sides_low (suc zero) h d = record { side = refl; face = refl; cube = refl; face_some = omega arith; few = omega arith }
sides_low (suc (suc l)) h d = absurd (d (omega arith))

pub in_upper : {n l x k : ℕ} → Stands n l x → k < 2 ^ (3 * branching l) → In n x k
unfolding size
in_upper s h = slot_of_lem s refl h

pub no_leaf : {l : ℕ} → 0 < l → l ≡ 0 → ⊥
no_leaf h e = omega arith

module _ (n : ℕ) (s : St) (x k : ℕ) where
  sign_up : (l : ℕ) → (l ≡ 0 → ⊥) → cond (child_s n s x k) (sign_s (below (l - 1)) n s (8 + s.slot x k) 0) (negative (s.slot x k)) ≡ sign_s (below l) n s x k
  unfolding sign_s
  sign_up zero h = absurd (h refl)
  sign_up (suc l) h = rw (one_less l) refl

  behind_up : (l : ℕ) → (l ≡ 0 → ⊥) → (g : Bool) → cond (child_s n s x k) (sign_s (below (l - 1)) n s (8 + s.slot x k) 63) (behind_s (below 0) n s x k g) ≡ behind_s (below l) n s x k g
  unfolding behind_s
  behind_up zero h g = absurd (h refl)
  behind_up (suc l) h g = rw (one_less l) refl

-- ---- the sign of slot k of node x of level l, and the sign behind it
module _ (n : ℕ) (s : St) (l x k : ℕ) {v : Bool} where
  pub sign_leaf : l ≡ 0 → v ≡ negative (s.slot x k) → v ≡ sign_s (below l) n s x k
  unfolding sign_s
  sign_leaf z p = p ∙ ap (λ (i : ℕ). sign_s (below i) n s x k) (sym z)

  module _ (h : l ≡ 0 → ⊥) {r : Option ℕ} where
    pub sign_flat : r ≡ None → r ≡ child_r n s x k → v ≡ negative (s.slot x k) → v ≡ sign_s (below l) n s x k
    sign_flat d e p = by_stop n s x k (λ c. sign_s (below (l - 1)) n s (8 + c) 0) (negative (s.slot x k)) d e p ∙ sign_up n s x k l h

    pub sign_down : {c : ℕ} → r ≡ Some c → r ≡ child_r n s x k → v ≡ sign_s (below (l - 1)) n s (8 + c) 0 → v ≡ sign_s (below l) n s x k
    sign_down d e p = by_go n s x k (λ c. sign_s (below (l - 1)) n s (8 + c) 0) (negative (s.slot x k)) d e p ∙ sign_up n s x k l h

    pub behind_flat : (g : Bool) → r ≡ None → r ≡ child_r n s x k → v ≡ behind_s (below 0) n s x k g → v ≡ behind_s (below l) n s x k g
    behind_flat g d e p = by_stop n s x k (λ c. sign_s (below (l - 1)) n s (8 + c) 63) (behind_s (below 0) n s x k g) d e p ∙ behind_up n s x k l h g

    pub behind_down : (g : Bool) {c : ℕ} → r ≡ Some c → r ≡ child_r n s x k → v ≡ sign_s (below (l - 1)) n s (8 + c) 63 → v ≡ behind_s (below l) n s x k g
    behind_down g d e p = by_go n s x k (λ c. sign_s (below (l - 1)) n s (8 + c) 63) (behind_s (below 0) n s x k g) d e p ∙ behind_up n s x k l h g

-- ---- the first of m slots that is not hidden, where those before k are hidden
pub start_first : (bs : List ℕ) (n : ℕ) (s : St) (x m : ℕ) → start_s bs n s x 0 m ≡ start_s bs n s x 0 (m - 0)
start_first bs n s x m = ap (start_s bs n s x 0) (all m)
  where
    all : (m : ℕ) → m ≡ m - 0
    all m = omega arith

module _ (bs : List ℕ) (n : ℕ) (s : St) (x m k : ℕ) {r : Bool} (p : r ≡ start_s bs n s x k (m - k)) where
  pub start_none : m ≤ k → false ≡ r
  unfolding start_s
  start_none l = sym (p ∙ ap (start_s bs n s x k) (over l))
    where
      over : m ≤ k → m - k ≡ 0
      over l = omega arith

  module _ (l : k < m) {h : Bool} (e : h ≡ hidden_s bs s x k) where
    start_by : r ≡ cond h (start_s bs n s x (k + 1) (m - (k + 1))) (sign_s bs n s x k)
    unfolding start_s
    start_by = p ∙ ap (start_s bs n s x k) left ∙ sym (rw (e, add-one) refl)
      where
        left : m - k ≡ suc (m - (k + 1))
        left = omega arith

    pub start_on : not h ≡ false → r ≡ start_s bs n s x (k + 1) (m - (k + 1))
    start_on d = start_by ∙ rw (not-false h d) refl

    pub start_found : not h ≡ true → {v : Bool} → v ≡ sign_s bs n s x k → v ≡ r
    start_found d q = q ∙ sym (start_by ∙ rw (not-true h d) refl)

pub start_past : (bs : List ℕ) (n : ℕ) (s : St) (x m k : ℕ) → k ≤ m → ((j : ℕ) → j < k → true ≡ hidden_s bs s x j) → start_s bs n s x 0 m ≡ start_s bs n s x k (m - k)
start_past bs n s x m zero l q = start_first bs n s x m
start_past bs n s x m (suc k) l q =
    start_on bs n s x m k (start_past bs n s x m k (omega arith) (λ j h. q j (omega arith))) (omega arith) (q k (omega arith)) refl
    ∙ ap (λ (i : ℕ). start_s bs n s x i (m - i)) (add-one k)

-- ---- a hidden slot is written
module _ (bs : List ℕ) (x k : ℕ) (g : Bool) (s : St) {h : Bool} (e : h ≡ hidden_s bs s x k) where
  pub write_yes : {w : ℕ} {t : St} → h ≡ true → w ≡ far_with g → t ≡ word_s x k w s → t ≡ write_s bs x k g s
  unfolding write_s
  write_yes a p q = q ∙ ap (λ (w : ℕ). word_s x k w s) p ∙ sym (rw (sym e ∙ a) refl)

  pub write_no : h ≡ false → s ≡ write_s bs x k g s
  unfolding write_s
  write_no a = sym (rw (sym e ∙ a) refl)

-- ---- what holds of node x of a pool with these masks, whatever its book, holds of the node that is shown
pub shown : (P : Seen → Type 0) {n x : ℕ} {masks : List ℕ} → ((book : List ℕ) → P (record { n = n; x = x; masks = masks; book = book })) → (q : Seen) → UpperShows n x masks q → P q
shown P f q h = subst P (sym h) (f q.book)

pub shown_sign : (P : Seen → Bool → Type 0) {n x : ℕ} {masks : List ℕ} {b : Bool} → ((book : List ℕ) → P (record { n = n; x = x; masks = masks; book = book }) b)
    → (q : Seen) (g : Bool) → UpperShows n x masks q → b ≡ g → P q g
shown_sign P {b = b} f q g h e = subst (P q) e (shown (λ (q : Seen). P q b) f q h)
