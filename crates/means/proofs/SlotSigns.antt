-- One slot of a node of a sound pool: the signs that are read of it are the meaning's, and writing its sign changes it alone. Assumes nothing.
use mathlib.Core.Path.{◌≡◌, refl, sym, ap, ◌∙◌}
use mathlib.Core.Bool.{Bool, true, false, not, cond, false≢true}
use mathlib.Core.List.{[]}
use Prim.Native.Nat.{ℕ, zero, suc, ◌+◌, ◌-◌, ◌<◌, ◌≤◌}
use native.Mathlib.Omega.{arith}
use borrow.Author.Tests.{lt-ltb, not-true}
use Rattle.floats.specs.Value.{negative, far_with}
use Rattle.floats.proofs.Words.{on_case}
use Rattle.floats.proofs.Finite.{finite_far_with}
use Rattle.bitset.proofs.Every.{and_both}
use Rattle.grid.specs.Node.{branch, tile, hidden, on_slot, is_hidden, SlotOf, changed}
use Rattle.grid.specs.SignFill.{first_sign, first_sign_s, last_sign, replaced, start, written}
use Rattle.nodes.specs.State.{St, Fork, Sound, flat}
use Rattle.nodes.specs.Walk.{below}
use Rattle.trees.specs.Slot.{child_s, hidden_s}
use Rattle.signs.specs.Signs.{sign_s, behind_s, start_s, write_s}
use Rattle.means.specs.Level.{span, tree_at, At, Turned}
use Rattle.means.proofs.Levels.{span_pos, wide_cell, at_wide, leaf_ends, at_link, at_down}
use Rattle.means.proofs.Turned.{idle, ruled}
use Rattle.means.proofs.Slots.{tree_leaf, tree_slot, slot_flat, tree_branch}
use Rattle.means.proofs.Put.{word_turned}
use Rattle.means.proofs.Bare.{hidden_flat, hidden_slot}

-- the signs of a slot that is no branch
flat_sign : {C : Type 0} (f : C → Bool) (s : St) (x k : ℕ) → on_slot f negative negative (flat s x k) ≡ negative (s.slot x k)
flat_sign f s x k = on_case (s.val x k) (λ v. rw v refl) (λ v. rw v refl)

flat_behind : {C : Type 0} (f : C → Bool) (g : Bool) (s : St) (x k : ℕ) → on_slot f negative (λ _. g) (flat s x k) ≡ cond (s.val x k) (negative (s.slot x k)) g
flat_behind f g s x k = on_case (s.val x k) (λ v. rw v refl) (λ v. rw v refl)

pub hidden_is : (s : St) (l x k : ℕ) → k < span l → hidden_s (below l) s x k ≡ is_hidden (tree_at l s x k)
unfolding hidden_s
hidden_is s zero x k q = sym (ap is_hidden (tree_leaf s x k q) ∙ hidden_flat s x k)
hidden_is s (suc l) x k q = sym (ap is_hidden (tree_slot l s x k q) ∙ hidden_slot (tree_at l s) s x k)

-- ---- the signs
module _ {n : ℕ} {s : St} (sd : Sound n s) where
  -- a branch leads to a cell of the pool
  pub child_is : (l x k : ℕ) → At n s (suc l) x → k < span (suc l) → child_s n s x k ≡ s.kid x k
  child_is l x k h q = on_case (s.kid x k) (λ e. rw (e, lt-ltb (s.slot x k) n (at_link sd l x k h q e).inside) refl) (λ e. rw e refl)

  pub sign_is_lem : (l x k : ℕ) → At n s l x → k < span l → sign_s (below l) n s x k ≡ first_sign_s (below l) (tree_at l s x k)
  unfolding sign_s first_sign
  sign_is_lem zero x k h q = sym (ap (first_sign_s []) (tree_leaf s x k q) ∙ flat_sign {C = ⊥} (λ c. first_sign [] c) s x k)
  sign_is_lem (suc l) x k h q = on_case (s.kid x k)
      (λ e. rw (child_is l x k h q ∙ e) (sign_is_lem l (8 + s.slot x k) 0 (at_down sd l x k h q e) (span_pos l) ∙ sym (ap (first_sign_s (below (suc l))) (tree_branch l s x k q e))))
      (λ e. rw (child_is l x k h q ∙ e) (sym (ap (first_sign_s (below (suc l))) (tree_slot l s x k q ∙ slot_flat (tree_at l s) s x k e) ∙ flat_sign (λ c. first_sign (below (suc l)) c) s x k)))

  pub behind_is : (l x k : ℕ) (g : Bool) → At n s l x → k < span l → behind_s (below l) n s x k g ≡ replaced (below l) g (tree_at l s x k)
  unfolding behind_s last_sign
  behind_is zero x k g h q = sym (ap (replaced [] g) (tree_leaf s x k q) ∙ flat_behind {C = ⊥} (λ c. last_sign [] c) g s x k)
  behind_is (suc l) x k g h q = on_case (s.kid x k)
      (λ e. rw (child_is l x k h q ∙ e)
      (let at : At n s l (8 + s.slot x k) = at_down sd l x k h q e in
      let w : span l ≡ 64 = sym (at_wide n s l (8 + s.slot x k) at) ∙ wide_cell (8 + s.slot x k) (omega arith) in
      sign_is_lem l (8 + s.slot x k) 63 at (omega arith)
      ∙ ap (λ (m : ℕ). first_sign_s (below l) (tree_at l s (8 + s.slot x k) (m - 1))) (sym w)
      ∙ sym (ap (replaced (below (suc l)) g) (tree_branch l s x k q e))))
      (λ e. rw (child_is l x k h q ∙ e)
      (sym (ap (replaced (below (suc l)) g) (tree_slot l s x k q ∙ slot_flat (tree_at l s) s x k e) ∙ flat_behind (λ c. last_sign (below (suc l)) c) g s x k)))

  -- the slots from k on, as t has them
  pub start_is : (l x : ℕ) → At n s l x → (m k : ℕ) (t : ℕ → SlotOf (below l)) → ((i : ℕ) → t i ≡ tree_at l s x (k + i)) → k + m ≤ span l
      → start_s (below l) n s x k m ≡ start (below l) m t
  unfolding start_s start is_hidden
  start_is l x h zero k t e q = refl
  start_is l x h (suc m) k t e q =
      let rest : start_s (below l) n s x (suc k) m ≡ start (below l) m (λ i. t (suc i)) =
      start_is l x h m (suc k) (λ i. t (suc i)) (λ i. e (suc i) ∙ ap (tree_at l s x) (omega arith)) (omega arith) in
      (λ i. cond (hid i) (rest i) (first i)) ∙ same (t 0) (start (below l) m (λ i. t (suc i)))
    where
      same : (a : SlotOf (below l)) (r : Bool) → cond (is_hidden a) r (first_sign_s (below l) a) ≡ on_slot (λ c. first_sign (below l) c) negative (λ _. r) a
      same (branch c) r = refl
      same (tile v) r = refl
      same (hidden v) r = refl

      here : tree_at l s x k ≡ t 0
      here = ap (tree_at l s x) (omega arith) ∙ sym (e 0)

      hid : hidden_s (below l) s x k ≡ is_hidden (t 0)
      hid = hidden_is s l x k (omega arith) ∙ ap is_hidden here

      first : sign_s (below l) n s x k ≡ first_sign_s (below l) (t 0)
      first = sign_is_lem l x k h (omega arith) ∙ ap (first_sign_s (below l)) here

  -- ---- one slot written

  -- a hidden slot has both bits off
  hidden_off : (l x k : ℕ) → At n s l x → hidden_s (below l) s x k ≡ true → (s.val x k ≡ false) × (Fork s x → s.kid x k ≡ false)
  unfolding hidden_s
  hidden_off zero x k h e = (not-true (s.val x k) e, λ f. absurd (leaf_ends n s x h f))
  hidden_off (suc l) x k h e =
      let p : (not (s.val x k) ≡ true) × (not (s.kid x k) ≡ true) = and_both (not (s.val x k)) (not (s.kid x k)) e in
      (not-true (s.val x k) p.0, λ _. not-true (s.kid x k) p.1)

  pub write_turned : (l x k : ℕ) (g : Bool) → At n s l x → k < span l
      → Turned n l x s (write_s (below l) x k g s) (changed (span l) k (written (below l) g) (tree_at l s x))
  unfolding write_s is_hidden
  write_turned l x k g h q = on_case (hidden_s (below l) s x k)
      (λ e. rw e (let o : (s.val x k ≡ false) × (Fork s x → s.kid x k ≡ false) = hidden_off l x k h e in
      ruled k _ (word_turned sd l x k h o.1 (far_with g) (finite_far_with g)) (written (below l) g) (rw o.0 (sym (all (tree_at l s x k) (sym (hidden_is s l x k q) ∙ e))))))
      (λ e. rw e (idle l x k s (written (below l) g) sd h (none (tree_at l s x k) (sym (hidden_is s l x k q) ∙ e))))
    where
      all : (a : SlotOf (below l)) → is_hidden a ≡ true → written (below l) g a ≡ hidden (far_with g)
      all (branch c) e = absurd (false≢true e)
      all (tile v) e = absurd (false≢true e)
      all (hidden v) e = refl

      none : (a : SlotOf (below l)) → is_hidden a ≡ false → written (below l) g a ≡ a
      none (branch c) e = refl
      none (tile v) e = refl
      none (hidden v) e = absurd (false≢true (sym e))
