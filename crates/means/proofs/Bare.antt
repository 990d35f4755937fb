-- The test of the masks that a node is bare: it is that every slot is hidden, and then nothing is below the node. Assumes nothing.
use mathlib.Core.Path.{◌≡◌, refl, sym, ap, ap₂, ◌∙◌}
use mathlib.Core.Bool.{Bool, true, false, not, ◌&&◌}
use Prim.Native.Nat.{ℕ, zero, suc, ◌<◌}
use native.Mathlib.Omega.{arith}
use native.Mathlib.Nat.{mod-eq_of_lt}
use borrow.Author.Tests.{not-true}
use Rattle.floats.proofs.Words.{on_case}
use Rattle.bitset.specs.Set as set
use Rattle.bitset.proofs.Every.{and_both, every_elim}
use Rattle.grid.specs.Node.{is_hidden, every}
use Rattle.nodes.specs.State.{St, Fork, flat, slot_at, tree}
use Rattle.nodes.specs.Walk.{below}
use Rattle.nodes.specs.Remove.{none_s, bare_s}
use Rattle.means.specs.Level.{span, tree_at, At}
use Rattle.means.proofs.Levels.{leaf_ends}

pub hidden_flat : (s : St) (y j : ℕ) → is_hidden (flat {C = ⊥} s y j) ≡ not (s.val y j)
unfolding is_hidden
hidden_flat s y j = on_case (s.val y j) (λ v. rw v refl) (λ v. rw v refl)

pub hidden_slot : {C : Type 0} (f : ℕ → C) (s : St) (y j : ℕ) → is_hidden (slot_at f s y j) ≡ (not (s.val y j) && not (s.kid y j))
unfolding is_hidden
hidden_slot f s y j = on_case (s.kid y j)
    (λ e. on_case (s.val y j) (λ v. rw (e, v) refl) (λ v. rw (e, v) refl))
    (λ e. on_case (s.val y j) (λ v. rw (e, v) refl) (λ v. rw (e, v) refl))

pub every_as : {A : Type 0} (f : A → Bool) (k : ℕ) (t : ℕ → A) (m : ℕ → Bool) → ((j : ℕ) → j < k → f (t j) ≡ m j) → every f k t ≡ set.every m k
unfolding every set.every
every_as f zero t m h = refl
every_as f (suc k) t m h = ap₂ (λ (a b : Bool). a && b) (h k (omega arith)) (every_as f k t m (λ j l. h j (omega arith)))

every_and : (m o : ℕ → Bool) (k : ℕ) → set.every (λ j. m j && o j) k ≡ (set.every m k && set.every o k)
unfolding set.every
every_and m o zero = refl
every_and m o (suc k) = ap (λ (b : Bool). (m k && o k) && b) (every_and m o k) ∙ swap (m k) (o k) (set.every m k) (set.every o k)
  where
    swap : (a b c d : Bool) → ((a && b) && (c && d)) ≡ ((a && c) && (b && d))
    swap true true c d = refl
    swap true false true d = refl
    swap true false false d = refl
    swap false b c d = refl

pub bare_is : (l : ℕ) (s : St) (y : ℕ) → span l ≡ 64 → bare_s (below l) s y ≡ every is_hidden (span l) (tree_at l s y)
unfolding tree bare_s
bare_is zero s y w =
    ap (set.every (λ j. not (s.val y j))) (sym w)
    ∙ sym (every_as is_hidden (span zero) (tree_at zero s y) (λ j. not (s.val y j)) (λ j h. ap (λ (i : ℕ). is_hidden (flat {C = ⊥} s y i)) (mod-eq_of_lt h) ∙ hidden_flat s y j))
bare_is (suc l) s y w =
    sym (every_and (λ j. not (s.val y j)) (λ j. not (s.kid y j)) 64)
    ∙ ap (set.every (λ j. not (s.val y j) && not (s.kid y j))) (sym w)
    ∙ sym (every_as is_hidden (span (suc l)) (tree_at (suc l) s y) (λ j. not (s.val y j) && not (s.kid y j))
    (λ j h. ap (λ (i : ℕ). is_hidden (slot_at (tree_at l s) s y i)) (mod-eq_of_lt h) ∙ hidden_slot (tree_at l s) s y j))

-- then nothing is below the node; below a leaf there is nothing anyway
pub bare_kids : (n : ℕ) (s : St) (l y : ℕ) → At n s l y → (0 < l → bare_s (below l) s y ≡ true) → Fork s y → (j : ℕ) → j < 64 → s.kid y j ≡ false
unfolding bare_s
bare_kids n s zero y h e f j q = absurd (leaf_ends n s y h f)
bare_kids n s (suc l) y h e f j q = not-true (s.kid y j) (every_elim (λ j. not (s.kid y j)) 64 (and_both (none_s s.val y) (none_s s.kid y) (e (omega arith))).1 j q)
