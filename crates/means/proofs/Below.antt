-- What is read of all that hangs below a node of a sound pool is the meaning's: whether a branch is empty, and the cells reached. Assumes nothing.
use mathlib.Core.Path.{◌≡◌, refl, sym, ap, ap₂, ◌∙◌}
use mathlib.Core.Bool.{Bool, true, false, not, ◌||◌}
use mathlib.Core.List.{List, [], ◌∷◌}
use Prim.Native.Nat.{ℕ, zero, suc, ◌+◌, ◌%◌, ◌<◌}
use native.Mathlib.Omega.{arith}
use borrow.Author.Tests.{lt-ltb}
use Rattle.floats.proofs.Words.{on_case}
use Rattle.grid.specs.Whole.{reach, hollow, hollow_s, has_hollow}
use Rattle.grid.proofs.Places.{every_all, sum_same}
use Rattle.nodes.specs.State.{St, Sound, flat, tree}
use Rattle.nodes.specs.Walk.{branching, below}
use Rattle.trees.specs.Below.{hollow_at, hollow_m, reached_at, reached_m}
use Rattle.means.specs.Level.{span, tree_at, At}
use Rattle.means.proofs.Levels.{wide_cell, at_wide, at_link, at_down}
use Rattle.means.proofs.Slots.{slot_flat, tree_slot, tree_branch}
use Rattle.means.proofs.Bare.{every_as, bare_is}
use Rattle.means.proofs.Count.{reach_leaf, reach_tree}

module _ {n : ℕ} {s : St} (sd : Sound n s) where
  -- ---- the cells
  pub reached_is : (l x : ℕ) → At n s l x → reached_m (branching l) (below l) n s x ≡ reach (branching l) (below l) (tree_at l s x)
  unfolding reached_m
  reached_is zero x h = sym (reach_leaf s (branching zero) x)
  reached_is (suc l) x h =
      sum_same (span (suc l)) (reached_at (reached_m (branching l) (below l) n s) n s x) _
      (λ k q. on_case (s.kid x k)
      (λ e. rw (e, lt-ltb (s.slot x k) n (at_link sd l x k h q e).inside) (ap suc (reached_is l (8 + s.slot x k) (at_down sd l x k h q e))))
      (λ e. rw e refl))
      ∙ sym (reach_tree s (branching (suc l)) (branching l) (below l) x)

  -- ---- an empty branch

  -- a slot that is no branch has none
  flat_solid : (bs : List ℕ) (x k : ℕ) → hollow_s bs (flat s x k) ≡ false
  flat_solid bs x k = on_case (s.val x k) (λ v. rw v refl) (λ v. rw v refl)

  abbrev Hollow : ℕ → Type 0
  Hollow l = (x : ℕ) → At n s l x → hollow_m (branching l) (below l) n s x ≡ has_hollow (branching l) (below l) (tree_at l s x)

  at_slot : (l : ℕ) → Hollow l → (x k : ℕ) → At n s (suc l) x → k < span (suc l)
      → hollow_s (below (suc l)) (tree_at (suc l) s x k) ≡ hollow_at (hollow_m (branching l) (below l) n s) (below l) n s x k
  unfolding hollow has_hollow
  at_slot l ih x k h q = on_case (s.kid x k) below_it (λ e. ap (hollow_s (below (suc l))) (tree_slot l s x k q ∙ slot_flat (tree_at l s) s x k e) ∙ flat_solid (below (suc l)) x k ∙ sym (rw e refl))
    where
      y : ℕ
      y = 8 + s.slot x k

      below_it : s.kid x k ≡ true → hollow_s (below (suc l)) (tree_at (suc l) s x k) ≡ hollow_at (hollow_m (branching l) (below l) n s) (below l) n s x k
      below_it e =
          let at : At n s l y = at_down sd l x k h q e in
          ap (hollow_s (below (suc l))) (tree_branch l s x k q e)
          ∙ sym (rw (e, lt-ltb (s.slot x k) n (at_link sd l x k h q e).inside)
          (ap₂ (λ (a b : Bool). a || b) (bare_is l s y (sym (at_wide n s l y at) ∙ wide_cell y (omega arith))) (ih y at)))

  pub hollow_is : (l x : ℕ) → At n s l x → hollow_m (branching l) (below l) n s x ≡ has_hollow (branching l) (below l) (tree_at l s x)
  unfolding hollow_m has_hollow tree
  hollow_is zero x h = ap not (sym (every_all (λ t. not (hollow_s [] t)) (span zero) (tree_at zero s x) (λ k. ap not (flat_solid [] x (k % span zero)))))
  hollow_is (suc l) x h =
      ap not (sym (every_as (λ t. not (hollow_s (below (suc l)) t)) (span (suc l)) (tree_at (suc l) s x)
      (λ k. not (hollow_at (hollow_m (branching l) (below l) n s) (below l) n s x k)) (λ k q. ap not (at_slot l (hollow_is l) x k h q))))

  -- of a seat
  pub hollow_seat : (t : ℕ) → t < 8 → hollow_m 3 (2 ∷ 2 ∷ []) n s t ≡ has_hollow 3 (2 ∷ 2 ∷ []) (tree_at 2 s t)
  hollow_seat t h = hollow_is 2 t (h, refl)
