-- The sign fill of a node of a sound pool, child first, is the meaning's. Assumes nothing.
use mathlib.Core.Path.{◌≡◌, refl, sym, ap, ◌∙◌, fun_ext}
use mathlib.Core.List.{[]}
use Prim.Native.Nat.{ℕ, zero, suc, ◌+◌, ◌<◌}
use Rattle.floats.proofs.Words.{on_case}
use Rattle.grid.specs.Node.{slot_ind, SlotOf, changed}
use Rattle.grid.specs.SignFill.{filled_rows, fill_signs, fill_signs_s}
use Rattle.nodes.specs.State.{St, Sound}
use Rattle.nodes.specs.Each.{each_s}
use Rattle.nodes.specs.Walk.{branching, below}
use Rattle.signs.specs.Signs.{down_s, fill_signs_m}
use Rattle.means.specs.Level.{levels, span, tree_at, At, Turned}
use Rattle.means.proofs.Levels.{at_down}
use Rattle.means.proofs.Turned.{then, into, idle, ruled, lift}
use Rattle.means.proofs.Slots.{tree_branch, tree_tile, tree_hidden}
use Rattle.means.proofs.Each.{each}
use Rattle.means.proofs.SlotSigns.{child_is}
use Rattle.means.proofs.Rows.{rows_right}

-- a voxel has nothing below it
voxel_same : (a : SlotOf []) → a ≡ fill_signs_s [] a
unfolding fill_signs
voxel_same a = slot_ind (λ a. a ≡ fill_signs_s [] a) (λ c. refl) (λ v. refl) (λ v. refl) a

module _ (n : ℕ) where
  abbrev Filled : ℕ → Type 0
  Filled l = (s : St) (x : ℕ) → Sound n s → At n s l x → Turned n l x s (fill_signs_m (branching l) (below l) n x s) (fill_signs (levels l) (tree_at l s x))

  leaf : Filled zero
  unfolding fill_signs_m fill_signs
  leaf s x sd h = into (rows_right zero x sd h) (ap (filled_rows 2 []) (fun_ext (λ i. voxel_same (tree_at zero s x i))))

  module _ (l : ℕ) (ih : Filled l) (x : ℕ) where
    abbrev go : ℕ → St → St
    go = fill_signs_m (branching l) (below l) n

    -- the child of one slot
    at_slot : (k : ℕ) → k < span (suc l) → (s : St) → Sound n s → At n s (suc l) x
        → Turned n (suc l) x s (down_s go n x k s) (changed (span (suc l)) k (fill_signs_s (levels l)) (tree_at (suc l) s x))
    at_slot k q s sd h = on_case (s.kid x k)
        (λ e. rw (child_is sd l x k h q ∙ e)
        (ruled k _ (lift sd l x k h q e (ih s (8 + s.slot x k) sd (at_down sd l x k h q e))) (fill_signs_s (levels l)) (sym (ap (fill_signs_s (levels l)) (tree_branch l s x k q e)))))
        (λ e. rw (child_is sd l x k h q ∙ e) (idle (suc l) x k s (fill_signs_s (levels l)) sd h (on_case (s.val x k)
        (λ v. let i = tree_tile l s x k q e v in ap (fill_signs_s (levels l)) i ∙ sym i)
        (λ v. let i = tree_hidden l s x k q e v in ap (fill_signs_s (levels l)) i ∙ sym i))))

    up : (s : St) → Sound n s → At n s (suc l) x → Turned n (suc l) x s (fill_signs_m (branching (suc l)) (below (suc l)) n x s) (fill_signs (levels (suc l)) (tree_at (suc l) s x))
    unfolding fill_signs_m fill_signs
    up s sd h =
        let a : Turned n (suc l) x s (each_s (down_s go n x) (span (suc l)) s) (λ j. fill_signs_s (levels l) (tree_at (suc l) s x j)) =
        each (suc l) x (down_s go n x) (fill_signs_s (levels l)) at_slot s sd h in
        into (then a (rows_right (suc l) x a.sound a.at)) (ap (filled_rows (branching (suc l)) (below (suc l))) a.grid)

  filled : (l : ℕ) → Filled l
  filled zero = leaf
  filled (suc l) = λ s x sd h. up l (filled l) x s sd h

pub fill_signs_right : {n : ℕ} {s : St} (l x : ℕ) → Sound n s → At n s l x → Turned n l x s (fill_signs_m (branching l) (below l) n x s) (fill_signs (levels l) (tree_at l s x))
fill_signs_right {n} {s} l x = filled n l s x
