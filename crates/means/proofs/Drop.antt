-- A node below a branch has changed: where it is bare now, or is a leaf that is dropped, the branch is released, and the slot is hidden with +far; and the tests that the code makes are passed.
-- Assumes nothing.
use mathlib.Core.Path.{◌≡◌, refl, sym, ap, ◌∙◌, subst}
use mathlib.Core.Bool.{true, false}
use Prim.Native.Nat.{ℕ, suc, ◌+◌, ◌<◌}
use native.Mathlib.Omega.{arith}
use borrow.Author.Tests.{lt-ltb}
use Rattle.floats.specs.Value.{far}
use Rattle.floats.proofs.Words.{on_case}
use Rattle.grid.specs.Node.{Node, branch, hidden, is_hidden, changed, every}
use Rattle.grid.specs.Voxel.{kept}
use Rattle.nodes.specs.State.{St, Fork, Sound}
use Rattle.nodes.specs.Change.{release_s}
use Rattle.nodes.specs.Walk.{branching, below}
use Rattle.nodes.specs.Remove.{bare_s, shut_m}
use Rattle.nodes.specs.Wipe.{drop_m}
use Rattle.means.specs.Level.{levels, span, tree_at, At, Kept, Turned}
use Rattle.means.proofs.Levels.{wide_cell, at_wide, at_link}
use Rattle.means.proofs.Turned.{over, own, lift}
use Rattle.means.proofs.Bare.{bare_is, bare_kids}
use Rattle.means.proofs.Prune.{prune_room, prune_turned}

module _ {n : ℕ} {s : St} (sd : Sound n s) (l x k : ℕ) (h : At n s (suc l) x) (q : k < span (suc l)) (e : s.kid x k ≡ true)
    {r : St} {g : Node (levels l)} (a : Turned n l (8 + s.slot x k) s r g) where
  o : Kept s r x
  o = own sd l x k h q e a

  b : Turned n (suc l) x s r (changed (span (suc l)) k (λ _. branch g) (tree_at (suc l) s x))
  b = lift sd l x k h q e a

  on : r.kid x k ≡ true
  on = sym (o.slots k).kid ∙ e

  inside : r.slot x k < n
  inside = (at_link a.sound l x k b.at q on).inside

  at : At n r l (8 + r.slot x k)
  at = subst (λ (c : ℕ). At n r l (8 + c)) (o.slots k).slot a.at

  -- the test of the masks is the meaning's
  test : bare_s (below l) r (8 + r.slot x k) ≡ every is_hidden (span l) g
  test =
      bare_is l r (8 + r.slot x k) (sym (at_wide n r l (8 + r.slot x k) at) ∙ wide_cell (8 + r.slot x k) (omega arith))
      ∙ ap (every is_hidden (span l)) (ap (λ (c : ℕ). tree_at l r (8 + c)) (sym (o.slots k).slot) ∙ a.grid)

  module _ (bare : 0 < l → every is_hidden (span l) g ≡ true) where
    none : Fork r (8 + r.slot x k) → (j : ℕ) → j < 64 → r.kid (8 + r.slot x k) j ≡ false
    none = bare_kids n r l (8 + r.slot x k) at (λ z. test ∙ bare z)

    room : r.count < n
    room = prune_room a.sound l x k b.at q on none

    pub drop_is : drop_m n x k r ≡ release_s x k r
    drop_is = rw (lt-ltb (r.slot x k) n inside, lt-ltb r.count n room) refl

    pub drop_turned : Turned n (suc l) x s (release_s x k r) (changed (span (suc l)) k (λ _. hidden far) (tree_at (suc l) s x))
    drop_turned = over k _ b (hidden far) (prune_turned a.sound l x k b.at q on none)

  -- released where it is bare
  pub shut_turned : Turned n (suc l) x s (shut_m (below l) n x k r) (changed (span (suc l)) k (λ _. kept (branching l) (below l) g) (tree_at (suc l) s x))
  unfolding kept
  shut_turned = on_case (every is_hidden (span l) g)
      (λ z. rw (lt-ltb (r.slot x k) n inside, test ∙ z, lt-ltb r.count n (room (λ _. z)), z) (drop_turned (λ _. z)))
      (λ z. rw (lt-ltb (r.slot x k) n inside, test ∙ z, z) b)
