-- The remove walk on a sound pool with the cells that it needs does the meaning's remove and nothing else. Assumes nothing.
use mathlib.Core.Path.{◌≡◌, refl, sym, ap, ◌∙◌, subst}
use mathlib.Core.Bool.{true, false}
use mathlib.Core.List.{[]}
use Prim.Native.Nat.{ℕ, zero, suc, ◌+◌, ◌<◌, ◌≤◌}
use native.Mathlib.Omega.{arith}
use lib.ListN.{length}
use borrow.Author.Tests.{lt-ltb}
use Rattle.floats.specs.Value.{is_finite}
use Rattle.floats.proofs.Words.{on_case}
use Rattle.grid.specs.Geometry.{Point, slot_of}
use Rattle.grid.specs.Node.{branch, hidden, on_slot}
use Rattle.grid.specs.Voxel.{remove_s, remove}
use Rattle.grid.proofs.Geometry.{slot_lt}
use Rattle.nodes.specs.State.{St, Link, Sound, flat}
use Rattle.nodes.specs.Change.{next, attach_s}
use Rattle.nodes.specs.Walk.{branching, below, view_s, reach_s, need_remove_r, ready_s}
use Rattle.means.specs.Level.{levels, span, tree_at, filled, At, Turned}
use Rattle.nodes.specs.Remove.{shut_m, remove_m}
use Rattle.means.proofs.Levels.{leaf_ends, at_link, at_down, at_finite, at_leaf_finite}
use Rattle.means.proofs.Turned.{idle, ruled}
use Rattle.means.proofs.Slots.{tree_leaf, tree_branch, tree_tile, tree_hidden}
use Rattle.means.proofs.Lookup.{need_remove_most}
use Rattle.means.proofs.Put.{hide_turned}
use Rattle.means.proofs.Attach.{ready_sound}
use Rattle.means.proofs.Grow.{grow_sound, grow_at, grow_tree, grow_then}
use Rattle.means.proofs.Drop.{shut_turned}

module _ (n : ℕ) (p : Point) where
  abbrev need : ℕ → ℕ → St → ℕ
  need l x s = need_remove_r (reach_s (branching l) (below l) n s x p)

  -- ---- what the walk does above the leaves, by what the slot is
  module _ (l x : ℕ) (s : St) where
    abbrev k : ℕ
    k = slot_of (branching (suc l)) (below (suc l)) p

    abbrev done : St
    done = remove_m (branching (suc l)) (below (suc l)) n p x s

    abbrev new : ℕ → St
    new u = remove_m (branching l) (below l) n p (8 + next s) (attach_s x k u true s)

    do_branch : s.kid x k ≡ true → s.slot x k < n → done ≡ shut_m (below l) n x k (remove_m (branching l) (below l) n p (8 + s.slot x k) s)
    unfolding remove_m view_s
    do_branch e h = rw (e, lt-ltb (s.slot x k) n h) refl

    do_tile : s.kid x k ≡ false → s.val x k ≡ true → is_finite (s.slot x k) ≡ true → ready_s n s ≡ true → done ≡ new (s.slot x k)
    unfolding remove_m view_s
    do_tile e v f r = rw (e, v, f, r) refl

    do_hidden : s.kid x k ≡ false → s.val x k ≡ false → done ≡ s
    unfolding remove_m view_s
    do_hidden e v = rw (e, v) refl

    need_tile : s.kid x k ≡ false → is_finite (s.slot x k) ≡ true → s.val x k ≡ true
        → need (suc l) x s ≡ suc (length (below l))
    unfolding reach_s
    need_tile e f v = rw (e, f, v) refl

  abbrev Removed : ℕ → Type 0
  Removed l =
      (s : St) (x : ℕ) → Sound n s → At n s l x → need l x s ≤ s.count
      → Turned n l x s (remove_m (branching l) (below l) n p x s) (remove (levels l) p (tree_at l s x))

  leaf : Removed zero
  unfolding remove_m remove remove_s
  leaf s x sd h c =
      ruled i _ (hide_turned sd zero x i h (λ f. absurd (leaf_ends n s x h f)) (at_leaf_finite sd x i h q)) (remove_s [] p)
      (sym (ap (on_slot {C = ⊥} branch hidden hidden) (tree_leaf s x i q) ∙ on_flat))
    where
      i : ℕ
      i = slot_of 2 [] p

      q : i < span zero
      q = slot_lt 2 [] p

      on_flat : on_slot {C = ⊥} branch hidden hidden (flat s x i) ≡ hidden (s.slot x i)
      on_flat = on_case (s.val x i) (λ v. rw v refl) (λ v. rw v refl)

  module _ (l : ℕ) (ih : Removed l) (s : St) (x : ℕ) (sd : Sound n s) (h : At n s (suc l) x) where
    abbrev i : ℕ
    i = k l x s

    abbrev Goal : St → Type 0
    Goal r = Turned n (suc l) x s r (remove (levels (suc l)) p (tree_at (suc l) s x))

    q : i < span (suc l)
    q = slot_lt (branching (suc l)) (below (suc l)) p

    up_branch : s.kid x i ≡ true → need (suc l) x s ≤ s.count → Goal (done l x s)
    unfolding reach_s remove remove_s
    up_branch e c =
        let d : Link n s x i = at_link sd l x i h q e in
        let below_it : reach_s (branching (suc l)) (below (suc l)) n s x p ≡ reach_s (branching l) (below l) n s (8 + s.slot x i) p = rw (e, d.single, lt-ltb (s.slot x i) n d.inside) refl in
        subst Goal (sym (do_branch l x s e d.inside))
        (ruled i _ (shut_turned sd l x i h q e (ih s (8 + s.slot x i) sd (at_down sd l x i h q e) (subst (λ r. need_remove_r r ≤ s.count) below_it c)))
        (remove_s (levels l) p) (sym (ap (remove_s (levels l) p) (tree_branch l s x i q e))))

    up_hidden : s.kid x i ≡ false → s.val x i ≡ false → Goal (done l x s)
    unfolding remove remove_s
    up_hidden e v = subst Goal (sym (do_hidden l x s e v)) (idle (suc l) x i s (remove_s (levels l) p) sd h (ap (remove_s (levels l) p) is ∙ sym is))
      where
        is : tree_at (suc l) s x i ≡ hidden (s.slot x i)
        is = tree_hidden l s x i q e v

    up_new : (u : ℕ) → s.kid x i ≡ false → is_finite u ≡ true → suc (length (below l)) ≤ s.count
        → remove_s (levels l) p (tree_at (suc l) s x i) ≡ branch (remove (levels l) p (filled l u true)) → Goal (new l x s u)
    unfolding remove attach_s
    up_new u e fu c rule =
        let some : 0 < s.count = omega arith in
        let gs : Sound n (attach_s x i u true s) = grow_sound sd l x i u true h q e some fu in
        let ga : At n (attach_s x i u true s) l (8 + next s) = grow_at sd l x i u true h q e some fu in
        ruled i _ (grow_then sd l x i u true h q e some fu
        (ih (attach_s x i u true s) (8 + next s) gs ga (omega (arith, need_remove_most n (attach_s x i u true s) p gs l (8 + next s) ga))))
        (remove_s (levels l) p) (ap (λ t. branch (remove (levels l) p t)) (grow_tree sd l x i u true h q e some fu) ∙ sym rule)

    up_tile : s.kid x i ≡ false → s.val x i ≡ true → need (suc l) x s ≤ s.count → Goal (done l x s)
    unfolding remove remove_s
    up_tile e v c =
        let fin : is_finite (s.slot x i) ≡ true = at_finite sd l x i h q e in
        let m : need (suc l) x s ≡ suc (length (below l)) = need_tile l x s e fin v in
        subst Goal (sym (do_tile l x s e v fin (ready_sound sd (omega arith))))
        (up_new (s.slot x i) e fin (omega arith) (ap (remove_s (levels l) p) (tree_tile l s x i q e v)))

    up : need (suc l) x s ≤ s.count → Goal (done l x s)
    up c = on_case (s.kid x i) (λ e. up_branch e c) (λ e. on_case (s.val x i) (λ v. up_tile e v c) (λ v. up_hidden e v))

  removed : (l : ℕ) → Removed l
  removed zero = leaf
  removed (suc l) = up l (removed l)

  pub remove_right : (l : ℕ) (s : St) (x : ℕ) → Sound n s → At n s l x → need_remove_r (reach_s (branching l) (below l) n s x p) ≤ s.count
      → Turned n l x s (remove_m (branching l) (below l) n p x s) (remove (levels l) p (tree_at l s x))
  remove_right l = removed l
