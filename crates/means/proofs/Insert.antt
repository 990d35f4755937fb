-- The insert walk on a sound pool with the cells that it needs does the meaning's insert and nothing else. Assumes nothing.
use mathlib.Core.Path.{◌≡◌, refl, sym, ap, ◌∙◌, subst}
use mathlib.Core.Bool.{Bool, true, false, false≢true}
use mathlib.Core.List.{[]}
use Prim.Native.Nat.{ℕ, zero, suc, ◌+◌, ◌<◌, ◌≤◌}
use native.Mathlib.Omega.{arith}
use lib.ListN.{length}
use borrow.Author.Tests.{lt-ltb}
use Rattle.floats.specs.Value.{is_finite, equal, far}
use Rattle.floats.proofs.Words.{on_case}
use Rattle.floats.proofs.Finite.{finite_far}
use Rattle.grid.specs.Geometry.{Point, slot_of}
use Rattle.grid.specs.Node.{branch, tile}
use Rattle.grid.specs.Voxel.{insert_s, insert}
use Rattle.grid.proofs.Geometry.{slot_lt}
use Rattle.nodes.specs.State.{St, Link, Sound}
use Rattle.nodes.specs.Change.{next, attach_s}
use Rattle.nodes.specs.Walk.{branching, below, view_s, reach_s, need_insert_r, ready_s, insert_m}
use Rattle.means.specs.Level.{levels, span, tree_at, filled, At, Turned}
use Rattle.means.proofs.Levels.{leaf_ends, at_link, at_down, at_finite}
use Rattle.means.proofs.Turned.{idle, ruled, lift}
use Rattle.means.proofs.Slots.{tree_branch, tree_tile, tree_hidden}
use Rattle.means.proofs.Lookup.{need_insert_most}
use Rattle.means.proofs.Put.{put_turned}
use Rattle.means.proofs.Attach.{ready_sound}
use Rattle.means.proofs.Grow.{grow_sound, grow_at, grow_tree, grow_then}

module _ (n : ℕ) (p : Point) (w : ℕ) where
  abbrev need : ℕ → ℕ → St → ℕ
  need l x s = need_insert_r (reach_s (branching l) (below l) n s x p) w

  -- ---- what the walk does above the leaves, by what the slot is
  module _ (l x : ℕ) (s : St) where
    abbrev k : ℕ
    k = slot_of (branching (suc l)) (below (suc l)) p

    abbrev new : ℕ → Bool → St
    new u a = insert_m (branching l) (below l) n p w (8 + next s) (attach_s x k u a s)

    abbrev done : St
    done = insert_m (branching (suc l)) (below (suc l)) n p w x s

    do_branch : s.kid x k ≡ true → s.slot x k < n → done ≡ insert_m (branching l) (below l) n p w (8 + s.slot x k) s
    unfolding insert_m view_s
    do_branch e h = rw (e, lt-ltb (s.slot x k) n h) refl

    do_same : s.kid x k ≡ false → s.val x k ≡ true → is_finite (s.slot x k) ≡ true → equal (s.slot x k) w ≡ true → done ≡ s
    unfolding insert_m view_s
    do_same e v f q = rw (e, v, f, q) refl

    do_tile : s.kid x k ≡ false → s.val x k ≡ true → is_finite (s.slot x k) ≡ true → equal (s.slot x k) w ≡ false → ready_s n s ≡ true → done ≡ new (s.slot x k) true
    unfolding insert_m view_s
    do_tile e v f q r = rw (e, v, f, q, r) refl

    do_hidden : s.kid x k ≡ false → s.val x k ≡ false → ready_s n s ≡ true → done ≡ new far false
    unfolding insert_m view_s
    do_hidden e v r = rw (e, v, r) refl

    -- the cells it needs there
    need_flat : s.kid x k ≡ false → is_finite (s.slot x k) ≡ true → (s.val x k ≡ true → equal (s.slot x k) w ≡ false)
        → need (suc l) x s ≡ suc (length (below l))
    unfolding reach_s
    need_flat e f q = on_case (s.val x k) (λ v. rw (e, f, v, q v) refl) (λ v. rw (e, f, v) refl)

  abbrev Inserted : ℕ → Type 0
  Inserted l =
      (s : St) (x : ℕ) → Sound n s → At n s l x → need l x s ≤ s.count
      → Turned n l x s (insert_m (branching l) (below l) n p w x s) (insert (levels l) p w (tree_at l s x))

  module _ (fw : is_finite w ≡ true) where
    leaf : Inserted zero
    unfolding insert_m insert insert_s
    leaf s x sd h c = put_turned sd zero x (slot_of 2 [] p) h (λ f. absurd (leaf_ends n s x h f)) w true fw

    module _ (l : ℕ) (ih : Inserted l) (s : St) (x : ℕ) (sd : Sound n s) (h : At n s (suc l) x) where
      abbrev i : ℕ
      i = k l x s

      abbrev Goal : St → Type 0
      Goal r = Turned n (suc l) x s r (insert (levels (suc l)) p w (tree_at (suc l) s x))

      q : i < span (suc l)
      q = slot_lt (branching (suc l)) (below (suc l)) p

      up_branch : s.kid x i ≡ true → need (suc l) x s ≤ s.count → Goal (done l x s)
      unfolding insert insert_s reach_s
      up_branch e c =
          let d : Link n s x i = at_link sd l x i h q e in
          let below_it : reach_s (branching (suc l)) (below (suc l)) n s x p ≡ reach_s (branching l) (below l) n s (8 + s.slot x i) p = rw (e, d.single, lt-ltb (s.slot x i) n d.inside) refl in
          subst Goal (sym (do_branch l x s e d.inside))
          (ruled i _ (lift sd l x i h q e (ih s (8 + s.slot x i) sd (at_down sd l x i h q e) (subst (λ r. need_insert_r r w ≤ s.count) below_it c)))
          (insert_s (levels l) p w) (sym (ap (insert_s (levels l) p w) (tree_branch l s x i q e))))

      up_same : s.kid x i ≡ false → s.val x i ≡ true → equal (s.slot x i) w ≡ true → Goal (done l x s)
      unfolding insert insert_s
      up_same e v eq =
          subst Goal (sym (do_same l x s e v (at_finite sd l x i h q e) eq)) (idle (suc l) x i s (insert_s (levels l) p w) sd h (ap (insert_s (levels l) p w) is ∙ rw eq (sym is)))
        where
          is : tree_at (suc l) s x i ≡ tile (s.slot x i)
          is = tree_tile l s x i q e v

      up_new : (u : ℕ) (a : Bool) → s.kid x i ≡ false → is_finite u ≡ true → suc (length (below l)) ≤ s.count
          → insert_s (levels l) p w (tree_at (suc l) s x i) ≡ branch (insert (levels l) p w (filled l u a)) → Goal (new l x s u a)
      unfolding insert attach_s
      up_new u a e fu c rule =
          let some : 0 < s.count = omega arith in
          let gs : Sound n (attach_s x i u a s) = grow_sound sd l x i u a h q e some fu in
          let ga : At n (attach_s x i u a s) l (8 + next s) = grow_at sd l x i u a h q e some fu in
          ruled i _ (grow_then sd l x i u a h q e some fu (ih (attach_s x i u a s) (8 + next s) gs ga
          (omega (arith, need_insert_most n (attach_s x i u a s) p gs l (8 + next s) ga w))))
          (insert_s (levels l) p w) (ap (λ t. branch (insert (levels l) p w t)) (grow_tree sd l x i u a h q e some fu) ∙ sym rule)

      up_tile : s.kid x i ≡ false → s.val x i ≡ true → equal (s.slot x i) w ≡ false → need (suc l) x s ≤ s.count → Goal (done l x s)
      unfolding insert insert_s
      up_tile e v eq c =
          let fin : is_finite (s.slot x i) ≡ true = at_finite sd l x i h q e in
          let m : need (suc l) x s ≡ suc (length (below l)) = need_flat l x s e fin (λ _. eq) in
          subst Goal (sym (do_tile l x s e v fin eq (ready_sound sd (omega arith))))
          (up_new (s.slot x i) true e fin (omega arith)
          (ap (insert_s (levels l) p w) (tree_tile l s x i q e v) ∙ rw eq refl))

      up_hidden : s.kid x i ≡ false → s.val x i ≡ false → need (suc l) x s ≤ s.count → Goal (done l x s)
      unfolding insert insert_s far
      up_hidden e v c =
          let fin : is_finite (s.slot x i) ≡ true = at_finite sd l x i h q e in
          let m : need (suc l) x s ≡ suc (length (below l)) =
          need_flat l x s e fin (λ t. absurd (false≢true (sym v ∙ t))) in
          subst Goal (sym (do_hidden l x s e v (ready_sound sd (omega arith))))
          (up_new far false e finite_far (omega arith)
          (ap (insert_s (levels l) p w) (tree_hidden l s x i q e v)))

      up : need (suc l) x s ≤ s.count → Goal (done l x s)
      up c = on_case (s.kid x i) (λ e. up_branch e c)
          (λ e. on_case (s.val x i) (λ v. on_case (equal (s.slot x i) w) (λ eq. up_same e v eq) (λ eq. up_tile e v eq c)) (λ v. up_hidden e v c))

    inserted : (l : ℕ) → Inserted l
    inserted zero = leaf
    inserted (suc l) = up l (inserted l)

    pub insert_right : (l : ℕ) (s : St) (x : ℕ) → Sound n s → At n s l x → need_insert_r (reach_s (branching l) (below l) n s x p) w ≤ s.count
        → Turned n l x s (insert_m (branching l) (below l) n p w x s) (insert (levels l) p w (tree_at l s x))
    insert_right l = inserted l
