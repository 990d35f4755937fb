-- A tree is read from its own nodes alone, and on a sound pool no two branches share a node. Assumes nothing.
use mathlib.Core.Path.{◌≡◌, refl, sym, ap, ◌∙◌, subst, fun_ext}
use mathlib.Core.Bool.{true, cond}
use mathlib.Core.Logic.{◌≢◌, ◌⊎◌, inl, inr}
use Prim.Native.Nat.{ℕ, zero, suc, ◌+◌, ◌-◌, ◌/◌, ◌%◌, ◌<◌, ◌≤◌}
use native.Mathlib.Decide.{ℕ_discrete}
use native.Mathlib.Omega.{arith}
use native.Mathlib.Nat.{mod-lt}
use lib.Dec.{ltb}
use borrow.Author.Tests.{lt-ltb, le-ltb}
use Rattle.grid.specs.Node.{SlotOf, changed}
use Rattle.grid.proofs.Places.{changed_is}
use Rattle.nodes.specs.State.{St, linked, Used, Live, Link, Sound, slot_at, tree}
use Rattle.nodes.specs.Walk.{below}
use Rattle.means.specs.Level.{span, tree_at, At, In, Equal, Same}
use Rattle.means.proofs.Slots.{flat_same, slot_same}
use Rattle.means.proofs.Levels.{wide_top, wide_cell, wide_most, tag_of, span_pos, at_wide, at_inside, at_live, at_link, at_down}

-- ---- the frame
pub in_own : (l : ℕ) (s : St) (x : ℕ) → In l s x x
in_own zero s x = refl
in_own (suc l) s x = inl refl

pub tree_frame : (l : ℕ) (s r : St) (x : ℕ) → ((y : ℕ) → In l s x y → Same s r y) → tree_at l s x ≡ tree_at l r x
unfolding tree
tree_frame zero s r x h = fun_ext (λ k. flat_same (h x refl (k % span zero)))
tree_frame (suc l) s r x h = fun_ext (λ k.
    slot_same (h x (inl refl) (k % span (suc l))) (tree_at l s) (tree_at l r)
    (λ e. tree_frame l s r (8 + s.slot x (k % span (suc l))) (λ y i. h y (inr (k % span (suc l), mod-lt k (span_pos (suc l)), e, i)))))

-- and has the same nodes
pub in_frame : (l : ℕ) (s r : St) (x : ℕ) → ((y : ℕ) → In l s x y → Same s r y) → (y : ℕ) → In l r x y → In l s x y
in_frame zero s r x h y i = i
in_frame (suc l) s r x h y (inl i) = inl i
in_frame (suc l) s r x h y (inr (k, q, t, i)) =
    let e : Equal s r x k = h x (inl refl) k in
    let t' : s.kid x k ≡ true = e.kid ∙ t in
    inr (k, q, t', in_frame l s r (8 + s.slot x k) (λ z j. h z (inr (k, q, t', j))) y (subst (λ (c : ℕ). In l r (8 + c) y) (sym e.slot) i))

-- ---- a node of which at most slot k has changed, and no other branch
module _ (l : ℕ) (s r : St) (x k : ℕ) (beside : (j : ℕ) → j ≢ k → Equal s r x j)
    (aside : (j : ℕ) → j < span (suc l) → j ≢ k → s.kid x j ≡ true → (y : ℕ) → In l s (8 + s.slot x j) y → Same s r y) where
  pub slot_tree : (t : SlotOf (below (suc l))) → slot_at (tree_at l r) r x k ≡ t → tree_at (suc l) r x ≡ changed (span (suc l)) k (λ _. t) (tree_at (suc l) s x)
  unfolding tree
  slot_tree t e = changed_is (span (suc l)) k (λ _. t) (tree_at (suc l) s x) (tree_at (suc l) r x)
      (λ m p. subst (λ (j : ℕ). slot_at (tree_at l r) r x j ≡ t) (sym p) e)
      (λ m ne. sym (slot_same (beside (m % span (suc l)) ne) (tree_at l s) (tree_at l r)
      (λ on. tree_frame l s r (8 + s.slot x (m % span (suc l))) (aside (m % span (suc l)) (mod-lt m (span_pos (suc l))) ne on))))

  -- what is in its tree now was there, or is below slot k
  pub slot_in : (y : ℕ) → In (suc l) r x y → In (suc l) s x y ⊎ ((r.kid x k ≡ true) × In l r (8 + r.slot x k) y)
  slot_in y (inl i) = inl (inl i)
  slot_in y (inr (j, q, on, i)) = go (ℕ_discrete j k)
    where
      go : Dec (j ≡ k) → In (suc l) s x y ⊎ ((r.kid x k ≡ true) × In l r (8 + r.slot x k) y)
      go (yes p) = inr (sym (ap (r.kid x) p) ∙ on, subst (λ (j : ℕ). In l r (8 + r.slot x j) y) p i)
      go (no ne) =
          let e : Equal s r x j = beside j ne in
          let on' : s.kid x j ≡ true = e.kid ∙ on in
          inl (inr (j, q, on', in_frame l s r (8 + s.slot x j) (aside j q ne on') y (subst (λ (c : ℕ). In l r (8 + c) y) (sym e.slot) i)))

-- ---- separation

-- the use mark of the cell of level l in whose tree node y is: its own, or that of the node that its own names
abbrev above : ℕ → St → ℕ → ℕ
above zero s y = s.tag (y - 8)
above (suc l) s y = cond (ltb (s.tag (y - 8)) 69632) (s.tag (y - 8)) (s.tag ((s.tag (y - 8) - 65536) / 512 - 8))

-- node y is a used cell below slot k of node x, which its use mark tells
pub record Under (n : ℕ) (s : St) (l x k y : ℕ) : Type 0 where
  pub cell : 8 ≤ y
  pub inside : y < 8 + n
  pub used : Used s (y - 8)
  pub found : above l s y ≡ linked x k

module _ {n : ℕ} {s : St} (sd : Sound n s) where
  pub under : (l x k : ℕ) → At n s (suc l) x → k < span (suc l) → s.kid x k ≡ true → (y : ℕ) → In l s (8 + s.slot x k) y → Under n s l x k y
  under zero x k h q e y i =
      let d : Link n s x k = at_link sd zero x k h q e in
      let t : s.tag (y - 8) ≡ linked x k = ap (λ (z : ℕ). s.tag (z - 8)) i ∙ tag_of s (s.slot x k) ∙ d.tagged in
      record { cell = omega (arith, i); inside = omega (arith, i, d.inside); used = omega arith; found = t }
  under (suc zero) x k h q e y (inl i) =
      let d : Link n s x k = at_link sd 1 x k h q e in
      let t : s.tag (y - 8) ≡ linked x k = ap (λ (z : ℕ). s.tag (z - 8)) i ∙ tag_of s (s.slot x k) ∙ d.tagged in
      let w : linked x k < 69632 = omega (arith, h.0, wide_top x h.0, at_wide n s 2 x h) in
      record { cell = omega (arith, i); inside = omega (arith, i, d.inside); used = omega arith; found = rw (lt-ltb (s.tag (y - 8)) 69632 (omega arith)) t }
  under (suc zero) x k h q e y (inr (j, qj, ej, i)) =
      let d : Link n s x k = at_link sd 1 x k h q e in
      let m : At n s 1 (8 + s.slot x k) = at_down sd 1 x k h q e in
      let u : Under n s zero (8 + s.slot x k) j y = under zero (8 + s.slot x k) j m qj ej y i in
      let t : s.tag (y - 8) ≡ linked (8 + s.slot x k) j = u.found in
      let wj : j < 512 = omega (arith, at_wide n s 1 (8 + s.slot x k) m, wide_cell (8 + s.slot x k) m.0) in
      let p : (s.tag (y - 8) - 65536) / 512 - 8 ≡ s.slot x k = omega arith in
      record {
        cell = u.cell;
        inside = u.inside;
        used = u.used;
        found = rw (le-ltb (s.tag (y - 8)) 69632 (omega arith)) (ap s.tag p ∙ d.tagged);
      }
  under (suc (suc l)) x k h q e y i = absurd (omega (arith, h.1))

  -- no node below a branch is a node of the branch's own level, nor the node itself
  pub level_apart : (l x y k : ℕ) → At n s (suc l) x → At n s (suc l) y → k < span (suc l) → s.kid y k ≡ true → (z : ℕ) → In l s (8 + s.slot y k) z → z ≢ x
  level_apart zero x y k h h' q e z i p =
      let t : s.tag (x - 8) ≡ linked y k = ap (λ (u : ℕ). s.tag (u - 8)) (sym p) ∙ (under zero y k h' q e z i).found in
      omega (arith, h'.0, h.2.1)
  level_apart (suc l) x y k h h' q e z i p = omega (arith, h.0, (under (suc l) y k h' q e z i).cell)

  pub own_apart : (l x k : ℕ) → At n s (suc l) x → k < span (suc l) → s.kid x k ≡ true → (y : ℕ) → In l s (8 + s.slot x k) y → y ≢ x
  own_apart l x k h = level_apart l x x k h h

  -- two branches that reach a common node are one
  pub branch_apart : (l x k x' k' : ℕ) → At n s (suc l) x → At n s (suc l) x' → k < span (suc l) → k' < span (suc l) → s.kid x k ≡ true → s.kid x' k' ≡ true
      → (y : ℕ) → In l s (8 + s.slot x k) y → In l s (8 + s.slot x' k') y → (x ≡ x') × (k ≡ k')
  branch_apart l x k x' k' h h' q q' e e' y i i' =
      let f : linked x k ≡ linked x' k' = sym (under l x k h q e y i).found ∙ (under l x' k' h' q' e' y i').found in
      let w : span (suc l) ≤ 512 = subst (λ (m : ℕ). m ≤ 512) (at_wide n s (suc l) x h) (wide_most x) in
      (omega arith, omega arith)

  -- two nodes of one level that reach a common node are one
  pub node_apart : (l x x' : ℕ) → At n s l x → At n s l x' → (y : ℕ) → In l s x y → In l s x' y → x ≡ x'
  node_apart zero x x' h h' y i i' = sym i ∙ i'
  node_apart (suc l) x x' h h' y (inl i) (inl i') = sym i ∙ i'
  node_apart (suc l) x x' h h' y (inl i) (inr (k, q, e, i')) = absurd (level_apart l x x' k h h' q e y i' i)
  node_apart (suc l) x x' h h' y (inr (k, q, e, i)) (inl i') = absurd (level_apart l x' x k h' h q e y i i')
  node_apart (suc l) x x' h h' y (inr (k, q, e, i)) (inr (k', q', e', i')) = (branch_apart l x k x' k' h h' q q' e e' y i i').0

  -- a node in a tree counts
  pub in_there : (l x : ℕ) → At n s l x → (y : ℕ) → In l s x y → (y < 8 + n) × Live s y
  in_there zero x h y i = (omega (arith, i, at_inside n s zero x h), subst (Live s) (sym i) (at_live n s zero x h))
  in_there (suc l) x h y (inl i) = (omega (arith, i, at_inside n s (suc l) x h), subst (Live s) (sym i) (at_live n s (suc l) x h))
  in_there (suc l) x h y (inr (k, q, e, i)) = let u : Under n s l x k y = under l x k h q e y i in (u.inside, inr (u.cell, u.used))
