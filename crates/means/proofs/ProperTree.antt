-- The trees of a sound pool are proper: each node is read modulo its size, and every value is finite. Assumes nothing.
use mathlib.Core.Path.{◌≡◌, sym, subst}
use mathlib.Core.Bool.{true}
use mathlib.Core.List.{List, [], ◌∷◌}
use mathlib.Core.Logic.{inl, inr}
use Prim.Native.Nat.{ℕ, ◌+◌, ◌-◌, ◌%◌, ◌<◌, ◌≤◌}
use native.Mathlib.Nat.{mod-lt}
use native.Mathlib.Omega.{arith}
use lib.Dec.{ltb}
use borrow.Table.Steps.{cases}
use Rattle.floats.specs.Value.{is_finite}
use Rattle.grid.specs.Node.{branch, tile, hidden, size, Proper, ProperS}
use Rattle.grid.proofs.Places.{cond_at}
use Rattle.nodes.specs.State.{St, wide, linked, Live, Fork, Middle, Link, Sound, flat, slot_at, tree}
use Rattle.means.proofs.Slots.{tree_round}
use Rattle.means.proofs.Test.{wide_le, top_wide, cell_wide}

within : (b x k : ℕ) → wide x ≡ size b → k % size b < wide x
within b x k e = subst (λ (m : ℕ). k % size b < m) (sym e) (mod-lt k (subst (λ (m : ℕ). 0 < m) e some))
  where
    some : 0 < wide x
    some = cases (ltb x 8) (λ e. rw e (omega arith)) (λ e. rw e (omega arith))

fork_live : (s : St) (x : ℕ) → Fork s x → Live s x
fork_live s x (inl h) = inl h
fork_live s x (inr h) = inr (h.0, h.1.0)

-- the cell of node 8 + d
cell_of : (d : ℕ) → 8 + d - 8 ≡ d
cell_of d = omega arith

flat_proper : (bs : List ℕ) (s : St) (x k : ℕ) → is_finite (s.slot x k) ≡ true → ProperS bs (flat s x k)
flat_proper bs s x k h = cond_at (ProperS bs) (s.val x k) (tile (s.slot x k)) (hidden (s.slot x k)) (λ _. h) (λ _. h)

module _ {n : ℕ} {s : St} (sd : Sound n s) where
  -- a leaf
  leaf_proper : (b x : ℕ) → wide x ≡ size b → x < 8 + n → Live s x → (Fork s x → ⊥) → Proper (b ∷ []) (tree b [] s x)
  unfolding tree
  leaf_proper b x e hx lv nf = (
    tree_round b [] s x,
    λ k. flat_proper [] s x (k % size b) (sd.value x (k % size b) hx (within b x k e) lv (λ f. absurd (nf f))),
  )

  -- a node whose cells below are proper
  node_proper : (b c : ℕ) (bs : List ℕ) (x : ℕ) → wide x ≡ size b → x < 8 + n → Fork s x
      → ((k d : ℕ) → k < wide x → d < n → s.tag d ≡ linked x k → Proper (c ∷ bs) (tree c bs s (8 + d))) → Proper (b ∷ c ∷ bs) (tree b (c ∷ bs) s x)
  unfolding tree
  node_proper b c bs x e hx f h = (tree_round b (c ∷ bs) s x, λ k. one (k % size b) (within b x k e))
    where
      one : (k : ℕ) → k < wide x → ProperS (c ∷ bs) (slot_at (tree c bs s) s x k)
      one k hk = cond_at (ProperS (c ∷ bs)) (s.kid x k) (branch (tree c bs s (8 + s.slot x k))) (flat s x k)
          (λ on. let l : Link n s x k = sd.link x k hx hk f on in h k (s.slot x k) hk l.inside l.tagged)
          (λ off. flat_proper (c ∷ bs) s x k (sd.value x k hx hk (fork_live s x f) (λ _. off)))

  pub sound_proper : (t : ℕ) → t < 8 → Proper (3 ∷ 2 ∷ 2 ∷ []) (tree 3 (2 ∷ 2 ∷ []) s t)
  sound_proper t ht = node_proper 3 2 (2 ∷ []) t (top_wide t ht) (omega arith) (inl ht) middle
    where
      -- what a cell links to
      leaf : (x k d : ℕ) → 8 ≤ x → k < wide x → d < n → s.tag d ≡ linked x k → Proper (2 ∷ []) (tree 2 [] s (8 + d))
      leaf x k d hx hk hd u = leaf_proper 2 (8 + d) (cell_wide d) (omega arith) (inr (omega arith, rw (cell_of d) (omega arith))) no_fork
        where
          no_fork : Fork s (8 + d) → ⊥
          no_fork (inl h) = omega arith
          no_fork (inr h) = let m : Middle s d = rw (cell_of d) at h.1 in omega (arith, m.1)

      -- what the top links to
      middle : (k d : ℕ) → k < wide t → d < n → s.tag d ≡ linked t k → Proper (2 ∷ 2 ∷ []) (tree 2 (2 ∷ []) s (8 + d))
      middle k d hk hd u = node_proper 2 2 [] (8 + d) (cell_wide d) (omega arith)
          (inr (omega arith, rw (cell_of d) (omega arith, omega (arith, wide_le t))))
          (λ k' d' hk' hd' u'. leaf (8 + d) k' d' (omega arith) hk' hd' u')
