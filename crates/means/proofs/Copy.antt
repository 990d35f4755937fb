-- A copy on a sound pool with the cells that it needs: the second node becomes what the first is, and nothing else changes. Assumes nothing.
use mathlib.Core.Path.{◌≡◌, refl, sym, ap, ◌∙◌, subst, fun_ext}
use mathlib.Core.Bool.{true, false, not}
use mathlib.Core.List.{[], ◌∷◌}
use mathlib.Core.Logic.{◌≢◌, inr}
use Prim.Native.Nat.{ℕ, zero, suc, ◌+◌, ◌%◌, ◌<◌, ◌≤◌}
use native.Mathlib.Omega.{arith}
use native.Mathlib.Nat.{mod-eq_of_lt}
use borrow.Author.Tests.{lt-ltb, not-true}
use Rattle.floats.specs.Value.{is_finite, far}
use Rattle.floats.proofs.Words.{on_case}
use Rattle.floats.proofs.Finite.{finite_far, small_finite}
use Rattle.bitset.proofs.Every.{and_both}
use Rattle.grid.specs.Node.{branch, is_hidden, SlotOf, changed, every, sum}
use Rattle.grid.specs.Whole.{cells, cells_s, reach, is_empty}
use Rattle.grid.proofs.Places.{every_at, changed_at}
use Rattle.nodes.specs.State.{St, Sound, flat, tree}
use Rattle.nodes.specs.Change.{next, attach_s, claim_s}
use Rattle.nodes.specs.Each.{each_s}
use Rattle.nodes.specs.Walk.{branching, below}
use Rattle.trees.specs.Copy.{lay_s, branch_at, branch_m, copy_m}
use Rattle.means.specs.Level.{span, tree_at, filled, At, In, Kept, Turned}
use Rattle.means.proofs.Levels.{leaf_ends, at_link, at_down, at_finite, at_leaf_finite}
use Rattle.means.proofs.Slots.{flat_same, slot_flat, tree_round, tree_slot, tree_branch}
use Rattle.means.proofs.Sums.{sum_front}
use Rattle.means.proofs.Turned.{then, idle, into, Apart, apart_kept, apart_at, apart_tree, apart_still, tops_apart}
use Rattle.means.proofs.Frame.{in_own}
use Rattle.means.proofs.Lay.{lay_turned, lay_fresh}
use Rattle.means.proofs.Attach.{ready_sound}
use Rattle.means.proofs.Grow.{span_new, grow_at, grow_here, grow_tree, grow_turned, grow_then}
use Rattle.means.proofs.Each.{each_with}
use Rattle.means.proofs.Bare.{hidden_slot}
use Rattle.means.proofs.Wipe.{hidden_bare}
use Rattle.means.proofs.Count.{flat_none, reach_leaf}

-- a hidden slot is no branch
hidden_kid : (l : ℕ) (s : St) (y k : ℕ) → k < span (suc l) → is_hidden (tree_at (suc l) s y k) ≡ true → s.kid y k ≡ false
hidden_kid l s y k q e =
    not-true (s.kid y k) (and_both (not (s.val y k)) (not (s.kid y k)) (sym (ap is_hidden (tree_slot l s y k q) ∙ hidden_slot (tree_at l s) s y k) ∙ e)).1

module _ (n : ℕ) where
  -- ---- by level
  abbrev Copied : ℕ → Type 0
  Copied l =
      (s : St) (x y : ℕ) → Sound n s → At n s l x → At n s l y → Apart l s x y → every is_hidden (span l) (tree_at l s y) ≡ true
      → reach (branching l) (below l) (tree_at l s x) ≤ s.count
      → Turned n l y s (copy_m (branching l) (below l) n x y s) (tree_at l s x)
      × ((copy_m (branching l) (below l) n x y s).count + reach (branching l) (below l) (tree_at l s x) ≡ s.count)

  -- a leaf has no branches
  leaf : Copied zero
  unfolding branch_m lay_s tree
  leaf s x y sd hx hy apart bare enough =
      (lay_turned sd zero x y hy (λ f. absurd (leaf_ends n s y hy f)) (λ k q. at_leaf_finite sd x k hx q), omega (arith, reach_leaf s (branching zero) x))

  -- ---- the copy of node x to node y, both of level suc l, that starts in the state s₀
  module _ (l : ℕ) (ih : Copied l) (x y : ℕ) (s₀ : St) (enough : reach (branching (suc l)) (below (suc l)) (tree_at (suc l) s₀ x) ≤ s₀.count) where
    abbrev go : ℕ → ℕ → St → St
    go = copy_m (branching l) (below l) n

    abbrev cells_at : ℕ → ℕ
    cells_at i = cells_s (below (suc l)) (tree_at (suc l) s₀ x i)

    -- before slot k: node x is what it was at the start and shares no node with y; the slots of y from k on are those of x, but for branches; the cells of the slots before
    -- k have been taken
    record Going (k : ℕ) (s : St) : Type 0 where
      from : At n s (suc l) x
      source : tree_at (suc l) s x ≡ tree_at (suc l) s₀ x
      apart : Apart (suc l) s x y
      ahead : (j : ℕ) → k ≤ j → j < span (suc l) → tree_at (suc l) s y j ≡ flat s x j
      taken : s.count + sum k cells_at ≡ s₀.count

    abbrev Gone : ℕ → St → St → Type 0
    Gone k s r = Turned n (suc l) y s r (changed (span (suc l)) k (λ _. tree_at (suc l) s₀ x k) (tree_at (suc l) s y)) × Going (suc k) r

    -- one slot: where slot k of y becomes what slot k of x is, for the cells of that slot
    module _ (k : ℕ) (q : k < span (suc l)) (s : St) (sd : Sound n s) (h : At n s (suc l) y) (g : Going k s) where
      on : (r : St) (t : SlotOf (below (suc l))) → t ≡ tree_at (suc l) s x k → Turned n (suc l) y s r (changed (span (suc l)) k (λ _. t) (tree_at (suc l) s y))
          → r.count + cells_s (below (suc l)) t ≡ s.count → Gone k s r
      unfolding sum
      on r t e a c = (
        into a (ap (λ u. changed (span (suc l)) k (λ _. u) (tree_at (suc l) s y)) e'),
        record {
          from = apart_at sd a x g.from g.apart;
          source = sym (apart_tree sd a x g.from g.apart) ∙ g.source;
          apart = apart_still sd a x g.from g.apart;
          ahead = λ j p h. ap (λ u. u j) a.grid ∙ changed_at (λ u. u ≡ flat r x j) (span (suc l)) k (λ _. t) (tree_at (suc l) s y) j
              (λ m. absurd (past j p (sym (mod-eq_of_lt h) ∙ m))) (λ _. g.ahead j (omega arith) h ∙ flat_same ((apart_kept sd a x g.from g.apart).slots j));
          taken = omega (arith, c, ap (cells_s (below (suc l))) e', g.taken);
        },
      )
        where
          e' : t ≡ tree_at (suc l) s₀ x k
          e' = e ∙ ap (λ u. u k) g.source

          past : (j : ℕ) → suc k ≤ j → j ≡ k → ⊥
          past j p m = omega arith

      -- it is no branch: nothing is left to do
      module _ (e : s.kid x k ≡ false) where
        is_flat : tree_at (suc l) s x k ≡ flat s x k
        is_flat = tree_slot l s x k q ∙ slot_flat (tree_at l s) s x k e

        flat_on : Gone k s s
        flat_on = on s (tree_at (suc l) s x k) refl (idle (suc l) y k s (λ _. tree_at (suc l) s x k) sd h (is_flat ∙ sym (g.ahead k (omega arith) q)))
            (omega (arith, ap (cells_s (below (suc l))) is_flat, flat_none s (below (suc l)) x k))

      -- a branch, for which the cells suffice: it is copied to the cell that is claimed, as it would be to one that is attached
      module _ (e : s.kid x k ≡ true) where
        abbrev r : St
        r = attach_s y k far false s

        -- slot k of y has none
        off : s.kid y k ≡ false
        unfolding cells
        off = on_case (s.kid y k)
            (λ t. absurd (omega (arith, ap (cells_s (below (suc l))) (sym (tree_branch l s y k q t) ∙ g.ahead k (omega arith) q), flat_none s (below (suc l)) x k)))
            (λ t. t)

        fits : cells_s (below (suc l)) (tree_at (suc l) s x k) ≤ s.count
        unfolding reach sum
        fits = omega (arith, enough, g.taken, sum_front (suc k) (span (suc l)) cells_at q, ap (λ u. cells_s (below (suc l)) (u k)) g.source)

        some : 0 < s.count
        unfolding cells
        some = omega (arith, fits, ap (cells_s (below (suc l))) (tree_branch l s x k q e))

        a : Turned n (suc l) y s r (changed (span (suc l)) k (λ _. branch (filled l far false)) (tree_at (suc l) s y))
        a = grow_turned sd l y k far false h q off some finite_far

        still : Kept s r x
        still = apart_kept sd a x g.from g.apart

        on_x : r.kid x k ≡ true
        on_x = sym (still.slots k).kid ∙ e

        at_x : At n r (suc l) x
        at_x = apart_at sd a x g.from g.apart

        is : branch (tree_at l r (8 + r.slot x k)) ≡ tree_at (suc l) s x k
        is = sym (ap (λ u. u k) (apart_tree sd a x g.from g.apart) ∙ tree_branch l r x k q on_x)

        cells_is : suc (reach (branching l) (below l) (tree_at l r (8 + r.slot x k))) ≡ cells_s (below (suc l)) (tree_at (suc l) s x k)
        unfolding cells reach
        cells_is = ap (cells_s (below (suc l))) is

        new : (r.slot y k ≡ next s) × (r.kid y k ≡ true) × (r.val y k ≡ false)
        new = grow_here sd l y k far false h q off some finite_far

        between : Apart l r (8 + r.slot x k) (8 + next s)
        between z i j = apart_still sd a x g.from g.apart z (inr (k, q, on_x, i)) (inr (k, q, new.1, subst (λ (d : ℕ). In l r (8 + d) z) (sym new.0) j))

        down : Turned n l (8 + next s) r (go (8 + r.slot x k) (8 + next s) r) (tree_at l r (8 + r.slot x k))
            × ((go (8 + r.slot x k) (8 + next s) r).count + reach (branching l) (below l) (tree_at l r (8 + r.slot x k)) ≡ r.count)
        unfolding attach_s
        down = ih r (8 + r.slot x k) (8 + next s) a.sound (at_down a.sound l x k at_x q on_x) (grow_at sd l y k far false h q off some finite_far) between
            (ap (every is_hidden (span l)) (grow_tree sd l y k far false h q off some finite_far) ∙ hidden_bare l far) (omega (arith, fits, cells_is))

        claimed : go (8 + r.slot x k) (8 + next s) (claim_s y k s) ≡ go (8 + r.slot x k) (8 + next s) r
        claimed =
            ap (branch_m (branching l) (below l) n (8 + r.slot x k) (8 + next s))
            (subst (λ (m : ℕ). lay_s m (8 + r.slot x k) (8 + next s) (claim_s y k s) ≡ lay_s m (8 + r.slot x k) (8 + next s) r) (sym (span_new sd l y k far false h q off some finite_far))
            (lay_fresh s (8 + r.slot x k) y k far false (λ d. between (8 + next s) (subst (λ (z : ℕ). In l r z (8 + next s)) (sym d) (in_own l r (8 + next s))) (in_own l r (8 + next s)))))

        branch_on : Gone k s (branch_at go n x y k s)
        unfolding attach_s cells reach
        branch_on = subst (Gone k s)
            (sym (rw (e, lt-ltb (s.slot x k) n (at_link sd l x k g.from q e).inside, ready_sound sd some)
            (ap (λ (d : ℕ). go (8 + d) (8 + next s) (claim_s y k s)) (still.slots k).slot ∙ claimed)))
            (on (go (8 + r.slot x k) (8 + next s) r) (branch (tree_at l r (8 + r.slot x k))) is
            (grow_then sd l y k far false h q off some finite_far down.0) (omega (arith, down.1, some)))

      at_slot : Gone k s (branch_at go n x y k s)
      at_slot = on_case (s.kid x k) branch_on (λ e. subst (Gone k s) (sym (rw e refl)) (flat_on e))

    -- all slots: the node as one piece, then its branches
    module _ (sd : Sound n s₀) (hx : At n s₀ (suc l) x) (hy : At n s₀ (suc l) y) (apart : Apart (suc l) s₀ x y) (bare : every is_hidden (span (suc l)) (tree_at (suc l) s₀ y) ≡ true) where
      abbrev r₀ : St
      r₀ = lay_s (span (suc l)) x y s₀

      -- a link is a finite word too
      finite : (k : ℕ) → k < span (suc l) → is_finite (s₀.slot x k) ≡ true
      finite k q = on_case (s₀.kid x k) (λ e. small_finite (s₀.slot x k) (omega (arith, (at_link sd l x k hx q e).inside, sd.room))) (at_finite sd l x k hx q)

      a₀ : Turned n (suc l) y s₀ r₀ (λ k. flat s₀ x (k % span (suc l)))
      a₀ = lay_turned sd (suc l) x y hy (λ _ k q. hidden_kid l s₀ y k q (every_at is_hidden (span (suc l)) (tree_at (suc l) s₀ y) k bare q)) finite

      start : Going 0 r₀
      unfolding sum lay_s
      start =
          record {
            from = apart_at sd a₀ x hx apart;
            source = sym (apart_tree sd a₀ x hx apart);
            apart = apart_still sd a₀ x hx apart;
            ahead = λ j _ q. ap (λ u. u j) a₀.grid ∙ ap (flat s₀ x) (mod-eq_of_lt q) ∙ flat_same ((apart_kept sd a₀ x hx apart).slots j);
            taken = omega arith;
          }

      all : Turned n (suc l) y s₀ (each_s (branch_at go n x y) (span (suc l)) r₀) (tree_at (suc l) s₀ x)
          × ((each_s (branch_at go n x y) (span (suc l)) r₀).count + reach (branching (suc l)) (below (suc l)) (tree_at (suc l) s₀ x) ≡ s₀.count)
      unfolding reach
      all =
          let p = each_with (suc l) y (branch_at go n x y) (λ k _. tree_at (suc l) s₀ x k) Going at_slot r₀ a₀.sound a₀.at start in
          (into (then a₀ p.0) (sym (fun_ext (tree_round (branching (suc l)) (below (suc l)) s₀ x))), p.1.taken)

  copied : (l : ℕ) → Copied l
  unfolding branch_m
  copied zero = leaf
  copied (suc l) = λ s x y sd hx hy apart bare enough. all l (copied l) x y s enough sd hx hy apart bare

-- node x to node y
module _ {n : ℕ} {s : St} (sd : Sound n s) where
  module _ (l x y : ℕ) (hx : At n s l x) (hy : At n s l y) (apart : Apart l s x y) (bare : every is_hidden (span l) (tree_at l s y) ≡ true)
      (enough : reach (branching l) (below l) (tree_at l s x) ≤ s.count) where
    pub copy_turned : Turned n l y s (copy_m (branching l) (below l) n x y s) (tree_at l s x)
    copy_turned = (copied n l s x y sd hx hy apart bare enough).0

    pub copy_count : (copy_m (branching l) (below l) n x y s).count + reach (branching l) (below l) (tree_at l s x) ≡ s.count
    copy_count = (copied n l s x y sd hx hy apart bare enough).1

  -- seat i to seat j
  pub copy_right : (i j : ℕ) → i < 8 → j < 8 → i ≢ j → is_empty 3 (2 ∷ 2 ∷ []) (tree_at 2 s j) ≡ true → reach 3 (2 ∷ 2 ∷ []) (tree_at 2 s i) ≤ s.count
      → Turned n 2 j s (copy_m 3 (2 ∷ 2 ∷ []) n i j s) (tree_at 2 s i)
  unfolding is_empty
  copy_right i j hi hj ne bare enough = copy_turned 2 i j (hi, refl) (hj, refl) (tops_apart sd i j hi hj ne) bare enough
