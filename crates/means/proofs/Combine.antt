-- Node y joined into node x, on a sound pool: x becomes the meaning's combination, and nothing outside the two trees changes. Two seats are combined, and the second
-- is cleared. Assumes nothing.
use mathlib.Core.Path.{◌≡◌, refl, sym, ap, ap₂, ◌∙◌, subst}
use mathlib.Core.Bool.{Bool, true, false, cond, ◌||◌, beq}
use mathlib.Core.List.{List, [], ◌∷◌}
use mathlib.Core.Logic.{◌≢◌}
use Prim.Native.Nat.{ℕ, zero, suc, ◌+◌, ◌<◌, ◌≤◌}
use Rattle.floats.specs.Value.{is_finite, negative, negated, far_with}
use Rattle.floats.proofs.Words.{on_case}
use Rattle.floats.proofs.Finite.{finite_far_with, finite_negated, finite_least, finite_most}
use Rattle.grid.specs.Node.{branch, tile, hidden, on_slot, Node, SlotOf, changed}
use Rattle.grid.specs.Whole.{clear}
use Rattle.grid.specs.Combine.{Operation, union, subtract, intersect, joined, stays_with, settled_by, settled, taken, under_b, under_a, joined_voxels, combine_s}
use Rattle.nodes.specs.State.{St, Sound, flat}
use Rattle.nodes.specs.Each.{each_s}
use Rattle.nodes.specs.Walk.{branching, below}
use Rattle.nodes.specs.Wipe.{empty_m}
use Rattle.trees.specs.Combine.{join_s, meet_value, combine_at, combine_m}
use Rattle.means.specs.Level.{levels, span, tree_at, At, Turned}
use Rattle.means.specs.Joined.{Joined, Combined, combined_s}
use Rattle.means.proofs.Levels.{leaf_ends, at_down, at_leaf_finite}
use Rattle.means.proofs.Slots.{tree_leaf, tree_branch, tree_flat}
use Rattle.means.proofs.Turned.{idle, ruled, others}
use Rattle.means.proofs.Put.{put_turned}
use Rattle.means.proofs.Each.{upto}
use Rattle.means.proofs.Wipe.{wipe_slot, wipe_clear}
use Rattle.means.proofs.Joined.{joined_first, joined_ruled, joined_others, below_differ, joined_lift, joined_upto, joined_each}
use Rattle.means.proofs.Take.{taken_joined}
use Rattle.means.proofs.Unspoilt.{unspoilt_then}

-- ---- the meaning at one slot; a slot that is no branch holds u, active if v says so
module _ (o : Operation) (b : ℕ) (bs : List ℕ) where
  combine_flat : (v : Bool) (u : ℕ) (t : SlotOf (b ∷ bs)) → combine_s o (b ∷ bs) (cond v (tile u) (hidden u)) t ≡ under_a o (b ∷ bs) (negative u) (cond v (tile u) (hidden u)) t
  unfolding combine_s
  combine_flat true u t = refl
  combine_flat false u t = refl

  combine_under : (m : Node (b ∷ bs)) (v : Bool) (w : ℕ) → combine_s o (b ∷ bs) (branch m) (cond v (tile w) (hidden w)) ≡ under_b o (b ∷ bs) (negative w) (branch m)
  unfolding combine_s
  combine_under m true w = refl
  combine_under m false w = refl

  -- a's slot t is no branch, and b's is none either
  flat_under : (t : SlotOf (b ∷ bs)) (v : Bool) (w : ℕ)
      → on_slot (λ m. branch (taken o (b ∷ bs) m)) (λ w. under_b o (b ∷ bs) (negative w) t) (λ w. under_b o (b ∷ bs) (negative w) t) (cond v (tile w) (hidden w))
      ≡ under_b o (b ∷ bs) (negative w) t
  flat_under t true w = refl
  flat_under t false w = refl

-- two voxels
combine_voxels : (o : Operation) (v v' : Bool) (u w : ℕ)
    → ◌≡◌ {A = SlotOf []} (combine_s o [] (cond v (tile u) (hidden u)) (cond v' (tile w) (hidden w))) (cond (v || v') (tile (joined o u w)) (hidden (joined o u w)))
unfolding combine_s joined_voxels
combine_voxels o true true u w = refl
combine_voxels o true false u w = refl
combine_voxels o false true u w = refl
combine_voxels o false false u w = refl

joined_finite : (o : Operation) (u w : ℕ) → is_finite u ≡ true → is_finite w ≡ true → is_finite (joined o u w) ≡ true
joined_finite union u w p q = finite_least u w p q
joined_finite subtract u w p q = finite_most u (negated w) p (finite_negated w ∙ q)
joined_finite intersect u w p q = finite_most u w p q

-- a slot that b has settled has the side with which it would have stayed
settled_is : (o : Operation) (bs : List ℕ) → ◌≡◌ {A = SlotOf bs} (settled o bs) (cond (stays_with o) (tile (far_with (stays_with o))) (hidden (far_with (stays_with o))))
unfolding far_with
settled_is union bs = refl
settled_is subtract bs = refl
settled_is intersect bs = refl

module _ (n : ℕ) (o : Operation) where
  abbrev Done : ℕ → Type 0
  Done l =
      (s : St) (x y : ℕ) → Sound n s → At n s l x → At n s l y → x ≢ y
      → Joined n l x y (span l) s (combine_m (branching l) (below l) o n x y s) (λ i. combine_s o (below l) (tree_at l s x i) (tree_at l s y i))

  -- ---- one slot of two leaves
  leaf_slot : (x y : ℕ) → x ≢ y → (k : ℕ) → k < span zero → (s : St) → Sound n s → At n s zero x → At n s zero y
      → Joined n zero x y (suc k) s (join_s o x y k s) (changed (span zero) k (λ a. combine_s o [] a (tree_at zero s y k)) (tree_at zero s x))
  unfolding join_s
  leaf_slot x y ne k q s sd hx hy = joined_first (suc k) sd hx hy ne
      (ruled k _ (put_turned sd zero x k hx (λ f. absurd (leaf_ends n s x hx f)) _ _ (joined_finite o (s.slot x k) (s.slot y k) (at_leaf_finite sd x k hx q) (at_leaf_finite sd y k hy q)))
      (λ a. combine_s o [] a (tree_at zero s y k))
      (sym (ap₂ (combine_s o []) (tree_leaf s x k q) (tree_leaf s y k q) ∙ combine_voxels o (s.val x k) (s.val y k) (s.slot x k) (s.slot y k))))

  -- ---- one slot above the leaves
  module _ (l : ℕ) (ih : Done l) (x y : ℕ) (ne : x ≢ y) (k : ℕ) (q : k < span (suc l)) (s : St) (sd : Sound n s) (hx : At n s (suc l) x) (hy : At n s (suc l) y) where
    abbrev go : ℕ → ℕ → St → St
    go = combine_m (branching l) (below l) o n

    abbrev rule : SlotOf (levels l) → SlotOf (levels l)
    rule a = combine_s o (levels l) a (tree_at (suc l) s y k)

    abbrev Goal : St → Type 0
    Goal r = Joined n (suc l) x y (suc k) s r (changed (span (suc l)) k rule (tree_at (suc l) s x))

    -- the value of a's slot, or of b's, settles it
    abbrev mine : Bool
    mine = beq (negative (s.slot x k)) (stays_with o)

    abbrev yours : Bool
    yours = beq (negative (s.slot y k)) (settled_by o)

    abbrev made : St
    made = combine_at (branching l) (below l) o n go x y k s

    comes : {r : St} → made ≡ r → Goal r → Goal made
    comes e g = subst Goal (sym e) g

    stays : made ≡ s → rule (tree_at (suc l) s x k) ≡ tree_at (suc l) s x k → Goal made
    stays e m = comes e (joined_first (suc k) sd hx hy ne (idle (suc l) x k s rule sd hx m))

    -- b's slot is no branch, and its value counts
    by_value : made ≡ meet_value (empty_m n l) o n x y k s → rule (tree_at (suc l) s x k) ≡ under_b o (levels l) (negative (s.slot y k)) (tree_at (suc l) s x k) → Goal made
    unfolding under_b
    by_value e m = on_case yours
        (λ c. comes (e ∙ rw c refl)
        (joined_first (suc k) sd hx hy ne
        (ruled k _ (wipe_slot l x k (far_with (stays_with o)) (stays_with o) sd hx q (finite_far_with (stays_with o))) rule (sym (m ∙ rw c (settled_is o (levels l)))))))
        (λ c. stays (e ∙ rw c refl) (m ∙ rw c refl))

    -- a's slot is a branch
    both : s.kid x k ≡ true → s.kid y k ≡ true → Goal made
    unfolding combine_s
    both ex ey = comes (rw (ex, ey) refl)
        (joined_ruled k _ (joined_lift sd l x y k hx hy ne q ex ey
        (ih s (8 + s.slot x k) (8 + s.slot y k) sd (at_down sd l x k hx q ex) (at_down sd l y k hy q ey) (below_differ sd l x y k hx hy ne q ex ey)))
        rule (sym (ap₂ (combine_s o (levels l)) (tree_branch l s x k q ex) (tree_branch l s y k q ey))))

    under : s.kid x k ≡ true → s.kid y k ≡ false → Goal made
    under ex ey = by_value (rw (ex, ey) refl)
        (ap₂ (combine_s o (levels l)) is (tree_flat l s y k q ey) ∙ combine_under o (branching l) (below l) _ (s.val y k) (s.slot y k)
        ∙ ap (under_b o (levels l) (negative (s.slot y k))) (sym is))
      where
        is : tree_at (suc l) s x k ≡ branch (tree_at l s (8 + s.slot x k))
        is = tree_branch l s x k q ex

    -- a's slot is none
    module _ (ex : s.kid x k ≡ false) where
      is : tree_at (suc l) s x k ≡ flat s x k
      is = tree_flat l s x k q ex

      rule_is : {t : SlotOf (levels l)} → tree_at (suc l) s y k ≡ t → rule (tree_at (suc l) s x k) ≡ under_a o (levels l) (negative (s.slot x k)) (flat s x k) t
      rule_is {t} e = ap₂ (combine_s o (levels l)) is e ∙ combine_flat o (branching l) (below l) (s.val x k) (s.slot x k) t

      a_stays : mine ≡ true → Goal made
      unfolding under_a
      a_stays c = stays (rw (ex, c) refl) (rule_is refl ∙ rw c (sym is))

      takes : mine ≡ false → s.kid y k ≡ true → Goal made
      unfolding under_a
      takes c ey = comes (rw (ex, c, ey) refl) (joined_ruled k _ (taken_joined sd l x y k hx hy q ex ey o) rule (sym (rule_is (tree_branch l s y k q ey) ∙ rw c refl)))

      value : mine ≡ false → s.kid y k ≡ false → Goal made
      unfolding under_a
      value c ey = by_value (rw (ex, c, ey) refl)
          (rule_is (tree_flat l s y k q ey) ∙ rw c (flat_under o (branching l) (below l) (flat s x k) (s.val y k) (s.slot y k))
          ∙ ap (under_b o (levels l) (negative (s.slot y k))) (sym is))

    at_slot : Goal made
    at_slot = on_case (s.kid x k)
        (λ ex. on_case (s.kid y k) (both ex) (under ex))
        (λ ex. on_case mine (a_stays ex) (λ c. on_case (s.kid y k) (takes ex c) (value ex c)))

  -- ---- the whole node
  done : (l : ℕ) → Done l
  unfolding combine_m
  done zero = λ s x y sd hx hy ne. joined_each zero x y (join_s o x y) (combine_s o []) (leaf_slot x y ne) s sd hx hy ne
  done (suc l) = λ s x y sd hx hy ne.
      joined_each (suc l) x y (combine_at (branching l) (below l) o n (combine_m (branching l) (below l) o n) x y) (combine_s o (levels l)) (at_slot l (done l) x y ne) s sd hx hy ne

module _ {n : ℕ} {s : St} (o : Operation) (l x y : ℕ) (sd : Sound n s) where
  pub combine_joined : At n s l x → At n s l y → x ≢ y
      → Joined n l x y (span l) s (combine_m (branching l) (below l) o n x y s) (λ i. combine_s o (below l) (tree_at l s x i) (tree_at l s y i))
  combine_joined = done n o l s x y sd

  -- the first m slots
  pub combine_upto : At n s (suc l) x → At n s (suc l) y → x ≢ y → (m : ℕ) → m ≤ span (suc l)
      → Joined n (suc l) x y m s (each_s (combine_at (branching l) (below l) o n (combine_m (branching l) (below l) o n) x y) m s)
      (upto (span (suc l)) (λ k a. combine_s o (levels l) a (tree_at (suc l) s y k)) (tree_at (suc l) s x) m)
  combine_upto hx hy ne = joined_upto (suc l) x y (combine_at (branching l) (below l) o n (combine_m (branching l) (below l) o n) x y) (combine_s o (levels l))
      (at_slot n o l (done n o l) x y ne) s sd hx hy ne

-- ---- two seats, and the second cleared
module _ {n : ℕ} {s : St} (sd : Sound n s) (a b : ℕ) (ha : a < 8) (hb : b < 8) (ne : a ≢ b) (o : Operation) where
  abbrev grid : Node (levels 2)
  grid i = combine_s o (2 ∷ 2 ∷ []) (tree_at 2 s a i) (tree_at 2 s b i)

  pub combined_by : Combined n a b s (combined_s o n a b s) grid
  unfolding combined_s
  combined_by =
      let p : Joined n 2 a b (span 2) s (combine_m 3 (2 ∷ 2 ∷ []) o n a b s) grid = combine_joined o 2 a b sd (ha, refl) (hb, refl) ne in
      let w : Turned n 2 b (combine_m 3 (2 ∷ 2 ∷ []) o n a b s) (combined_s o n a b s) (clear 3 (2 ∷ 2 ∷ [])) = wipe_clear p.sound b hb in
      record {
        sound = w.sound;
        grid = sym (others p.sound b a hb ha ne w) ∙ p.grid;
        cleared = w.grid;
        others = λ t h na nb. joined_others sd (ha, refl) (hb, refl) p t (h, refl) na nb ∙ others p.sound b t hb h nb w;
        marks = w.marks ∙ p.marks;
        unspoilt = unspoilt_then p.unspoilt w.unspoilt;
      }
