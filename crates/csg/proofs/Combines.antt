-- Two nodes of a sound pool joined, by what the code does at each slot: where they stand, what their two slots are, what may be called. Assumes nothing.
use mathlib.Core.Path.{◌≡◌, refl, sym, ap, ap₂, ◌∙◌, subst}
use mathlib.Core.Bool.{Bool, true, false, not, cond, beq}
use mathlib.Core.List.{List}
use mathlib.Core.Logic.{◌≢◌, ◌⊎◌, inl, inr}
use Prim.Native.Nat.{ℕ, zero, suc, ◌+◌, ◌-◌, ◌*◌, ◌<◌, ◌≤◌}
use native.Mathlib.Omega.{arith}
use lib.ListN.{get_or}
use borrow.Author.Tests.{not-true, not-false}
use Rattle.floats.specs.Value.{is_finite, negative, far_with}
use Rattle.grid.specs.Combine.{Operation, stays_with, settled_by}
use Rattle.grid.specs.Node.{Node, size}
use Rattle.nodes.specs.State.{St, Sound}
use Rattle.nodes.specs.Layout.{Sized, st}
use Rattle.nodes.specs.Each.{each_s}
use Rattle.nodes.specs.Range.{In, Stands, Cells}
use Rattle.nodes.specs.Walk.{branching, below, view_s}
use Rattle.nodes.specs.declared.walk.Slot.{Slot}
use Rattle.nodes.specs.declared.walk.Slot.TheVariants.{Branch, Tile, Hidden}
use Rattle.nodes.specs.Wipe.{wipe_at, empty_m}
use Rattle.nodes.proofs.Places.{word_cell}
use Rattle.nodes.proofs.Paths.{slot_of_lem, one_less, view_up}
use Rattle.nodes.proofs.States.{st_slot, cells_of}
use Rattle.trees.specs.Combine.{take_m, FiniteLeaf, stays_at, meet_value, combine_at, combine_m}
use Rattle.means.specs.Level.{levels, span, At}
use Rattle.means.specs.Joined.{Joined}
use Rattle.means.proofs.Levels.{at_wide, at_inside, at_link, at_down, at_leaf_finite}
use Rattle.means.proofs.Joined.{below_differ}
use Rattle.means.proofs.Combine.{combine_upto}
use Rattle.csg.specs.Joinable.{Joinable}

-- ---- where a node of a level stands
at_known : (n : ℕ) (s : St) (l x : ℕ) → At n s l x → l ≤ 2
at_known n s zero x h = omega arith
at_known n s (suc zero) x h = omega arith
at_known n s (suc (suc l)) x h = omega (arith, h.1)

at_stands : (n : ℕ) (s : St) (l x : ℕ) → At n s l x → Stands n l x
at_stands n s l x h = record { known = at_known n s l x h; node = at_inside n s l x h; slots = at_wide n s l x h }

module _ {n l : ℕ} {s : St} {x y : ℕ} (h : Joinable n l s x y) where
  pub stands_x : Stands n l x
  stands_x = at_stands n s l x h.at_x

  pub stands_y : Stands n l y
  stands_y = at_stands n s l y h.at_y

  module _ {k : ℕ} (q : k < span l) where
    pub in_x : In n x k
    in_x = slot_of_lem stands_x refl q

    pub in_y : In n y k
    in_y = slot_of_lem stands_y refl q

-- ---- what the answer about a slot above the leaves tells: whether it is a branch, and its word
abbrev is_branch : Slot → Bool
is_branch (Branch c) = true
is_branch (Tile w) = false
is_branch (Hidden w) = false

abbrev held : Slot → ℕ
held (Branch c) = c
held (Tile w) = w
held (Hidden w) = w

module _ (s : St) (l x k : ℕ) (p : 0 < l) {t : Slot} (e : t ≡ view_s (below l) s x k) where
  tells : (is_branch t ≡ s.kid x k) × (held t ≡ s.slot x k)
  tells = let d = e ∙ sym (view_up s l x k (λ z. omega arith)) in (ap is_branch d ∙ kid (s.kid x k) (s.val x k) (s.slot x k), ap held d ∙ word (s.kid x k) (s.val x k) (s.slot x k))
    where
      kid : (a b : Bool) (w : ℕ) → is_branch (cond a (Branch w) (cond b (Tile w) (Hidden w))) ≡ a
      kid true b w = refl
      kid false true w = refl
      kid false false w = refl

      word : (a b : Bool) (w : ℕ) → held (cond a (Branch w) (cond b (Tile w) (Hidden w))) ≡ w
      word true b w = refl
      word false true w = refl
      word false false w = refl

  pub branch_on : {c : ℕ} → t ≡ Branch c → s.kid x k ≡ true
  branch_on f = sym tells.0 ∙ ap is_branch f

  pub branch_cell : {c : ℕ} → t ≡ Branch c → c ≡ s.slot x k
  branch_cell f = sym (ap held f) ∙ tells.1

  pub branch_off : ((c : ℕ) → t ≡ Branch c → ⊥) → s.kid x k ≡ false
  branch_off h = sym tells.0 ∙ none t h
    where
      none : (t : Slot) → ((c : ℕ) → t ≡ Branch c → ⊥) → is_branch t ≡ false
      none (Branch c) h = absurd (h c refl)
      none (Tile w) h = refl
      none (Hidden w) h = refl

  -- a's slot
  pub stays_branch : (o : Operation) {c : ℕ} → t ≡ Branch c → false ≡ stays_at o s x k
  stays_branch o f = sym (rw (branch_on f) refl)

  pub stays_value : (o : Operation) {u w : ℕ} {g b : Bool} → (t ≡ Tile w) ⊎ (t ≡ Hidden w) → u ≡ w → g ≡ negative u → b ≡ stays_with o → beq g b ≡ stays_at o s x k
  stays_value o h d p q = let r = flat h in ap₂ beq (p ∙ ap negative (d ∙ sym r.1 ∙ tells.1)) q ∙ sym (rw (sym tells.0 ∙ r.0) refl)
    where
      flat : {w : ℕ} → (t ≡ Tile w) ⊎ (t ≡ Hidden w) → (is_branch t ≡ false) × (held t ≡ w)
      flat (inl f) = (ap is_branch f, ap held f)
      flat (inr f) = (ap is_branch f, ap held f)

-- ---- two leaves
finite_leaf : (n : ℕ) (slots masks book : List ℕ) → Sound n (st n slots masks book) → (x : ℕ) → At n (st n slots masks book) 0 x → FiniteLeaf slots (x - 8)
unfolding size
finite_leaf n slots masks book sd x h k q =
    subst (λ (i : ℕ). is_finite (get_or slots i 0) ≡ true) (word_cell x k h.0 ∙ place h.0)
    (subst (λ (w : ℕ). is_finite w ≡ true) (st_slot slots masks book (slot_of_lem (at_stands n (st n slots masks book) 0 x h) refl q)) (at_leaf_finite sd x k h q))
  where
    place : 8 ≤ x → 3584 + 64 * x + k ≡ 64 * (64 + (x - 8)) + k
    place p = omega arith

-- what join_leaf asks
pub leaf_may : {n l : ℕ} {slots masks book : List ℕ} {x y : ℕ} → l ≡ 0 → Sized n slots masks book → Joinable n l (st n slots masks book) x y
    → (Cells n slots masks) × (Stands n 0 x) × (Stands n 0 y) × (FiniteLeaf slots (x - 8)) × (FiniteLeaf slots (y - 8))
leaf_may {n} {l} {slots} {masks} {book} {x} {y} e z h =
    let j : Joinable n 0 (st n slots masks book) x y = subst (λ (i : ℕ). Joinable n i (st n slots masks book) x y) e h in
    (cells_of z, stands_x j, stands_y j, finite_leaf n slots masks book j.sound x j.at_x, finite_leaf n slots masks book j.sound y j.at_y)

-- ---- one slot above the leaves

-- slot k of node x, where m is the level below it
abbrev pub step : Operation → ℕ → ℕ → ℕ → ℕ → ℕ → St → St
step o n m x y = combine_at (branching m) (below m) o n (combine_m (branching m) (below m) o n) x y

-- the two cells below two branches may be joined
below_may : {n : ℕ} (l x y k : ℕ) {s : St} → 0 < l → Joinable n l s x y → k < span l → s.kid x k ≡ true → s.kid y k ≡ true → Joinable n (l - 1) s (8 + s.slot x k) (8 + s.slot y k)
below_may zero x y k p h i ex ey = absurd (omega arith)
below_may (suc l) x y k p h i ex ey = rw (one_less l) (record {
  sound = h.sound;
  at_x = at_down h.sound l x k h.at_x i ex;
  at_y = at_down h.sound l y k h.at_y i ey;
  differ = below_differ h.sound l x y k h.at_x h.at_y h.differ i ex ey;
})

-- the link of a branch of b stays in the pool
pub take_low : {n x : ℕ} (l y k : ℕ) {s : St} → 0 < l → Joinable n l s x y → k < span l → s.kid y k ≡ true → s.slot y k < n
take_low zero y k p h i e = absurd (omega arith)
take_low (suc l) y k p h i e = (at_link h.sound l y k h.at_y i e).inside

-- b's slot is no branch, v is the side of its word w, and t the one that settles
module _ (o : Operation) (n l x y k : ℕ) (s : St) {w : ℕ} {v t : Bool} (f : w ≡ s.slot y k) (e : v ≡ negative w) (g : t ≡ settled_by o) where
  side_is : beq (negative (s.slot y k)) (settled_by o) ≡ beq v t
  side_is = ap₂ beq (ap negative (sym f) ∙ sym e) (sym g)

  pub value_stays : not (beq v t) ≡ true → s ≡ meet_value (empty_m n (l - 1)) o n x y k s
  value_stays i = sym (rw (side_is ∙ not-true (beq v t) i) refl)

  pub value_settles : {r : St} → not (beq v t) ≡ false → r ≡ wipe_at (empty_m n (l - 1)) n (far_with (stays_with o)) (stays_with o) x k s → r ≡ meet_value (empty_m n (l - 1)) o n x y k s
  value_settles i p = p ∙ sym (rw (side_is ∙ not-false (beq v t) i) refl)

-- both are branches, with the cells c and d
pub record Both (n l x y k c d : ℕ) (s : St) : Type 0 where
  pub on_x : s.kid x k ≡ true
  pub on_y : s.kid y k ≡ true
  pub c_is : c ≡ s.slot x k
  pub d_is : d ≡ s.slot y k
  pub may : Joinable n (l - 1) s (8 + c) (8 + d)

module _ {n l x y k : ℕ} {s : St} (h : Joinable n l s x y) (q : k < span l) (up : 0 < l) where
  pub both : {t u : Slot} {c d : ℕ} → t ≡ view_s (below l) s y k → t ≡ Branch d → u ≡ view_s (below l) s x k → u ≡ Branch c → Both n l x y k c d s
  both ty td ux uc =
      let a = branch_on s l x k up ux uc in
      let b = branch_on s l y k up ty td in
      let f = branch_cell s l x k up ux uc in
      let g = branch_cell s l y k up ty td in
      record { on_x = a; on_y = b; c_is = f; d_is = g; may = rw (f, g) (below_may l x y k up h q a b) }

  -- whether a's slot stays is v; else what is done at it goes by what the two are
  module _ (o : Operation) {v : Bool} (e : v ≡ stays_at o s x k) where
    pub slot_stays : v ≡ true → s ≡ step o n (l - 1) x y k s
    slot_stays i = sym (rw (sym e ∙ i) refl)

    module _ {r : St} (i : v ≡ false) where
      pub slot_value : s.kid y k ≡ false → r ≡ meet_value (empty_m n (l - 1)) o n x y k s → r ≡ step o n (l - 1) x y k s
      slot_value b p = p ∙ sym (rw (sym e ∙ i, b) refl)

      pub slot_taken : s.kid y k ≡ true → s.kid x k ≡ false → r ≡ take_m (branching (l - 1)) (below (l - 1)) o n x y k s → r ≡ step o n (l - 1) x y k s
      slot_taken b a p = p ∙ sym (rw (sym e ∙ i, b, a) refl)

      pub slot_joined : {c d : ℕ} → Both n l x y k c d s → r ≡ combine_m (branching (l - 1)) (below (l - 1)) o n (8 + c) (8 + d) s → r ≡ step o n (l - 1) x y k s
      slot_joined b p = p ∙ ap₂ (λ (c d : ℕ). combine_m (branching (l - 1)) (below (l - 1)) o n (8 + c) (8 + d) s) b.c_is b.d_is ∙ sym (rw (sym e ∙ i, b.on_y, b.on_x) refl)

module _ (o : Operation) {n : ℕ} where
  -- after the first k slots the two nodes may be joined still
  still : {l x y m : ℕ} {s r : St} {g : Node (levels l)} → x ≢ y → Joined n l x y m s r g → Joinable n l r x y
  still ne a = record { sound = a.sound; at_x = a.at_x; at_y = a.at_y; differ = ne }

  pub upto_may : (l x y k : ℕ) {s t : St} → (l ≡ 0 → ⊥) → Joinable n l s x y → k ≤ span l → t ≡ each_s (step o n (l - 1) x y) k s → Joinable n l t x y
  upto_may zero x y k z h q e = absurd (z refl)
  upto_may (suc l) x y k {s} {t} z h q e =
      subst (λ (r : St). Joinable n (suc l) r x y) (ap (λ (m : ℕ). each_s (step o n m x y) k s) (sym (one_less l)) ∙ sym e)
      (still h.differ (combine_upto o l x y h.sound h.at_x h.at_y h.differ k q))

-- ---- the whole node
module _ (o : Operation) (n x y : ℕ) (s : St) {t : St} where
  pub combine_leaf : (l : ℕ) → l ≡ 0 → t ≡ combine_m (branching 0) (below 0) o n x y s → t ≡ combine_m (branching l) (below l) o n x y s
  combine_leaf l e p = p ∙ ap (λ (i : ℕ). combine_m (branching i) (below i) o n x y s) (sym e)

  pub combine_all : (l k : ℕ) → (l ≡ 0 → ⊥) → k ≡ span l → t ≡ each_s (step o n (l - 1) x y) k s → t ≡ combine_m (branching l) (below l) o n x y s
  unfolding combine_m
  combine_all l k z e p = p ∙ ap (λ (m : ℕ). each_s (step o n (l - 1) x y) m s) e ∙ up l z
    where
      up : (l : ℕ) → (l ≡ 0 → ⊥) → each_s (step o n (l - 1) x y) (span l) s ≡ combine_m (branching l) (below l) o n x y s
      up zero z = absurd (z refl)
      up (suc l) z = ap (λ (m : ℕ). each_s (step o n m x y) (span (suc l)) s) (one_less l)
