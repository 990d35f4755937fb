-- Free cells plus cells reached equals all cells: each used cell has one owner, and a seat reaches the cells that it owns. Assumes nothing.
use mathlib.Core.Path.{◌≡◌, refl, sym, ap, ◌∙◌, subst, ap₂, fun_ext}
use mathlib.Core.Bool.{Bool, true, false, cond, false≢true}
use mathlib.Core.List.{List, [], ◌∷◌}
use mathlib.Core.Logic.{◌≢◌, inl, inr, ⊎_elim}
use Prim.Native.Nat.{ℕ, suc, ◌+◌, ◌-◌, ◌/◌, ◌%◌, ◌<◌, ◌≤◌}
use native.Mathlib.Nat.{mod-eq_of_lt}
use native.Mathlib.Omega.{arith}
use lib.Dec.{ltb, leb, eqb}
use borrow.Author.Tests.{eq-eqb, ne_eqb, eqb-true, eqb-false, lt-ltb, le-ltb, ltb-true, ltb-false, le-leb, lt-leb}
use borrow.Table.Steps.{cases}
use Rattle.grid.specs.Node.{size, sum}
use Rattle.grid.specs.Whole.{cells, cells_s, reach}
use Rattle.grid.proofs.Places.{sum_same, sum_zero}
use Rattle.bitset.proofs.Every.{and_both}
use Rattle.nodes.specs.State.{St, wide, linked, Used, Middle, Fork, Free, Held, Stacked, Link, Sound, flat, slot_at, tree}
use Rattle.means.specs.Owner.{above, owner, owns}
use Rattle.means.proofs.Test.{wide_le, top_wide, cell_wide}
use Rattle.means.proofs.Sums.{sum_one, sum_add, sum_swap, sum_ones}

abbrev one_if : Bool → ℕ
one_if b = cond b 1 0

-- ---- what a node reaches, as a sum over its links: f of each cell that slot k of node x links to
abbrev link : St → (ℕ → ℕ) → ℕ → ℕ → ℕ
link s f x k = cond (s.kid x k) (f (s.slot x k)) 0

module _ (s : St) where
  pub flat_none : (bs : List ℕ) (x k : ℕ) → cells_s bs (flat s x k) ≡ 0
  flat_none bs x k = cases (s.val x k) (λ e. rw e refl) (λ e. rw e refl)

  pub reach_leaf : (b x : ℕ) → reach b [] (tree b [] s x) ≡ 0
  unfolding reach tree
  reach_leaf b x = sum_zero (size b) _ (λ k h. flat_none [] x (k % size b))

  pub reach_tree : (b c : ℕ) (bs : List ℕ) (x : ℕ) → reach b (c ∷ bs) (tree b (c ∷ bs) s x) ≡ sum (size b) (link s (λ d. suc (reach c bs (tree c bs s (8 + d)))) x)
  unfolding reach tree cells
  reach_tree b c bs x = sum_same (size b) _ _ (λ k h. ap (λ (i : ℕ). cells_s (c ∷ bs) (slot_at (tree c bs s) s x i)) (mod-eq_of_lt h) ∙ one k)
    where
      one : (k : ℕ) → cells_s (c ∷ bs) (slot_at (tree c bs s) s x k) ≡ link s (λ d. suc (reach c bs (tree c bs s (8 + d)))) x k
      one k = cases (s.kid x k) (λ e. rw e refl) (λ e. rw e (flat_none (c ∷ bs) x k))

-- ---- the same as a sum over the cells, by their use marks

-- of a used cell, 128 more than the node above it
abbrev up : St → ℕ → ℕ
up s c = s.tag c / 512

-- f of cell c, if its use mark names node x
abbrev held : St → ℕ → (ℕ → ℕ) → ℕ → ℕ
held s x f c = cond (eqb (up s c) (128 + x)) (f c) 0

module _ {n : ℕ} {s : St} (sd : Sound n s) where
  pub held_of : (c : ℕ) → c < n → Used s c → Held n s c
  held_of c lc u = ⊎_elim (λ f. absurd (omega (arith, f.below, sd.few, sd.room))) (λ d. d) (sd.cell c lc)

  -- the use mark of slot k of node x is on the one cell that the slot links to, if it is a branch
  marked_once : (f : ℕ → ℕ) (x k : ℕ) → x < 8 + n → k < wide x → Fork s x → sum n (λ c. cond (eqb (s.tag c) (linked x k)) (f c) 0) ≡ link s f x k
  marked_once f x k hx hk fk = cases (s.kid x k)
      (λ e. let d : Link n s x k = sd.link x k hx hk fk e in
      sum_one n _ (s.slot x k) d.inside (λ c lc ne. rw (ne_eqb (s.tag c) (linked x k) (λ u. ne (sym (links c lc u)))) refl)
      ∙ rw (eq-eqb (s.tag (s.slot x k)) (linked x k) d.tagged, e) refl)
      (λ e. sum_zero n _ (λ c lc. rw (ne_eqb (s.tag c) (linked x k) (λ u. false≢true (sym e ∙ on c lc u))) refl) ∙ rw e refl)
    where
      only : (c : ℕ) → c < n → s.tag c ≡ linked x k → Held n s c
      only c lc u = held_of c lc (omega arith)

      same_x : (c : ℕ) (lc : c < n) (u : s.tag c ≡ linked x k) → (only c lc u).x ≡ x
      same_x c lc u = let g : Held n s c = only c lc u in omega (arith, g.says, g.slot, wide_le g.x, wide_le x)

      same_k : (c : ℕ) (lc : c < n) (u : s.tag c ≡ linked x k) → (only c lc u).k ≡ k
      same_k c lc u = let g : Held n s c = only c lc u in omega (arith, g.says, g.slot, wide_le g.x, wide_le x)

      links : (c : ℕ) → c < n → s.tag c ≡ linked x k → s.slot x k ≡ c
      links c lc u = sym (ap₂ s.slot (same_x c lc u) (same_k c lc u)) ∙ (only c lc u).links

      on : (c : ℕ) → c < n → s.tag c ≡ linked x k → s.kid x k ≡ true
      on c lc u = sym (ap₂ s.kid (same_x c lc u) (same_k c lc u)) ∙ (only c lc u).on

  -- the cells held by node x, by their marks and by its slots
  by_marks : (f : ℕ → ℕ) (x : ℕ) → x < 8 + n → Fork s x → sum n (held s x f) ≡ sum (wide x) (link s f x)
  by_marks f x hx fk =
      sym (
      sum_same (wide x) _ _ (λ k hk. sym (marked_once f x k hx hk fk))
      ∙ sum_swap (wide x) n (λ k c. cond (eqb (s.tag c) (linked x k)) (f c) 0)
      ∙ sum_same n _ _ one
      )
    where
      one : (c : ℕ) → c < n → sum (wide x) (λ k. cond (eqb (s.tag c) (linked x k)) (f c) 0) ≡ held s x f c
      one c lc = cases (eqb (up s c) (128 + x))
          (λ e. let u : up s c ≡ 128 + x = eqb-true _ _ e in
          let g : Held n s c = held_of c lc (omega arith) in
          let y : g.x ≡ x = omega (arith, g.says, g.slot, wide_le g.x) in
          sum_one (wide x) (λ k. cond (eqb (s.tag c) (linked x k)) (f c) 0) g.k (subst (λ (i : ℕ). g.k < wide i) y g.slot)
          (λ k hk ne. rw (ne_eqb (s.tag c) (linked x k) (λ z. ne (omega (arith, g.says)))) refl)
          ∙ rw (e, eq-eqb (s.tag c) (linked x g.k) (omega (arith, g.says))) refl)
          (λ e. let u : up s c ≢ 128 + x = eqb-false _ _ e in
          sum_zero (wide x) _ (λ k hk. rw (ne_eqb (s.tag c) (linked x k) (λ z. u (omega (arith, wide_le x)))) refl) ∙ rw e refl)

  -- ---- the cells that a seat owns: those that its top links to, and those that one of these, a middle node, links to
  abbrev mids : ℕ → ℕ → ℕ → ℕ
  mids t d c = held s t (λ c. held s (8 + c) (λ i. 1) d) c

  abbrev Owned : ℕ → ℕ → Type 0
  Owned t d = held s t (λ i. 1) d + sum n (mids t d) ≡ one_if (owns s t d)

  mids_none : (t d c : ℕ) → up s d ≢ 136 + c → mids t d c ≡ 0
  mids_none t d c ne = rw (ne_eqb (up s d) (128 + (8 + c)) (λ e. ne (omega arith))) (cases (eqb (up s c) (128 + t)) (λ e. rw e refl) (λ e. rw e refl))

  mids_zero : (t d : ℕ) → up s d < 136 → sum n (mids t d) ≡ 0
  mids_zero t d h = sum_zero n _ (λ c lc. mids_none t d c (λ e. omega arith))

  seat_eqb : (t c : ℕ) → Used s c → eqb (up s c) (128 + t) ≡ eqb (above s c) t
  seat_eqb t c h = cases (eqb (above s c) t)
      (λ e. let k : above s c ≡ t = eqb-true _ _ e in eq-eqb (up s c) (128 + t) (omega arith) ∙ sym e)
      (λ e. let k : above s c ≢ t = eqb-false _ _ e in ne_eqb (up s c) (128 + t) (λ z. k (omega arith)) ∙ sym e)

  owned_free : (t d : ℕ) → Free s d → Owned t d
  owned_free t d g =
      let u : s.tag d < 65536 = omega (arith, g.below, sd.few, sd.room) in
      rw (mids_zero t d (omega arith), ne_eqb (up s d) (128 + t) (λ e. omega arith), lt-leb 65536 (s.tag d) u) refl

  owned_held : (t d : ℕ) → t < 8 → (g : Held n s d) → Fork s g.x → Owned t d
  unfolding owner
  owned_held t d ht g (inl h) =
      let u : 65536 ≤ s.tag d = omega (arith, g.says) in
      let a : above s d < 8 = omega (arith, g.says, g.slot, wide_le g.x) in
      rw (mids_zero t d (omega arith), seat_eqb t d u, le-leb 65536 (s.tag d) u, lt-ltb (above s d) 8 a) (omega arith)
  owned_held t d ht g (inr h) =
      let u : 65536 ≤ s.tag d = omega (arith, g.says) in
      let e : g.x ≡ above s d = omega (arith, g.says, g.slot, wide_le g.x) in
      let a : 8 ≤ above s d = omega (arith, h.0) in
      let md : Middle s (above s d - 8) = subst (λ (y : ℕ). Middle s (y - 8)) e h.1 in
      let one : sum n (mids t d) ≡ mids t d (above s d - 8) = sum_one n (mids t d) (above s d - 8) (omega (arith, g.node)) (λ c lc ne. mids_none t d c (λ z. ne (omega arith))) in
      rw (
        one,
        ne_eqb (up s d) (128 + t) (λ z. omega arith),
        eq-eqb (up s d) (128 + (8 + (above s d - 8))) (omega arith),
        seat_eqb t (above s d - 8) md.0,
        le-leb 65536 (s.tag d) u,
        le-ltb (above s d) 8 a,
      ) (omega arith)

  -- a seat reaches as many cells as it owns
  pub seat_reach : (t : ℕ) → t < 8 → reach 3 (2 ∷ 2 ∷ []) (tree 3 (2 ∷ 2 ∷ []) s t) ≡ sum n (λ c. cond (owns s t c) 1 0)
  seat_reach t ht =
      reach_tree s 3 2 (2 ∷ []) t
      ∙ ap (λ (m : ℕ). sum m (link s (λ c. suc (reach 2 (2 ∷ []) (tree 2 (2 ∷ []) s (8 + c)))) t)) (sym (top_wide t ht))
      ∙ sym (by_marks (λ c. suc (reach 2 (2 ∷ []) (tree 2 (2 ∷ []) s (8 + c)))) t (omega arith) (inl ht))
      ∙ sum_same n _ _ parts
      ∙ sum_add n (held s t (λ i. 1)) (λ c. sum n (λ d. mids t d c))
      ∙ ap (λ (x : ℕ). sum n (held s t (λ i. 1)) + x) (sum_swap n n (λ c d. mids t d c))
      ∙ sym (sum_add n (held s t (λ i. 1)) (λ d. sum n (mids t d)))
      ∙ sum_same n _ _ (λ d hd. ⊎_elim (λ g. owned_free t d g) (λ g. owned_held t d ht g g.fork) (sd.cell d hd))
    where
      middle : (c : ℕ) → c < n → Middle s c → reach 2 (2 ∷ []) (tree 2 (2 ∷ []) s (8 + c)) ≡ sum n (held s (8 + c) (λ i. 1))
      middle c lc md =
          reach_tree s 2 2 [] (8 + c)
          ∙ ap (λ (f : ℕ → ℕ). sum (size 2) (link s f (8 + c))) (fun_ext (λ d. ap suc (reach_leaf s 2 (8 + d))))
          ∙ ap (λ (m : ℕ). sum m (link s (λ d. 1) (8 + c))) (sym (cell_wide c))
          ∙ sym (by_marks (λ d. 1) (8 + c) (omega arith) (inr (omega arith, subst (λ (i : ℕ). Middle s i) (omega arith) md)))

      parts : (c : ℕ) → c < n → held s t (λ c. suc (reach 2 (2 ∷ []) (tree 2 (2 ∷ []) s (8 + c)))) c ≡ held s t (λ i. 1) c + sum n (λ d. mids t d c)
      parts c lc = cases (eqb (up s c) (128 + t))
          (λ e. let u : up s c ≡ 128 + t = eqb-true _ _ e in rw e (omega (arith, middle c lc (omega arith, omega arith))))
          (λ e. rw e (omega (arith, sum_zero n (λ d. 0) (λ d l. refl))))

  owner_lt : (c : ℕ) (g : Held n s c) → Fork s g.x → owner s c < 8
  unfolding owner
  owner_lt c g (inl h) =
      let a : above s c < 8 = omega (arith, g.says, g.slot, wide_le g.x) in
      rw (lt-ltb (above s c) 8 a) a
  owner_lt c g (inr h) =
      let e : g.x ≡ above s c = omega (arith, g.says, g.slot, wide_le g.x) in
      let md : Middle s (above s c - 8) = subst (λ (y : ℕ). Middle s (y - 8)) e h.1 in
      rw (le-ltb (above s c) 8 (omega (arith, h.0))) (omega (arith, md.0, md.1))

  -- a used cell has one owner, and a free cell none
  pub one_owner : (c : ℕ) → c < n → Used s c → (t : ℕ) × (t < 8) × (owns s t c ≡ true) × ((t' : ℕ) → owns s t' c ≡ true → t' ≡ t)
  one_owner c lc u =
      let g : Held n s c = held_of c lc u in
      (owner s c, owner_lt c g g.fork, rw (le-leb 65536 (s.tag c) u) (eq-eqb (owner s c) (owner s c) refl), λ t' e. sym (eqb-true _ _ (and_both (leb 65536 (s.tag c)) (eqb (owner s c) t') e).1))

  pub free_unowned : (c t : ℕ) → Free s c → owns s t c ≡ false
  free_unowned c t g = rw (lt-leb 65536 (s.tag c) (omega (arith, g.below, sd.few, sd.room))) refl

  -- ---- the free cells, counted by the stack
  free_sum : sum n (λ c. one_if (ltb (s.tag c) s.count)) ≡ s.count
  free_sum =
      sym (
      sym (sum_ones s.count)
      ∙ sum_same s.count _ _ (λ i hi. sym (place i hi))
      ∙ sum_swap s.count n (λ i c. one_if (eqb (s.tag c) i))
      ∙ sum_same n _ _ one
      )
    where
      only : (c i : ℕ) → c < n → i < s.count → s.tag c ≡ i → c ≡ s.stack i
      only c i lc hi u = ⊎_elim (λ f. sym f.there ∙ ap s.stack u) (λ d. absurd (omega (arith, d.says, sd.few, sd.room))) (sd.cell c lc)

      place : (i : ℕ) → i < s.count → sum n (λ c. one_if (eqb (s.tag c) i)) ≡ 1
      place i hi =
          let g : Stacked n s i = sd.stacked i hi in
          sum_one n (λ c. one_if (eqb (s.tag c) i)) (s.stack i) g.inside (λ c lc ne. rw (ne_eqb (s.tag c) i (λ u. ne (only c i lc hi u))) refl)
          ∙ rw (eq-eqb (s.tag (s.stack i)) i g.tagged) refl

      one : (c : ℕ) → c < n → sum s.count (λ i. one_if (eqb (s.tag c) i)) ≡ one_if (ltb (s.tag c) s.count)
      one c lc = cases (ltb (s.tag c) s.count)
          (λ e. sum_one s.count (λ i. one_if (eqb (s.tag c) i)) (s.tag c) (ltb-true _ _ e) (λ i hi ne. rw (ne_eqb (s.tag c) i (λ z. ne (sym z))) refl)
          ∙ rw (e, eq-eqb (s.tag c) (s.tag c) refl) refl)
          (λ e. sum_zero s.count _ (λ i hi. rw (ne_eqb (s.tag c) i (λ z. omega (arith, ltb-false (s.tag c) s.count e))) refl) ∙ rw e refl)

  -- a cell is free or has one owner
  free_or_owned : (c : ℕ) → c < n → one_if (ltb (s.tag c) s.count) + sum 8 (λ t. one_if (owns s t c)) ≡ 1
  free_or_owned c lc = ⊎_elim
      (λ g. rw (lt-ltb (s.tag c) s.count g.below, sum_zero 8 (λ t. one_if (owns s t c)) (λ t h. ap one_if (free_unowned c t g))) refl)
      (λ g.
      let u : Used s c = omega (arith, g.says) in
      rw (
        le-ltb (s.tag c) s.count (omega (arith, sd.few, sd.room)),
        sum_one 8 (λ t. one_if (owns s t c)) (owner s c) (owner_lt c g g.fork) (λ t h ne. rw (le-leb 65536 (s.tag c) u, ne_eqb (owner s c) t (λ e. ne (sym e))) refl),
        le-leb 65536 (s.tag c) u,
        eq-eqb (owner s c) (owner s c) refl,
      ) refl)
      (sd.cell c lc)

  -- "Free cells plus cells reached equals all cells"
  pub pool_equation : s.count + sum 8 (λ t. reach 3 (2 ∷ 2 ∷ []) (tree 3 (2 ∷ 2 ∷ []) s t)) ≡ n
  pool_equation =
      omega (
        arith,
        free_sum,
        sum_same 8 _ _ seat_reach ∙ sum_swap 8 n (λ t c. one_if (owns s t c)),
        sum_add n (λ c. one_if (ltb (s.tag c) s.count)) (λ c. sum 8 (λ t. one_if (owns s t c))),
        sum_same n _ _ free_or_owned,
        sum_ones n,
      )
