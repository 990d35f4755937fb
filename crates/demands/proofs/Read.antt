-- What a call reads of any memory, sound or not, beside the words of document 01's table: the path to a voxel, the free cells needed, and empty branches. Assumes nothing.
use mathlib.Core.Path.{◌≡◌, refl, sym, ap, ap₂, ◌∙◌}
use mathlib.Core.Bool.{Bool, true, false, not, ◌&&◌, ◌||◌, false≢true}
use mathlib.Core.List.{List, [], ◌∷◌}
use mathlib.Core.Logic.{inl, inr}
use Prim.Native.Nat.{ℕ, zero, suc, ◌+◌, ◌-◌, ◌%◌, ◌<◌}
use native.Mathlib.Nat.{mod-eq_of_lt}
use native.Mathlib.Omega.{arith}
use lib.ListN.{length}
use lib.Dec.{ltb, leb, eqb}
use borrow.Author.Tests.{lt-ltb, le-ltb, ltb-true, ltb-false, lt-leb, leb-true, leb-false, eqb-true, eqb-false, not-true, not-false}
use Rattle.floats.specs.Value.{is_finite}
use Rattle.floats.proofs.Words.{on_case}
use Rattle.bitset.specs.Set.{every}
use Rattle.bitset.proofs.Digits.{lt_or_le}
use Rattle.bitset.proofs.Every.{and_both, every_intro, every_elim}
use Rattle.grid.specs.Geometry.{Point, slot_of}
use Rattle.grid.specs.Node as slots
use Rattle.grid.specs.Node.{on_slot, is_hidden, size}
use Rattle.grid.specs.Whole.{hollow, hollow_s, has_hollow}
use Rattle.grid.proofs.Geometry.{slot_lt}
use Rattle.grid.proofs.Places.{every_at}
use Rattle.seats.specs.Call.{One, Insert, Remove}
use Rattle.seats.specs.Step.{need_one}
use Rattle.seats.proofs.Names.{or_none_lem}
use Rattle.nodes.specs.State.{St, flat, slot_at, tree}
use Rattle.nodes.specs.Walk.{Reach, active, hidden, reach_at, reach_s, need_insert_r, need_remove_r}
use Rattle.means.specs.Ends.{ends}
use Rattle.means.specs.Mem.{Mem, cells_of, pool_of, seat_of, walk, whole, linked}
use Rattle.means.proofs.Bare.{hidden_flat, hidden_slot, every_as}
use Rattle.means.proofs.Lookup.{ends_insert, ends_remove}
use Rattle.demands.specs.Rows.{BadPath, BadFree, needed, Bare, BareBranch}

-- ---- the path to the point p
module _ (m : Mem) (p : Point) where
  abbrev reached : (b : ℕ) (bs : List ℕ) → ℕ → Reach
  reached b bs x = reach_s b bs (cells_of m) (pool_of m) x p

  -- at a slot that is no branch only its value counts
  value_counts : (l x k : ℕ) → whole (reach_at l (pool_of m) x k) ≡ is_finite ((pool_of m).slot x k)
  value_counts l x k = on_case (is_finite ((pool_of m).slot x k))
      (λ f. rw f (on_case ((pool_of m).val x k) (λ v. rw v refl) (λ v. rw v refl)))
      (λ f. rw f refl)

  pub bad_path : (b : ℕ) (bs : List ℕ) (x : ℕ) → whole (reached b bs x) ≡ false → BadPath b bs m x p
  unfolding reach_s
  bad_path b [] x e = sym (value_counts 0 x (slot_of b [] p)) ∙ e
  bad_path b (c ∷ bs) x e =
      let k = slot_of b (c ∷ bs) p in
      on_case ((pool_of m).kid x k)
      (λ a. inl (
        a,
        on_case ((pool_of m).val x k) inl (λ v. inr (on_case (ltb ((pool_of m).slot x k) (cells_of m))
            (λ l. inr (bad_path c bs (8 + (pool_of m).slot x k) (rw (a, v, l) at e)))
            (λ l. inl (ltb-false ((pool_of m).slot x k) (cells_of m) l)))),
      ))
      (λ a. inr (a, sym (value_counts (suc (length bs)) x k) ∙ (rw a at e)))

  pub path_bad : (b : ℕ) (bs : List ℕ) (x : ℕ) → BadPath b bs m x p → whole (reached b bs x) ≡ false
  unfolding reach_s
  path_bad b [] x h = value_counts 0 x (slot_of b [] p) ∙ h
  path_bad b (c ∷ bs) x (inr (a, h)) = rw a (value_counts (suc (length bs)) x (slot_of b (c ∷ bs) p) ∙ h)
  path_bad b (c ∷ bs) x (inl (a, inl v)) = rw (a, v) refl
  path_bad b (c ∷ bs) x (inl (a, inr (inl l))) =
      rw (a, le-ltb _ _ l) (on_case ((pool_of m).val x (slot_of b (c ∷ bs) p)) (λ v. rw v refl) (λ v. rw v refl))
  path_bad b (c ∷ bs) x (inl (a, inr (inr h))) =
      let k = slot_of b (c ∷ bs) p in
      rw a (on_case ((pool_of m).val x k) (λ v. rw v refl) (λ v. rw v (on_case (ltb ((pool_of m).slot x k) (cells_of m))
      (λ l. rw l (path_bad c bs (8 + (pool_of m).slot x k) h))
      (λ l. rw l refl))))

  -- a walk that does not break off ends where the meaning's does
  flat_ends : {C : Type 0} (f : C → Reach) (l x k : ℕ) → whole (reach_at l (pool_of m) x k) ≡ true
      → reach_at l (pool_of m) x k ≡ on_slot f (active l) (hidden l) (flat (pool_of m) x k)
  flat_ends f l x k w = rw (sym (value_counts l x k) ∙ w) (on_case ((pool_of m).val x k) (λ v. rw v refl) (λ v. rw v refl))

  good_ends : (b : ℕ) (bs : List ℕ) (x : ℕ) → whole (reached b bs x) ≡ true → reached b bs x ≡ ends (b ∷ bs) (tree b bs (pool_of m) x) p
  unfolding reach_s ends tree
  good_ends b [] x w = rw (mod-eq_of_lt (slot_lt b [] p)) (flat_ends (λ c. absurd c) 0 x (slot_of b [] p) w)
  good_ends b (c ∷ bs) x w =
      let k = slot_of b (c ∷ bs) p in
      rw (mod-eq_of_lt (slot_lt b (c ∷ bs) p)) (on_case ((pool_of m).kid x k)
      (λ a. on_case ((pool_of m).val x k)
      (λ v. absurd (false≢true (rw (a, v) at w)))
      (λ v. on_case (ltb ((pool_of m).slot x k) (cells_of m))
      (λ l. rw (a, v, l) (good_ends c bs (8 + (pool_of m).slot x k) (rw (a, v, l) at w)))
      (λ l. absurd (false≢true (rw (a, v, l) at w)))))
      (λ a. rw a (flat_ends (λ d. ends (c ∷ bs) d p) (suc (length bs)) x k (rw a at w))))

-- ---- the free cells needed
every_fails : (f : ℕ → Bool) (n : ℕ) → every f n ≡ false → (k : ℕ) × (k < n) × (f k ≡ false)
unfolding every
every_fails f zero e = absurd (false≢true (sym e))
every_fails f (suc n) e = on_case (f n)
    (λ t. let h = every_fails f n (rw t at e) in (h.0, omega (arith, h.1), h.2))
    (λ t. (n, omega arith, t))

module _ (m : Mem) (need : ℕ) where
  abbrev all : ℕ
  all = cells_of m

  abbrev count : ℕ
  count = (pool_of m).count

  abbrev place : ℕ → Bool
  place j = leb count j || ltb ((pool_of m).stack (count - 1 - j)) all

  pub bad_free : linked all (pool_of m) need ≡ false → BadFree m need
  unfolding linked
  bad_free e =
      let a = or_none_lem (eqb need 0) (leb count all && every place need) e in
      on_case (leb count all)
      (λ l.
      let h = every_fails place need (rw l at a.1) in
      let j = h.0 in
      let q = or_none_lem (leb count j) (ltb ((pool_of m).stack (count - 1 - j)) all) h.2 in
      (count - 1 - j, omega (arith, leb-false count j q.0), omega (arith, h.1), inr (ltb-false ((pool_of m).stack (count - 1 - j)) all q.1)))
      (λ l.
      let o = leb-false count all l in
      (count - 1, omega (arith, o), omega (arith, eqb-false need 0 a.0, o), inl (omega (arith, o))))

  pub links_in : linked all (pool_of m) need ≡ true → BadFree m need → ⊥
  unfolding linked
  links_in e (i, l, h, b) = on_case (eqb need 0)
      (λ z. omega (arith, eqb-true need 0 z))
      (λ z.
      let q = and_both (leb count all) (every place need) (rw z at e) in
      let t = every_elim place need q.1 (count - 1 - i) (omega arith) in
      let u : count - 1 - (count - 1 - i) ≡ i = omega arith in
      let v : ltb ((pool_of m).stack i) all ≡ true = rw (lt-leb count (count - 1 - i) (omega arith), u) at t in
      elim b [
        | inl o ↦ omega (arith, leb-true count all q.0)
        | inr o ↦ omega (arith, ltb-true ((pool_of m).stack i) all v)
      ])

-- ---- masks that are empty
slots_fail : {A : Type 0} (f : A → Bool) (k : ℕ) (t : ℕ → A) → slots.every f k t ≡ false → (j : ℕ) × (j < k) × (f (t j) ≡ false)
slots_fail f k t e = every_fails (λ j. f (t j)) k (sym (every_as f k t (λ j. f (t j)) (λ j l. refl)) ∙ e)

slots_pass : {A : Type 0} (f : A → Bool) (k : ℕ) (t : ℕ → A) → ((j : ℕ) → j < k → f (t j) ≡ true) → slots.every f k t ≡ true
slots_pass f k t h = every_as f k t (λ j. true) h ∙ every_intro (λ j. true) k (λ j l. refl)

module _ (s : St) where
  pub is_bare : (b : ℕ) (bs : List ℕ) (x : ℕ) → slots.every is_hidden (size b) (tree b bs s x) ≡ true → Bare b bs s x
  unfolding tree
  is_bare b [] x e = λ k l.
      not-true (s.val x k) (sym (hidden_flat s x k) ∙ (rw (mod-eq_of_lt l) at (every_at is_hidden (size b) (tree b [] s x) k e l)))
  is_bare b (c ∷ bs) x e = λ k l.
      let h = and_both (not (s.val x k)) (not (s.kid x k))
      (sym (hidden_slot (tree c bs s) s x k) ∙ (rw (mod-eq_of_lt l) at (every_at is_hidden (size b) (tree b (c ∷ bs) s x) k e l))) in
      (not-true (s.val x k) h.0, not-true (s.kid x k) h.1)

  pub bare_is : (b : ℕ) (bs : List ℕ) (x : ℕ) → Bare b bs s x → slots.every is_hidden (size b) (tree b bs s x) ≡ true
  unfolding tree
  bare_is b [] x h = slots_pass is_hidden (size b) (tree b [] s x) (λ k l. rw (mod-eq_of_lt l) (hidden_flat s x k ∙ ap not (h k l)))
  bare_is b (c ∷ bs) x h = slots_pass is_hidden (size b) (tree b (c ∷ bs) s x) (λ k l.
      rw (mod-eq_of_lt l) (hidden_slot (tree c bs s) s x k ∙ ap₂ (λ (a d : Bool). not a && not d) (h k l).0 (h k l).1))

  -- a slot that is no branch has no empty branch
  flat_solid : (bs : List ℕ) (x k : ℕ) → hollow_s bs (flat s x k) ≡ false
  flat_solid bs x k = on_case (s.val x k) (λ v. rw v refl) (λ v. rw v refl)

  pub bare_branch : (b : ℕ) (bs : List ℕ) (x : ℕ) → has_hollow b bs (tree b bs s x) ≡ true → BareBranch b bs s x
  unfolding has_hollow hollow tree
  bare_branch b [] x e =
      let (k, l, h) = slots_fail (λ t. not (hollow_s [] t)) (size b) (tree b [] s x) (not-true _ e) in
      absurd (false≢true (sym h ∙ ap not (flat_solid [] x (k % size b))))
  bare_branch b (c ∷ bs) x e =
      let (k, l, h) = slots_fail (λ t. not (hollow_s (c ∷ bs) t)) (size b) (tree b (c ∷ bs) s x) (not-true _ e) in
      let g : not (hollow_s (c ∷ bs) (slot_at (tree c bs s) s x k)) ≡ false = rw (mod-eq_of_lt l) at h in
      on_case (s.kid x k)
      (λ a.
      let y : ℕ = 8 + s.slot x k in
      let d : slots.every is_hidden (size c) (tree c bs s y) || has_hollow c bs (tree c bs s y) ≡ true = not-false _ (rw a at g) in
      (k, l, a, on_case (slots.every is_hidden (size c) (tree c bs s y)) (λ f. inl (is_bare c bs y f)) (λ f. inr (bare_branch c bs y (rw f at d)))))
      (λ a. absurd (false≢true (sym (rw a at g) ∙ ap not (flat_solid (c ∷ bs) x k))))

  pub no_branch_bare : (b : ℕ) (bs : List ℕ) (x : ℕ) → has_hollow b bs (tree b bs s x) ≡ false → BareBranch b bs s x → ⊥
  unfolding has_hollow hollow tree
  no_branch_bare b [] x e h = h
  no_branch_bare b (c ∷ bs) x e (k, l, a, h) =
      let y : ℕ = 8 + s.slot x k in
      let g : not (slots.every is_hidden (size c) (tree c bs s y) || has_hollow c bs (tree c bs s y)) ≡ true =
      rw (mod-eq_of_lt l, a) at (every_at (λ t. not (hollow_s (c ∷ bs) t)) (size b) (tree b (c ∷ bs) s x) k (not-false _ e) l) in
      let d = or_none_lem (slots.every is_hidden (size c) (tree c bs s y)) (has_hollow c bs (tree c bs s y)) (not-true _ g) in
      elim h [
        | inl o ↦ false≢true (sym d.0 ∙ bare_is c bs y o)
        | inr o ↦ no_branch_bare c bs y d.1 o
      ]

-- ---- seat i
pub at_most_7 : (i : ℕ) → (7 < i → ⊥) → i < 8
at_most_7 i h = elim (lt_or_le i 8) [
  | inl l ↦ l
  | inr l ↦ absurd (h l)
]

module _ (m : Mem) (i : ℕ) (l : i < 8) where
  pub grid_is : (seat_of m i).grid ≡ tree 3 (2 ∷ 2 ∷ []) (pool_of m) i
  unfolding seat_of
  grid_is = rw (lt-ltb i 8 l) refl

  -- where the walk does not break off, the cells needed are those of the rule
  module _ (p : Point) (g : whole (walk m i p) ≡ true) where
    -- it ends where the meaning's walk does
    pub walk_ends : walk m i p ≡ ends (3 ∷ 2 ∷ 2 ∷ []) (seat_of m i).grid p
    unfolding walk
    walk_ends = rw grid_is (good_ends m p 3 (2 ∷ 2 ∷ []) i g)

    pub insert_needs : (w : ℕ) → need_insert_r (walk m i p) w ≡ needed (One i (Insert p w)) m
    unfolding walk need_one
    insert_needs w = rw grid_is (ap (λ r. need_insert_r r w) (good_ends m p 3 (2 ∷ 2 ∷ []) i g) ∙ ends_insert 3 (2 ∷ 2 ∷ []) (tree 3 (2 ∷ 2 ∷ []) (pool_of m) i) p w)

    pub remove_needs : need_remove_r (walk m i p) ≡ needed (One i (Remove p)) m
    unfolding walk need_one
    remove_needs = rw grid_is (ap need_remove_r (good_ends m p 3 (2 ∷ 2 ∷ []) i g) ∙ ends_remove 3 (2 ∷ 2 ∷ []) (tree 3 (2 ∷ 2 ∷ []) (pool_of m) i) p)
