-- The walk to a point on a sound pool ends where the meaning's does, and what is read there is the meaning's lookup, sign and need. Assumes nothing.
use mathlib.Core.Path.{◌≡◌, refl, sym, ap, ◌∙◌, subst}
use mathlib.Core.Bool.{Bool, true, false, cond}
use mathlib.Core.List.{List, [], ◌∷◌}
use mathlib.Core.Option.{none, some}
use Prim.Native.Nat.{ℕ, zero, suc, ◌+◌, ◌<◌, ◌≤◌}
use native.Mathlib.Omega.{arith}
use native.Mathlib.Nat.{mod-eq_of_lt}
use lib.ListN.{length}
use borrow.Author.Tests.{lt-ltb}
use Rattle.floats.specs.Value.{is_finite, negative, equal}
use Rattle.floats.proofs.Words.{on_case}
use Rattle.grid.specs.Geometry.{Point, slot_of}
use Rattle.grid.specs.Node.{branch, tile, hidden, on_slot, slot_ind, Node, SlotOf}
use Rattle.grid.specs.Voxel.{lookup, sign_at, need_insert_s, need_remove_s}
use Rattle.grid.proofs.Geometry.{slot_lt}
use Rattle.nodes.specs.State.{St, Link, Sound, flat, slot_at, tree}
use Rattle.nodes.specs.Walk as walk
use Rattle.nodes.specs.Walk.{branching, below, Reach, broken, reach_at, reach_s, need_insert_r, need_remove_r}
use Rattle.means.specs.Level.{levels, span, tree_at, At}
use Rattle.means.specs.Ends.{ends, shown, signed}
use Rattle.means.proofs.Levels.{at_link, at_down, at_finite, at_leaf_finite}

-- ---- what is read at the end of the meaning's walk
pub ends_known : (bs : List ℕ) (g : Node bs) (p : Point) → ends bs g p ≡ broken → ⊥
unfolding ends
ends_known [] g p e = absurd g
ends_known (b ∷ bs) g p e = slot_ind (λ t. on_slot (λ c. ends bs c p) (walk.active (length bs)) (walk.hidden (length bs)) t ≡ broken → ⊥)
    (λ c. ends_known bs c p)
    (λ v d. let z : ◌≡◌ {A = ℕ} 0 1 = cc in omega arith)
    (λ v d. let z : ◌≡◌ {A = ℕ} 0 1 = cc in omega arith)
    (g (slot_of b bs p)) e

pub ends_shown : (bs : List ℕ) (g : Node bs) (p : Point) → shown (ends bs g p) ≡ lookup bs g p
unfolding ends lookup
ends_shown [] g p = absurd g
ends_shown (b ∷ bs) g p =
    slot_ind (λ t. shown (on_slot (λ c. ends bs c p) (walk.active (length bs)) (walk.hidden (length bs)) t) ≡ on_slot (λ c. lookup bs c p) some (λ v. none) t)
    (λ c. ends_shown bs c p) (λ v. refl) (λ v. refl) (g (slot_of b bs p))

pub ends_signed : (bs : List ℕ) (g : Node bs) (p : Point) → signed (ends bs g p) ≡ sign_at bs g p
unfolding ends sign_at
ends_signed [] g p = absurd g
ends_signed (b ∷ bs) g p =
    slot_ind (λ t. signed (on_slot (λ c. ends bs c p) (walk.active (length bs)) (walk.hidden (length bs)) t) ≡ on_slot (λ c. sign_at bs c p) negative negative t)
    (λ c. ends_signed bs c p) (λ v. refl) (λ v. refl) (g (slot_of b bs p))

-- ---- the cells that are needed
cond_one : (b : Bool) (m : ℕ) → cond b m m ≡ m
cond_one true m = refl
cond_one false m = refl

pub ends_insert : (b : ℕ) (bs : List ℕ) (g : Node (b ∷ bs)) (p : Point) (w : ℕ) → need_insert_r (ends (b ∷ bs) g p) w ≡ need_insert_s bs p w (g (slot_of b bs p))
unfolding ends need_insert_s
ends_insert b [] g p w =
    slot_ind (λ t. need_insert_r (on_slot (λ c. absurd c) (walk.active 0) (walk.hidden 0) t) w ≡ 0)
    (λ c. absurd c) (λ v. cond_one (equal v w) 0) (λ v. refl) (g (slot_of b [] p))
ends_insert b (c ∷ bs) g p w =
    slot_ind (λ t. need_insert_r (on_slot (λ d. ends (c ∷ bs) d p) (walk.active (suc (length bs))) (walk.hidden (suc (length bs))) t) w ≡ need_insert_s (c ∷ bs) p w t)
    (λ d. ends_insert c bs d p w) (λ v. refl) (λ v. refl) (g (slot_of b (c ∷ bs) p))

pub ends_remove : (b : ℕ) (bs : List ℕ) (g : Node (b ∷ bs)) (p : Point) → need_remove_r (ends (b ∷ bs) g p) ≡ need_remove_s bs p (g (slot_of b bs p))
unfolding ends need_remove_s
ends_remove b [] g p =
    slot_ind (λ t. need_remove_r (on_slot (λ c. absurd c) (walk.active 0) (walk.hidden 0) t) ≡ 0)
    (λ c. absurd c) (λ v. refl) (λ v. refl) (g (slot_of b [] p))
ends_remove b (c ∷ bs) g p =
    slot_ind (λ t. need_remove_r (on_slot (λ d. ends (c ∷ bs) d p) (walk.active (suc (length bs))) (walk.hidden (suc (length bs))) t) ≡ need_remove_s (c ∷ bs) p t)
    (λ d. ends_remove c bs d p) (λ v. refl) (λ v. refl) (g (slot_of b (c ∷ bs) p))

-- no more than the levels below
pub insert_most : (b : ℕ) (bs : List ℕ) (g : Node (b ∷ bs)) (p : Point) (w : ℕ) → need_insert_r (ends (b ∷ bs) g p) w ≤ length bs
unfolding ends
insert_most b bs g p w = go bs (g (slot_of b bs p))
  where
    some_of : (b : Bool) (m : ℕ) → cond b 0 m ≤ m
    some_of true m = omega arith
    some_of false m = omega arith

    go : (bs : List ℕ) (t : SlotOf bs) → need_insert_r (on_slot (λ c. ends bs c p) (walk.active (length bs)) (walk.hidden (length bs)) t) w ≤ length bs
    go [] (branch c) = absurd c
    go (c ∷ bs) (branch d) = omega (arith, go bs (d (slot_of c bs p)))
    go [] (tile v) = some_of (equal v w) 0
    go (c ∷ bs) (tile v) = some_of (equal v w) (suc (length bs))
    go [] (hidden v) = omega arith
    go (c ∷ bs) (hidden v) = omega arith

pub remove_most : (b : ℕ) (bs : List ℕ) (g : Node (b ∷ bs)) (p : Point) → need_remove_r (ends (b ∷ bs) g p) ≤ length bs
unfolding ends
remove_most b bs g p = go bs (g (slot_of b bs p))
  where
    go : (bs : List ℕ) (t : SlotOf bs) → need_remove_r (on_slot (λ c. ends bs c p) (walk.active (length bs)) (walk.hidden (length bs)) t) ≤ length bs
    go [] (branch c) = absurd c
    go (c ∷ bs) (branch d) = omega (arith, go bs (d (slot_of c bs p)))
    go [] (tile v) = omega arith
    go (c ∷ bs) (tile v) = omega arith
    go [] (hidden v) = omega arith
    go (c ∷ bs) (hidden v) = omega arith

-- ---- the walk
module _ (n : ℕ) (s : St) (p : Point) where
  -- at a slot that is no branch
  at_flat : {C : Type 0} (f : C → Reach) (l x k : ℕ) → is_finite (s.slot x k) ≡ true → reach_at l s x k ≡ on_slot f (walk.active l) (walk.hidden l) (flat s x k)
  at_flat f l x k h = rw h (on_case (s.val x k) (λ e. rw e refl) (λ e. rw e refl))

  pub reach_right : Sound n s → (l x : ℕ) → At n s l x → reach_s (branching l) (below l) n s x p ≡ ends (levels l) (tree_at l s x) p
  unfolding reach_s ends tree
  reach_right sd zero x h =
      at_flat (λ c. absurd c) 0 x (slot_of 2 [] p) (at_leaf_finite sd x (slot_of 2 [] p) h (slot_lt 2 [] p))
      ∙ ap (λ (k : ℕ). on_slot (λ c. absurd c) (walk.active 0) (walk.hidden 0) (flat {C = ⊥} s x k)) (sym (mod-eq_of_lt (slot_lt 2 [] p)))
  reach_right sd (suc l) x h = go (reach_right sd l (8 + s.slot x k)) ∙ ap (λ (k : ℕ). on_slot down (walk.active m) (walk.hidden m) (slot_at (tree_at l s) s x k)) (sym (mod-eq_of_lt q))
    where
      k : ℕ
      k = slot_of (branching (suc l)) (below (suc l)) p

      q : k < span (suc l)
      q = slot_lt (branching (suc l)) (below (suc l)) p

      m : ℕ
      m = suc (length (below l))

      down : Node (levels l) → Reach
      down c = ends (levels l) c p

      go : (At n s l (8 + s.slot x k) → reach_s (branching l) (below l) n s (8 + s.slot x k) p ≡ down (tree_at l s (8 + s.slot x k)))
          → reach_s (branching (suc l)) (below (suc l)) n s x p ≡ on_slot down (walk.active m) (walk.hidden m) (slot_at (tree_at l s) s x k)
      go ih = on_case (s.kid x k)
          (λ e. let d : Link n s x k = at_link sd l x k h q e in rw (e, d.single, lt-ltb (s.slot x k) n d.inside) (ih (at_down sd l x k h q e)))
          (λ e. rw e (at_flat down m x k (at_finite sd l x k h q e)))

  module _ (sd : Sound n s) (l x : ℕ) (h : At n s l x) where
    abbrev end : Reach
    end = reach_s (branching l) (below l) n s x p

    abbrev slot : SlotOf (below l)
    slot = tree_at l s x (slot_of (branching l) (below l) p)

    pub reach_known : end ≡ broken → ⊥
    reach_known e = ends_known (levels l) (tree_at l s x) p (sym (reach_right sd l x h) ∙ e)

    pub lookup_right : shown end ≡ lookup (levels l) (tree_at l s x) p
    lookup_right = ap shown (reach_right sd l x h) ∙ ends_shown (levels l) (tree_at l s x) p

    pub sign_right : signed end ≡ sign_at (levels l) (tree_at l s x) p
    sign_right = ap signed (reach_right sd l x h) ∙ ends_signed (levels l) (tree_at l s x) p

    pub need_insert_right : (w : ℕ) → need_insert_r end w ≡ need_insert_s (below l) p w slot
    need_insert_right w = ap (λ r. need_insert_r r w) (reach_right sd l x h) ∙ ends_insert (branching l) (below l) (tree_at l s x) p w

    pub need_remove_right : need_remove_r end ≡ need_remove_s (below l) p slot
    need_remove_right = ap need_remove_r (reach_right sd l x h) ∙ ends_remove (branching l) (below l) (tree_at l s x) p

    pub need_insert_most : (w : ℕ) → need_insert_r end w ≤ length (below l)
    need_insert_most w = subst (λ r. need_insert_r r w ≤ length (below l)) (sym (reach_right sd l x h)) (insert_most (branching l) (below l) (tree_at l s x) p w)

    pub need_remove_most : need_remove_r end ≤ length (below l)
    need_remove_most = subst (λ r. need_remove_r r ≤ length (below l)) (sym (reach_right sd l x h)) (remove_most (branching l) (below l) (tree_at l s x) p)
