-- The laws of a node turned into another: nothing done, one after another, below a branch, and what another top sees. Assumes nothing.
use mathlib.Core.Path.{◌≡◌, refl, sym, ap, ◌∙◌, subst}
use mathlib.Core.Bool.{true}
use mathlib.Core.Logic.{◌≢◌, inr, ⊎_elim}
use Prim.Native.Nat.{ℕ, suc, ◌+◌, ◌<◌}
use Rattle.grid.specs.Node.{branch, Node, SlotOf, changed}
use Rattle.nodes.specs.State.{St, Live, Sound}
use Rattle.nodes.specs.Walk.{branching, below}
use Rattle.means.specs.Level.{levels, span, tree_at, At, In, Same, Kept, Outside, Turned}
use Rattle.means.proofs.Levels.{at_inside, at_live, kept_live, kept_at}
use Rattle.means.proofs.Slots.{slot_branch, tree_round, changed_twice, changed_like, changed_none}
use Rattle.means.proofs.Unspoilt.{unspoilt_same, unspoilt_then}
use Rattle.means.proofs.Frame.{in_own, tree_frame, in_frame, Under, under, own_apart, branch_apart, node_apart, in_there, slot_tree, slot_in}

-- ---- what is kept
pub kept_then : {s r t : St} {y : ℕ} → Kept s r y → Kept r t y → Kept s t y
kept_then a b =
    record {
      slots = λ k. record { slot = (a.slots k).slot ∙ (b.slots k).slot; kid = (a.slots k).kid ∙ (b.slots k).kid; val = (a.slots k).val ∙ (b.slots k).val };
      tag = λ h. a.tag h ∙ b.tag h;
    }

-- ---- nothing done; one change after another
pub stay : {n : ℕ} (l x : ℕ) (s : St) → Sound n s → At n s l x → Turned n l x s s (tree_at l s x)
stay l x s sd h =
    record {
      sound = sd;
      at = h;
      grid = refl;
      keep = λ y o. record { slots = λ k. record { slot = refl; kid = refl; val = refl }; tag = λ q. refl };
      within = λ y o. o.out;
      marks = refl;
      unspoilt = unspoilt_same s;
    }

module _ {n l x : ℕ} {s r : St} {g : Node (levels l)} (a : Turned n l x s r g) where
  pub still_out : (y : ℕ) → Outside n l s x y → Outside n l r x y
  still_out y o = record { inside = o.inside; live = kept_live s r y (a.keep y o).tag o.live; out = a.within y o }

  pub then : {t : St} {g' : Node (levels l)} → Turned n l x r t g' → Turned n l x s t g'
  then b =
      record {
        sound = b.sound;
        at = b.at;
        grid = b.grid;
        keep = λ y o. kept_then (a.keep y o) (b.keep y (still_out y o));
        within = λ y o. b.within y (still_out y o);
        marks = b.marks ∙ a.marks;
        unspoilt = unspoilt_then a.unspoilt b.unspoilt;
      }

  pub into : {g' : Node (levels l)} → g ≡ g' → Turned n l x s r g'
  into e = subst (Turned n l x s r) e a

-- ---- a tree that shares no node with the one that is changed
abbrev pub Apart : ℕ → St → ℕ → ℕ → Type 0
Apart l s x y = (z : ℕ) → In l s x z → In l s y z → ⊥

module _ {n l y : ℕ} {s r : St} {g : Node (levels l)} (sd : Sound n s) (a : Turned n l y s r g) (x : ℕ) (h : At n s l x) (apart : Apart l s x y) where
  apart_out : (z : ℕ) → In l s x z → Outside n l s y z
  apart_out z i = let c : (z < 8 + n) × Live s z = in_there sd l x h z i in record { inside = c.0; live = c.1; out = apart z i }

  apart_same : (z : ℕ) → In l s x z → Same s r z
  apart_same z i = (a.keep z (apart_out z i)).slots

  -- its nodes, and it is as it was and still shares none
  pub apart_in : (z : ℕ) → In l r x z → In l s x z
  apart_in = in_frame l s r x apart_same

  pub apart_kept : Kept s r x
  apart_kept = a.keep x (apart_out x (in_own l s x))

  pub apart_at : At n r l x
  apart_at = kept_at n l x s r apart_kept.tag h

  pub apart_tree : tree_at l s x ≡ tree_at l r x
  apart_tree = tree_frame l s r x apart_same

  pub apart_still : Apart l r x y
  apart_still z i = a.within z (apart_out z (apart_in z i))

-- another node of its level; another top
pub nodes_apart : {n : ℕ} {s : St} → Sound n s → (l x x' : ℕ) → At n s l x → At n s l x' → x ≢ x' → Apart l s x x'
nodes_apart sd l x x' h h' ne z i j = ne (node_apart sd l x x' h h' z i j)

pub tops_apart : {n : ℕ} {s : St} → Sound n s → (t t' : ℕ) → t < 8 → t' < 8 → t ≢ t' → Apart 2 s t t'
tops_apart sd t t' h h' ne = nodes_apart sd 2 t t' (h, refl) (h', refl) ne

pub others : {n : ℕ} {s r : St} (sd : Sound n s) (t t' : ℕ) → t < 8 → t' < 8 → t' ≢ t → {g : Node (levels 2)} → Turned n 2 t s r g → tree_at 2 s t' ≡ tree_at 2 r t'
others sd t t' h h' ne a = apart_tree sd a t' (h', refl) (tops_apart sd t' t h' h ne)

-- ---- one slot changed

-- nothing done, where the rule changes nothing
pub idle : {n : ℕ} (l x i : ℕ) (s : St) (f : SlotOf (below l) → SlotOf (below l)) → Sound n s → At n s l x → f (tree_at l s x i) ≡ tree_at l s x i
    → Turned n l x s s (changed (span l) i f (tree_at l s x))
idle l x i s f sd h e = into (stay l x s sd h) (changed_none (span l) i f (tree_at l s x) (tree_round (branching l) (below l) s x) e)

module _ {n l x : ℕ} {s r : St} (i : ℕ) (t : SlotOf (below l)) (a : Turned n l x s r (changed (span l) i (λ _. t) (tree_at l s x))) where
  -- the slot has become what the rule makes of it
  pub ruled : (f : SlotOf (below l) → SlotOf (below l)) → t ≡ f (tree_at l s x i) → Turned n l x s r (changed (span l) i f (tree_at l s x))
  ruled f e = into a (changed_like (span l) i (λ _. t) f (tree_at l s x) (tree_round (branching l) (below l) s x) e)

  -- of two changes of one slot the later counts
  pub over : {r' : St} (u : SlotOf (below l)) → Turned n l x r r' (changed (span l) i (λ _. u) (tree_at l r x)) → Turned n l x s r' (changed (span l) i (λ _. u) (tree_at l s x))
  over u b = into (then a b) (ap (changed (span l) i (λ _. u)) a.grid ∙ changed_twice (span l) i (λ _. u) (λ _. t) (tree_at l s x))

-- ---- a change below one branch is a change of the node
module _ {n : ℕ} {s : St} (sd : Sound n s) (l x i : ℕ) (h : At n s (suc l) x) (q : i < span (suc l)) (e : s.kid x i ≡ true)
    {r : St} {g : Node (levels l)} (a : Turned n l (8 + s.slot x i) s r g) where
  pub own : Kept s r x
  own = a.keep x (record { inside = at_inside n s (suc l) x h; live = at_live n s (suc l) x h; out = λ j. own_apart sd l x i h q e x j refl })

  aside : (k : ℕ) → k < span (suc l) → k ≢ i → s.kid x k ≡ true → (y : ℕ) → In l s (8 + s.slot x k) y → Same s r y
  aside k p ne t y j =
      let u : Under n s l x k y = under sd l x k h p t y j in
      (a.keep y (record { inside = u.inside; live = inr (u.cell, u.used); out = λ j'. ne (branch_apart sd l x k x i h h p q t e y j j').1 })).slots

  deeper : (y : ℕ) → Outside n (suc l) s x y → Outside n l s (8 + s.slot x i) y
  deeper y o = record { inside = o.inside; live = o.live; out = λ j. o.out (inr (i, q, e, j)) }

  none_in : (y : ℕ) → Outside n (suc l) s x y → In (suc l) r x y → ⊥
  none_in y o j = ⊎_elim o.out
      (λ p. a.within y (deeper y o) (subst (λ (c : ℕ). In l r (8 + c) y) (sym (own.slots i).slot) p.1))
      (slot_in l s r x i (λ k _. own.slots k) aside y j)

  pub lift : Turned n (suc l) x s r (changed (span (suc l)) i (λ _. branch g) (tree_at (suc l) s x))
  lift =
      record {
        sound = a.sound;
        at = kept_at n (suc l) x s r own.tag h;
        grid = slot_tree l s r x i (λ k _. own.slots k) aside (branch g)
            (slot_branch (tree_at l r) r x i (sym (own.slots i).kid ∙ e) ∙ ap branch (ap (λ (c : ℕ). tree_at l r (8 + c)) (sym (own.slots i).slot) ∙ a.grid));
        keep = λ y o. a.keep y (deeper y o);
        within = none_in;
        marks = a.marks;
        unspoilt = a.unspoilt;
      }
