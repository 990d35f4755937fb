-- The walk over a whole tree of a sound pool does the meaning's prune, cut and flip, and nothing else. Assumes nothing.
use mathlib.Core.Path.{◌≡◌, refl, sym, ap, ◌∙◌}
use mathlib.Core.Bool.{Bool, true, false, cond, ◌&&◌}
use mathlib.Core.List.{List, [], ◌∷◌}
use Prim.Native.Nat.{ℕ, zero, suc, ◌+◌, ◌<◌}
use borrow.Author.Tests.{lt-ltb}
use Rattle.floats.specs.Value.{is_finite, negated}
use Rattle.floats.specs.Test.{passes}
use Rattle.floats.proofs.Words.{on_case}
use Rattle.floats.proofs.Finite.{finite_negated}
use Rattle.grid.specs.Node.{SlotOf, tile, hidden, changed}
use Rattle.grid.specs.Whole.{prune_s, cut_s, flip, flip_s}
use Rattle.nodes.specs.State.{St, Fork, Sound, flat}
use Rattle.nodes.specs.Walk.{branching, below}
use Rattle.trees.specs.Turn.{hide_if_s, flat_s, back_s, turn_at, turn_m}
use Rattle.trees.specs.declared.turn.Work.{Work}
use Rattle.trees.specs.declared.turn.Work.TheVariants.{Prune, Cut, Flip}
use Rattle.means.specs.Level.{levels, span, tree_at, At, Turned}
use Rattle.means.specs.Turn.{turned_s}
use Rattle.means.proofs.Levels.{leaf_ends, at_link, at_down, at_value}
use Rattle.means.proofs.Turned.{idle, ruled, lift}
use Rattle.means.proofs.Slots.{tree_leaf, tree_branch, tree_flat}
use Rattle.means.proofs.Put.{hide_turned, word_turned}
use Rattle.means.proofs.Each.{each}
use Rattle.means.proofs.Drop.{shut_turned}

-- ---- the meaning at a slot that is no branch, active if v says so
prune_flat : (bs : List ℕ) (v : Bool) (u : ℕ) → ◌≡◌ {A = SlotOf bs} (prune_s bs (cond v (tile u) (hidden u))) (cond v (tile u) (hidden u))
unfolding prune_s
prune_flat [] v u = refl
prune_flat (b ∷ bs) true u = refl
prune_flat (b ∷ bs) false u = refl

cut_flat : (t : ℕ → Bool) (bs : List ℕ) (v : Bool) (u : ℕ)
    → ◌≡◌ {A = SlotOf bs} (cut_s t bs (cond v (tile u) (hidden u))) (cond (v && t u) (hidden u) (cond v (tile u) (hidden u)))
unfolding cut_s
cut_flat t [] true u = refl
cut_flat t [] false u = refl
cut_flat t (b ∷ bs) true u = refl
cut_flat t (b ∷ bs) false u = refl

flip_flat : (bs : List ℕ) (v : Bool) (u : ℕ) → ◌≡◌ {A = SlotOf bs} (flip_s bs (cond v (tile u) (hidden u))) (cond v (tile (negated u)) (hidden (negated u)))
flip_flat bs true u = refl
flip_flat bs false u = refl

-- ---- one slot that is no branch
module _ {n : ℕ} {s : St} (sd : Sound n s) (l x k : ℕ) (h : At n s l x) (q : k < span l) (off : Fork s x → s.kid x k ≡ false) (is : tree_at l s x k ≡ flat s x k) where
  fin : is_finite (s.slot x k) ≡ true
  fin = at_value sd l x k h q off

  flat_turned : (w : Work) → Turned n l x s (flat_s w x k s) (changed (span l) k (turned_s w (below l)) (tree_at l s x))
  unfolding flat_s hide_if_s
  flat_turned Prune = idle l x k s (prune_s (below l)) sd h (ap (prune_s (below l)) is ∙ prune_flat (below l) (s.val x k) (s.slot x k) ∙ sym is)
  flat_turned (Cut t) = on_case (s.val x k && passes t (s.slot x k))
      (λ z. rw (fin, z) (ruled k _ (hide_turned sd l x k h off fin) (cut_s (passes t) (below l)) (sym (rule ∙ rw z refl))))
      (λ z. rw (fin, z) (idle l x k s (cut_s (passes t) (below l)) sd h (rule ∙ rw z refl ∙ sym is)))
    where
      rule : cut_s (passes t) (below l) (tree_at l s x k) ≡ cond (s.val x k && passes t (s.slot x k)) (hidden (s.slot x k)) (flat s x k)
      rule = ap (cut_s (passes t) (below l)) is ∙ cut_flat (passes t) (below l) (s.val x k) (s.slot x k)
  flat_turned Flip =
      ruled k _ (word_turned sd l x k h off (negated (s.slot x k)) (finite_negated (s.slot x k) ∙ fin)) (flip_s (below l))
      (sym (ap (flip_s (below l)) is ∙ flip_flat (below l) (s.val x k) (s.slot x k)))

-- ---- one branch, where the node below it is done
module _ {n : ℕ} {s : St} (sd : Sound n s) (l x k : ℕ) (h : At n s (suc l) x) (q : k < span (suc l)) (e : s.kid x k ≡ true) {r : St} where
  back_turned : (w : Work) → Turned n l (8 + s.slot x k) s r (λ i. turned_s w (below l) (tree_at l s (8 + s.slot x k) i))
      → Turned n (suc l) x s (back_s w (below l) n x k r) (changed (span (suc l)) k (turned_s w (below (suc l))) (tree_at (suc l) s x))
  unfolding back_s prune_s cut_s flip
  back_turned Prune a = ruled k _ (shut_turned sd l x k h q e a) (prune_s (levels l)) (sym (ap (prune_s (levels l)) (tree_branch l s x k q e)))
  back_turned (Cut t) a = ruled k _ (shut_turned sd l x k h q e a) (cut_s (passes t) (levels l)) (sym (ap (cut_s (passes t) (levels l)) (tree_branch l s x k q e)))
  back_turned Flip a = ruled k _ (lift sd l x k h q e a) (flip_s (levels l)) (sym (ap (flip_s (levels l)) (tree_branch l s x k q e)))

-- ---- the whole tree
module _ (n : ℕ) (w : Work) where
  abbrev Done : ℕ → Type 0
  Done l = (s : St) (x : ℕ) → Sound n s → At n s l x → Turned n l x s (turn_m (branching l) (below l) w n x s) (λ i. turned_s w (below l) (tree_at l s x i))

  leaf : Done zero
  unfolding turn_m
  leaf s x sd h = each zero x (flat_s w x) (turned_s w [])
      (λ k q r rs at. flat_turned rs zero x k at q (λ f. absurd (leaf_ends n r x at f)) (tree_leaf r x k q) w) s sd h

  module _ (l : ℕ) (ih : Done l) (x : ℕ) where
    abbrev go : ℕ → St → St
    go = turn_m (branching l) (below l) w n

    at_slot : (k : ℕ) → k < span (suc l) → (s : St) → Sound n s → At n s (suc l) x
        → Turned n (suc l) x s (turn_at w (below l) go n x k s) (changed (span (suc l)) k (turned_s w (below (suc l))) (tree_at (suc l) s x))
    unfolding turn_at
    at_slot k q s sd h = on_case (s.kid x k)
        (λ e. rw (e, lt-ltb (s.slot x k) n (at_link sd l x k h q e).inside) (back_turned sd l x k h q e w (ih s (8 + s.slot x k) sd (at_down sd l x k h q e))))
        (λ e. rw e (flat_turned sd (suc l) x k h q (λ _. e) (tree_flat l s x k q e) w))

    up : (s : St) → Sound n s → At n s (suc l) x → Turned n (suc l) x s (turn_m (branching (suc l)) (below (suc l)) w n x s) (λ i. turned_s w (below (suc l)) (tree_at (suc l) s x i))
    unfolding turn_m
    up = each (suc l) x (turn_at w (below l) go n x) (turned_s w (below (suc l))) at_slot

  done : (l : ℕ) → Done l
  done zero = leaf
  done (suc l) = λ s x. up l (done l) x s

-- of a seat, prune, cut and flip are the meaning's as they stand here
pub turn_right : {n : ℕ} {s : St} (w : Work) (l x : ℕ) → Sound n s → At n s l x → Turned n l x s (turn_m (branching l) (below l) w n x s) (λ i. turned_s w (below l) (tree_at l s x i))
turn_right {n} {s} w l x = done n w l s x
