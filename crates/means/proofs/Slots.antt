-- The slots of a node, one by one: what is read of them, and one of them changed. Assumes nothing.
use mathlib.Core.Path.{◌≡◌, refl, sym, ap, ◌∙◌, subst}
use mathlib.Core.Bool.{true, false, cond}
use mathlib.Core.List.{List, [], ◌∷◌}
use Prim.Native.Nat.{ℕ, suc, ◌+◌, ◌%◌, ◌<◌}
use native.Mathlib.Nat.{mod-mod, mod-eq_of_lt}
use Rattle.floats.proofs.Words.{on_case}
use Rattle.grid.specs.Node.{Slot, branch, tile, hidden, size, changed}
use Rattle.grid.proofs.Places.{changed_at, changed_is}
use Rattle.nodes.specs.State.{St, slot_at, flat, tree}
use Rattle.means.specs.Level.{span, tree_at, Equal}
use Rattle.means.specs.Twins.{SlotTwin}

-- ---- one slot of two states
module _ {C : Type 0} (s s' : St) (x x' k : ℕ) where
  pub flat_twin : s.slot x k ≡ s'.slot x' k → s.val x k ≡ s'.val x' k → flat {C = C} s x k ≡ flat s' x' k
  flat_twin w v = λ i. cond {A = Slot C} (v i) (tile (w i)) (hidden (w i))

  pub slot_twin : (f f' : ℕ → C) → SlotTwin (λ y y'. f y ≡ f' y') s x s' x' k → slot_at f s x k ≡ slot_at f' s' x' k
  slot_twin f f' a = on_case (s.kid x k)
      (λ t. rw (t, sym a.kid ∙ t) (ap branch (a.cell t)))
      (λ t. rw (t, sym a.kid ∙ t) (flat_twin (a.word t) a.val))

module _ {C : Type 0} {s r : St} {y k : ℕ} (e : Equal s r y k) where
  pub flat_same : flat {C = C} s y k ≡ flat r y k
  flat_same = flat_twin s r y y k e.slot e.val

  pub slot_same : (f g : ℕ → C) → (s.kid y k ≡ true → f (8 + s.slot y k) ≡ g (8 + s.slot y k)) → slot_at f s y k ≡ slot_at g r y k
  slot_same f g d = slot_twin s r y y k f g (record { kid = e.kid; val = e.val; word = λ _. e.slot; cell = λ t. d t ∙ ap (λ (c : ℕ). g (8 + c)) e.slot })

-- ---- one slot of a node
pub slot_branch : {C : Type 0} (f : ℕ → C) (s : St) (x k : ℕ) → s.kid x k ≡ true → slot_at f s x k ≡ branch (f (8 + s.slot x k))
slot_branch f s x k e = rw e refl

pub slot_flat : {C : Type 0} (f : ℕ → C) (s : St) (x k : ℕ) → s.kid x k ≡ false → slot_at f s x k ≡ flat s x k
slot_flat f s x k e = rw e refl

-- a tree is read modulo its size
pub tree_round : (b : ℕ) (bs : List ℕ) (s : St) (x k : ℕ) → tree b bs s x k ≡ tree b bs s x (k % size b)
unfolding tree
tree_round b [] s x k = ap (flat s x) (sym (mod-mod k (size b)))
tree_round b (c ∷ bs) s x k = ap (slot_at (tree c bs s) s x) (sym (mod-mod k (size b)))

-- a slot of a leaf
pub tree_leaf : (s : St) (x k : ℕ) → k < span 0 → tree_at 0 s x k ≡ flat s x k
unfolding tree
tree_leaf s x k q = ap (flat s x) (mod-eq_of_lt q)

-- a slot of it above the leaves
module _ (l : ℕ) (s : St) (x k : ℕ) (q : k < span (suc l)) where
  pub tree_slot : tree_at (suc l) s x k ≡ slot_at (tree_at l s) s x k
  unfolding tree
  tree_slot = ap (slot_at (tree_at l s) s x) (mod-eq_of_lt q)

  pub tree_branch : s.kid x k ≡ true → tree_at (suc l) s x k ≡ branch (tree_at l s (8 + s.slot x k))
  tree_branch e = tree_slot ∙ slot_branch (tree_at l s) s x k e

  pub tree_flat : s.kid x k ≡ false → tree_at (suc l) s x k ≡ flat s x k
  tree_flat e = tree_slot ∙ slot_flat (tree_at l s) s x k e

  pub tree_tile : s.kid x k ≡ false → s.val x k ≡ true → tree_at (suc l) s x k ≡ tile (s.slot x k)
  tree_tile e v = tree_flat e ∙ rw v refl

  pub tree_hidden : s.kid x k ≡ false → s.val x k ≡ false → tree_at (suc l) s x k ≡ hidden (s.slot x k)
  tree_hidden e v = tree_flat e ∙ rw v refl

-- ---- one slot changed

-- twice; by two changes that do the same there; by one that leaves it as it is
pub changed_twice : {A : Type 0} (m i : ℕ) (f g : A → A) (t : ℕ → A) → changed m i f (changed m i g t) ≡ changed m i (λ a. f (g a)) t
changed_twice m i f g t = changed_is m i (λ a. f (g a)) t (changed m i f (changed m i g t))
    (λ k e. changed_at (λ a. a ≡ f (g (t k))) m i f (changed m i g t) k (λ _. ap f (changed_at (λ a. a ≡ g (t k)) m i g t k (λ _. refl) (λ ne. absurd (ne e)))) (λ ne. absurd (ne e)))
    (λ k ne. changed_at (λ a. a ≡ t k) m i f (changed m i g t) k (λ e. absurd (ne e)) (λ _. changed_at (λ a. a ≡ t k) m i g t k (λ e. absurd (ne e)) (λ _. refl)))

pub changed_like : {A : Type 0} (m i : ℕ) (f g : A → A) (t : ℕ → A) → ((k : ℕ) → t k ≡ t (k % m)) → f (t i) ≡ g (t i) → changed m i f t ≡ changed m i g t
changed_like m i f g t r e = changed_is m i g t (changed m i f t)
    (λ k p. changed_at (λ a. a ≡ g (t k)) m i f t k (λ _. subst (λ a. f a ≡ g a) (sym (r k ∙ ap t p)) e) (λ ne. absurd (ne p)))
    (λ k ne. changed_at (λ a. a ≡ t k) m i f t k (λ p. absurd (ne p)) (λ _. refl))

pub changed_none : {A : Type 0} (m i : ℕ) (f : A → A) (t : ℕ → A) → ((k : ℕ) → t k ≡ t (k % m)) → f (t i) ≡ t i → t ≡ changed m i f t
changed_none m i f t r e = changed_is m i f t t (λ k p. subst (λ a. a ≡ f a) (sym (r k ∙ ap t p)) (sym e)) (λ k ne. refl)
