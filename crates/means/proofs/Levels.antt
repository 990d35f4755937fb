-- On a sound pool: the nodes of each level and what is below their branches. Assumes nothing.
use mathlib.Core.Path.{◌≡◌, refl, sym, ap, ◌∙◌, subst}
use mathlib.Core.Bool.{true, false}
use mathlib.Core.Logic.{inl, inr}
use Prim.Native.Nat.{ℕ, zero, suc, ◌+◌, ◌-◌, ◌*◌, ◌<◌, ◌≤◌}
use native.Mathlib.Omega.{arith}
use lib.Dec.{ltb}
use lib.Pow.{pow_pos}
use borrow.Author.Tests.{lt-ltb, le-ltb}
use Rattle.floats.specs.Value.{is_finite}
use Rattle.grid.specs.Node.{size}
use Rattle.grid.proofs.Places.{cond_at}
use Rattle.nodes.specs.State.{St, wide, linked, Live, Fork, Held, Link, Sound}
use Rattle.nodes.specs.Walk.{branching}
use Rattle.means.specs.Level.{span, At, Equal}

pub wide_top : (x : ℕ) → x < 8 → wide x ≡ 512
wide_top x h = rw (lt-ltb x 8 h) refl

pub wide_cell : (x : ℕ) → 8 ≤ x → wide x ≡ 64
wide_cell x h = rw (le-ltb x 8 h) refl

pub wide_most : (x : ℕ) → wide x ≤ 512
wide_most x = cond_at (λ (m : ℕ). m ≤ 512) (ltb x 8) 512 64 (λ _. omega arith) (λ _. omega arith)

-- the use mark of the cell that is node 8 + c
pub tag_of : (s : St) (c : ℕ) → s.tag (8 + c - 8) ≡ s.tag c
tag_of s c = ap s.tag (omega arith)

pub span_pos : (l : ℕ) → 0 < span l
unfolding size
span_pos l = pow_pos (3 * branching l)

module _ (n : ℕ) (s : St) where
  pub at_wide : (l x : ℕ) → At n s l x → wide x ≡ span l
  unfolding size
  at_wide zero x h = wide_cell x h.0
  at_wide (suc zero) x h = wide_cell x h.0
  at_wide (suc (suc l)) x h = wide_top x h.0

  pub at_inside : (l x : ℕ) → At n s l x → x < 8 + n
  at_inside zero x h = h.1
  at_inside (suc zero) x h = h.1
  at_inside (suc (suc l)) x h = omega (arith, h.0)

  pub at_fork : (l x : ℕ) → At n s (suc l) x → Fork s x
  at_fork zero x h = inr (h.0, h.2)
  at_fork (suc l) x h = inl h.0

  pub fork_live : (x : ℕ) → Fork s x → Live s x
  fork_live x (inl h) = inl h
  fork_live x (inr h) = inr (h.0, h.1.0)

  pub at_live : (l x : ℕ) → At n s l x → Live s x
  at_live zero x h = inr (h.0, omega (arith, h.2))
  at_live (suc l) x h = fork_live x (at_fork l x h)

  -- a leaf may have no branches
  pub leaf_ends : (x : ℕ) → At n s zero x → Fork s x → ⊥
  leaf_ends x h (inl f) = omega (arith, h.0)
  leaf_ends x h (inr f) = omega (arith, h.2, f.1.1)

-- ---- where a use mark stays, so does what it says of its node
pub kept_live : (s r : St) (y : ℕ) → (8 ≤ y → s.tag (y - 8) ≡ r.tag (y - 8)) → Live s y → Live r y
kept_live s r y e (inl h) = inl h
kept_live s r y e (inr h) = inr (h.0, subst (λ (u : ℕ). 65536 ≤ u) (e h.0) h.1)

pub kept_fork : (s r : St) (y : ℕ) → (8 ≤ y → s.tag (y - 8) ≡ r.tag (y - 8)) → Fork s y → Fork r y
kept_fork s r y e (inl h) = inl h
kept_fork s r y e (inr h) = inr (h.0, subst (λ (u : ℕ). (65536 ≤ u) × (u < 69632)) (e h.0) h.1)

pub kept_at : (n l x : ℕ) (s r : St) → (8 ≤ x → s.tag (x - 8) ≡ r.tag (x - 8)) → At n s l x → At n r l x
kept_at n zero x s r e h = (h.0, h.1, subst (λ (u : ℕ). 69632 ≤ u) (e h.0) h.2)
kept_at n (suc zero) x s r e h = (h.0, h.1, subst (λ (u : ℕ). (65536 ≤ u) × (u < 69632)) (e h.0) h.2)
kept_at n (suc (suc l)) x s r e h = h

-- a cell is held as it was where its use mark, its slot, and whether the slot's node has branches, are as they were
pub kept_held : {n : ℕ} {s r : St} {c : ℕ} (h : Held n s c) → r.tag c ≡ s.tag c → (Fork s h.x → Fork r h.x) → Equal s r h.x h.k → Held n r c
kept_held h t f e =
    record {
      x = h.x;
      k = h.k;
      says = t ∙ h.says;
      node = h.node;
      slot = h.slot;
      fork = f h.fork;
      on = sym e.kid ∙ h.on;
      links = sym e.slot ∙ h.links;
    }

-- ---- below a branch
module _ {n : ℕ} {s : St} (sd : Sound n s) where
  -- the cell below a branch is a node of the next level
  pub at_link : (l x k : ℕ) → At n s (suc l) x → k < span (suc l) → s.kid x k ≡ true → Link n s x k
  at_link l x k h q e = sd.link x k (at_inside n s (suc l) x h) (omega (arith, at_wide n s (suc l) x h)) (at_fork n s l x h) e

  pub at_down : (l x k : ℕ) → At n s (suc l) x → k < span (suc l) → s.kid x k ≡ true → At n s l (8 + s.slot x k)
  at_down zero x k h q e = let d : Link n s x k = at_link zero x k h q e in
      let t : s.tag (8 + s.slot x k - 8) ≡ linked x k = tag_of s (s.slot x k) ∙ d.tagged in
      (omega arith, omega (arith, d.inside), omega (arith, h.0))
  at_down (suc zero) x k h q e = let d : Link n s x k = at_link (suc zero) x k h q e in
      let t : s.tag (8 + s.slot x k - 8) ≡ linked x k = tag_of s (s.slot x k) ∙ d.tagged in
      (omega arith, omega (arith, d.inside), (omega arith, omega (arith, h.0, wide_top x h.0, at_wide n s 2 x h)))
  at_down (suc (suc l)) x k h q e = absurd (omega (arith, h.1))

  -- a value that the node has is finite: of a slot that is no branch, and by level
  pub at_value : (l x k : ℕ) → At n s l x → k < span l → (Fork s x → s.kid x k ≡ false) → is_finite (s.slot x k) ≡ true
  at_value l x k h q off = sd.value x k (at_inside n s l x h) (omega (arith, at_wide n s l x h)) (at_live n s l x h) off

  pub at_leaf_finite : (x k : ℕ) → At n s zero x → k < span zero → is_finite (s.slot x k) ≡ true
  at_leaf_finite x k h q = at_value zero x k h q (λ f. absurd (leaf_ends n s x h f))

  pub at_finite : (l x k : ℕ) → At n s (suc l) x → k < span (suc l) → s.kid x k ≡ false → is_finite (s.slot x k) ≡ true
  at_finite l x k h q e = at_value (suc l) x k h q (λ _. e)
