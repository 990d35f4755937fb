-- The test is true exactly where the pool is sound. Assumes nothing.
use mathlib.Core.Path.{◌≡◌, refl, ap, ap₂}
use mathlib.Core.Bool.{Bool, true, false, not, ◌&&◌}
use mathlib.Core.Logic.{◌⊎◌, inl, inr}
use Prim.Native.Nat.{ℕ, ◌+◌, ◌-◌, ◌/◌, ◌%◌, ◌<◌, ◌≤◌}
use native.Mathlib.Omega.{arith}
use lib.Dec.{ltb, leb, eqb}
use borrow.Author.Tests.{eqb-true, eq-eqb, lt-ltb, le-ltb, ltb-true, ltb-false, leb-true, le-leb, not-true}
use borrow.Table.Steps.{cases}
use Rattle.floats.specs.Value.{is_finite}
use Rattle.bitset.specs.Set.{every}
use Rattle.bitset.proofs.Every.{and_both, every_intro, every_elim}
use Rattle.grid.specs.Node.{size}
use Rattle.nodes.specs.State.{St, wide, linked, Fork, Live, Free, Held, Stacked, Link, Sound}
use Rattle.nodes.specs.Test.{fork_b, live_b, stacked_b, link_b, held_b, cell_b, slot_b, node_b, sound_b}

and_of : {a b : Bool} → a ≡ true → b ≡ true → a && b ≡ true
and_of p q = ap₂ (λ (a b : Bool). a && b) p q

-- ---- the slots of a node
pub wide_le : (x : ℕ) → wide x ≤ 512
wide_le x = cases (ltb x 8) (λ e. rw e (omega arith)) (λ e. rw e (omega arith))

pub top_wide : (x : ℕ) → x < 8 → wide x ≡ size 3
unfolding size
top_wide x h = rw (lt-ltb x 8 h) refl

pub cell_wide : (c : ℕ) → wide (8 + c) ≡ size 2
unfolding size
cell_wide c = rw (le-ltb (8 + c) 8 (omega arith)) refl

-- ---- a node
module _ (s : St) (x : ℕ) where
  fork_true : Fork s x → fork_b s x ≡ true
  fork_true (inl h) = rw (lt-ltb x 8 h) refl
  fork_true (inr h) = rw (le-ltb x 8 h.0) (and_of (le-leb _ _ h.1.0) (lt-ltb _ _ h.1.1))

  true_fork : fork_b s x ≡ true → Fork s x
  true_fork e = cases (ltb x 8) (λ a. inl (ltb-true x 8 a)) (λ a.
      let p = and_both (leb 65536 (s.tag (x - 8))) (ltb (s.tag (x - 8)) 69632) (rw a at e) in
      inr (ltb-false x 8 a, (leb-true _ _ p.0, ltb-true _ _ p.1)))

  live_true : Live s x → live_b s x ≡ true
  live_true (inl h) = rw (lt-ltb x 8 h) refl
  live_true (inr h) = rw (le-ltb x 8 h.0) (le-leb _ _ h.1)

  true_live : live_b s x ≡ true → Live s x
  true_live e = cases (ltb x 8) (λ a. inl (ltb-true x 8 a)) (λ a. inr (ltb-false x 8 a, leb-true _ _ (rw a at e)))

-- ---- a slot, a cell, a place of the stack
module _ (n : ℕ) (s : St) where
  true_link : (x k : ℕ) → link_b n s x k ≡ true → Link n s x k
  true_link x k e =
      let a = and_both (ltb (s.slot x k) n) _ e in
      let b = and_both (eqb (s.tag (s.slot x k)) (linked x k)) _ a.1 in
      record { inside = ltb-true _ _ a.0; tagged = eqb-true _ _ b.0; single = not-true _ b.1 }

  link_true : (x k : ℕ) → Link n s x k → link_b n s x k ≡ true
  link_true x k l = and_of (lt-ltb _ _ l.inside) (and_of (eq-eqb _ _ l.tagged) (ap not l.single))

  slot_link : (x k : ℕ) → slot_b n s x k ≡ true → Fork s x → s.kid x k ≡ true → Link n s x k
  slot_link x k e f on = true_link x k (rw (and_of (fork_true s x f) on) at e)

  slot_value : (x k : ℕ) → slot_b n s x k ≡ true → Live s x → (Fork s x → s.kid x k ≡ false) → is_finite (s.slot x k) ≡ true
  slot_value x k e l off = cases (fork_b s x)
      (λ a. rw (off (true_fork s x a), a, live_true s x l) at e)
      (λ a. rw (a, live_true s x l) at e)

  slot_true : (x k : ℕ) → (Fork s x → s.kid x k ≡ true → Link n s x k) → (Live s x → (Fork s x → s.kid x k ≡ false) → is_finite (s.slot x k) ≡ true) → slot_b n s x k ≡ true
  slot_true x k hl hv = cases (fork_b s x && s.kid x k)
      (λ a. let p = and_both (fork_b s x) (s.kid x k) a in rw a (link_true x k (hl (true_fork s x p.0) p.1)))
      (λ a. rw a (cases (live_b s x) (λ b. rw b (hv (true_live s x b) (off a))) (λ b. rw b refl)))
    where
      off : fork_b s x && s.kid x k ≡ false → Fork s x → s.kid x k ≡ false
      off a f = rw (fork_true s x f) at a

  true_stacked : (i : ℕ) → stacked_b n s i ≡ true → Stacked n s i
  true_stacked i e = let a = and_both (ltb (s.stack i) n) _ e in record { inside = ltb-true _ _ a.0; tagged = eqb-true _ _ a.1 }

  stacked_true : (i : ℕ) → Stacked n s i → stacked_b n s i ≡ true
  stacked_true i h = and_of (lt-ltb _ _ h.inside) (eq-eqb _ _ h.tagged)

  true_held : (c u : ℕ) → 65536 ≤ u → s.tag c ≡ u → held_b n s c u ≡ true → Held n s c
  true_held c u l q e =
      let x : ℕ = (u - 65536) / 512 in
      let k : ℕ = (u - 65536) % 512 in
      let a = and_both (ltb x (8 + n)) (ltb k (wide x) && (fork_b s x && (s.kid x k && eqb (s.slot x k) c))) e in
      let b = and_both (ltb k (wide x)) (fork_b s x && (s.kid x k && eqb (s.slot x k) c)) a.1 in
      let d = and_both (fork_b s x) (s.kid x k && eqb (s.slot x k) c) b.1 in
      let f = and_both (s.kid x k) (eqb (s.slot x k) c) d.1 in
      record {
        x = x;
        k = k;
        says = omega arith;
        node = ltb-true x (8 + n) a.0;
        slot = ltb-true k (wide x) b.0;
        fork = true_fork s x d.0;
        on = f.0;
        links = eqb-true (s.slot x k) c f.1;
      }

  held_true : (c : ℕ) → Held n s c → held_b n s c (s.tag c) ≡ true
  held_true c h =
      let ex : (s.tag c - 65536) / 512 ≡ h.x = omega (arith, h.says, h.slot, wide_le h.x) in
      let ek : (s.tag c - 65536) % 512 ≡ h.k = omega (arith, h.says, h.slot, wide_le h.x) in
      rw (ex, ek) (and_of (lt-ltb _ _ h.node) (and_of (lt-ltb _ _ h.slot) (and_of (fork_true s h.x h.fork) (and_of h.on (eq-eqb _ _ h.links)))))

  true_cell : (c : ℕ) → cell_b n s c ≡ true → Free s c ⊎ Held n s c
  true_cell c e = cases (ltb (s.tag c) 65536)
      (λ a. let p = and_both (ltb (s.tag c) s.count) (eqb (s.stack (s.tag c)) c) (rw a at e) in inl (record { below = ltb-true _ _ p.0; there = eqb-true _ _ p.1 }))
      (λ a. inr (true_held c (s.tag c) (ltb-false _ _ a) refl (rw a at e)))

  cell_true : s.count < 65536 → (c : ℕ) → Free s c ⊎ Held n s c → cell_b n s c ≡ true
  cell_true l c (inl f) = rw (lt-ltb (s.tag c) 65536 (omega (arith, f.below))) (and_of (lt-ltb _ _ f.below) (eq-eqb _ _ f.there))
  cell_true l c (inr h) = rw (le-ltb (s.tag c) 65536 (omega (arith, h.says))) (held_true c h)

-- ---- the pool
pub is_sound : (n : ℕ) (s : St) → n < 65536 → sound_b n s ≡ true → Sound n s
unfolding sound_b node_b
is_sound n s l e =
    let nodes : Bool = every (node_b n s) (8 + n) in
    let cells : Bool = every (cell_b n s) n in
    let places : Bool = every (stacked_b n s) s.count in
    let marks : Bool = every (λ t. ltb (s.mark t) 2) 8 in
    let a = and_both (leb s.count n) (marks && (places && (cells && nodes))) e in
    let b = and_both marks (places && (cells && nodes)) a.1 in
    let c = and_both places (cells && nodes) b.1 in
    let d = and_both cells nodes c.1 in
    let slots : (x k : ℕ) → x < 8 + n → k < wide x → slot_b n s x k ≡ true =
    λ x k hx hk. every_elim (slot_b n s x) (wide x) (every_elim (node_b n s) (8 + n) d.1 x hx) k hk in
    record {
      room = l;
      few = leb-true _ _ a.0;
      stacked = λ i h. true_stacked n s i (every_elim (stacked_b n s) s.count c.0 i h);
      cell = λ i h. true_cell n s i (every_elim (cell_b n s) n d.0 i h);
      link = λ x k hx hk. slot_link n s x k (slots x k hx hk);
      value = λ x k hx hk. slot_value n s x k (slots x k hx hk);
      marks = λ t h. ltb-true _ _ (every_elim (λ t. ltb (s.mark t) 2) 8 b.0 t h);
    }

pub sound_is : (n : ℕ) (s : St) → n < 65536 → Sound n s → sound_b n s ≡ true
unfolding sound_b node_b
sound_is n s l h =
    and_of (le-leb _ _ h.few)
    (and_of (every_intro (λ t. ltb (s.mark t) 2) 8 (λ t q. lt-ltb _ _ (h.marks t q)))
    (and_of (every_intro (stacked_b n s) s.count (λ i q. stacked_true n s i (h.stacked i q)))
    (and_of (every_intro (cell_b n s) n (λ c q. cell_true n s (omega (arith, h.few)) c (h.cell c q)))
    (every_intro (node_b n s) (8 + n) (λ x hx. every_intro (slot_b n s x) (wide x) (λ k hk. slot_true n s x k (h.link x k hx hk) (h.value x k hx hk)))))))
