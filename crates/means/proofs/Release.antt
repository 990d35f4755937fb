-- A cell released that has nothing below it: the pool stays sound. Assumes nothing.
use mathlib.Core.Path.{◌≡◌, refl, sym, ap, ap₂, ◌∙◌, subst}
use mathlib.Core.Bool.{true, false, false≢true}
use mathlib.Core.Logic.{◌≢◌, ◌⊎◌, inl, inr}
use Prim.Native.Nat.{ℕ, ◌+◌, ◌-◌, ◌<◌, ◌≤◌}
use native.Mathlib.Decide.{ℕ_discrete}
use native.Mathlib.Omega.{arith}
use Rattle.floats.specs.Value.{is_finite, far}
use Rattle.floats.proofs.Finite.{finite_far}
use Rattle.nodes.specs.State.{St, wide, linked, Live, Fork, Free, Held, Stacked, Link, Sound}
use Rattle.nodes.specs.Change.{release_s}
use Rattle.means.specs.Level.{Equal}
use Rattle.means.proofs.Levels.{wide_cell, wide_most, tag_of, kept_live, kept_fork, kept_held, fork_live}
use Rattle.means.proofs.Put.{at1_here, at1_else, at2_here, at2_else, at2_next}
use Rattle.means.proofs.Pigeon.{pigeon}

module _ {n : ℕ} {s : St} (sd : Sound n s) (x k : ℕ) (hx : x < 8 + n) (hk : k < wide x) (fx : Fork s x) (on : s.kid x k ≡ true)
    (bare : Fork s (8 + s.slot x k) → (j : ℕ) → j < 64 → s.kid (8 + s.slot x k) j ≡ false) where
  abbrev c : ℕ
  c = s.slot x k

  abbrev r : St
  r = release_s x k s

  own : Link n s x k
  own = sd.link x k hx hk fx on

  tag_free : r.tag c ≡ s.count
  unfolding release_s
  tag_free = at1_here s.tag c s.count

  tag_else : (d : ℕ) → d ≢ c → r.tag d ≡ s.tag d
  unfolding release_s
  tag_else d ne = at1_else s.tag c s.count d ne

  pub tag_old : (y : ℕ) → 8 ≤ y → y ≢ 8 + c → r.tag (y - 8) ≡ s.tag (y - 8)
  tag_old y h ne = tag_else (y - 8) (λ e. ne (omega arith))

  stack_new : r.stack s.count ≡ c
  unfolding release_s
  stack_new = at1_here s.stack s.count c

  stack_else : (i : ℕ) → i ≢ s.count → r.stack i ≡ s.stack i
  unfolding release_s
  stack_else i ne = at1_else s.stack s.count c i ne

  count_is : r.count ≡ s.count + 1
  unfolding release_s
  count_is = refl

  -- the slot, and all others
  pub here : (r.slot x k ≡ far) × (r.kid x k ≡ false) × (r.val x k ≡ false)
  unfolding release_s
  here = (at2_here s.slot x k far, at2_here s.kid x k false, at2_here s.val x k false)

  pub else_same : (y j : ℕ) → y ≢ x → Equal s r y j
  unfolding release_s
  else_same y j ne =
      record { slot = sym (at2_else s.slot x k far y j ne); kid = sym (at2_else s.kid x k false y j ne); val = sym (at2_else s.val x k false y j ne) }

  pub next_same : (y j : ℕ) → j ≢ k → Equal s r y j
  unfolding release_s
  next_same y j ne =
      record { slot = sym (at2_next s.slot x k far y j ne); kid = sym (at2_next s.kid x k false y j ne); val = sym (at2_next s.val x k false y j ne) }

  data Place (y j : ℕ) : Type 0 where
    slot : y ≡ x → j ≡ k → Place y j
    apart : ((y ≡ x) × (j ≡ k) → ⊥) → Equal s r y j → Place y j

  place : (y j : ℕ) → Place y j
  place y j = go (ℕ_discrete y x) (ℕ_discrete j k)
    where
      go : Dec (y ≡ x) → Dec (j ≡ k) → Place y j
      go (yes p) (yes q) = slot p q
      go (yes p) (no q) = apart (λ e. q e.1) (next_same y j q)
      go (no p) q = apart (λ e. p e.0) (else_same y j p)

  -- the free cell does not count
  live_else : (y : ℕ) → Live r y → y ≢ 8 + c
  live_else y (inl h) e = omega arith
  live_else y (inr h) e = omega (arith, h.1, ap (λ (z : ℕ). r.tag (z - 8)) e, tag_of r c, tag_free, sd.few, sd.room)

  live_back : (y : ℕ) → Live r y → Live s y
  live_back y lv = kept_live r s y (λ h. tag_old y h (live_else y lv)) lv

  fork_back : (y : ℕ) → Fork r y → Fork s y
  fork_back y f = kept_fork r s y (λ h. tag_old y h (live_else y (fork_live n r y f))) f

  fork_on : (y : ℕ) → y ≢ 8 + c → Fork s y → Fork r y
  fork_on y ne f = kept_fork s r y (λ h. sym (tag_old y h ne)) f

  stacked : (i : ℕ) → i < r.count → Stacked n r i
  stacked i h = go (ℕ_discrete i s.count)
    where
      go : Dec (i ≡ s.count) → Stacked n r i
      go (yes e) =
          subst (Stacked n r) (sym e) (record { inside = subst (λ (d : ℕ). d < n) (sym stack_new) own.inside; tagged = ap r.tag stack_new ∙ tag_free })
      go (no ne) =
          let q : Stacked n s i = sd.stacked i (omega (arith, count_is)) in
          record {
            inside = subst (λ (d : ℕ). d < n) (sym (stack_else i ne)) q.inside;
            tagged = ap r.tag (stack_else i ne) ∙ tag_else (s.stack i) (λ e. omega (arith, q.tagged, own.tagged, ap s.tag e, count_is, h, sd.few, sd.room)) ∙ q.tagged;
          }

  -- there is room for it in the stack, whose cells are different
  pub few : r.count ≤ n
  few = pigeon r.count n r.stack (λ i h. (stacked i h).inside)
      (λ i j h h' e. sym (stacked i h).tagged ∙ ap r.tag e ∙ (stacked j h').tagged)

  cell_old : (d : ℕ) → d ≢ c → Free s d ⊎ Held n s d → Free r d ⊎ Held n r d
  cell_old d ne (inl f) =
      inl (record {
        below = omega (arith, tag_else d ne, f.below, count_is);
        there = ap r.stack (tag_else d ne) ∙ stack_else (s.tag d) (λ e. omega (arith, f.below)) ∙ f.there;
      })
  cell_old d ne (inr h) = inr (go (place h.x h.k))
    where
      up : h.x ≢ 8 + c
      up e = false≢true (
          sym (bare (subst (Fork s) e h.fork) h.k (omega (arith, h.slot, wide_cell h.x (omega arith))))
          ∙ ap (λ (y : ℕ). s.kid y h.k) (sym e) ∙ h.on)

      go : Place h.x h.k → Held n r d
      go (slot p q) = absurd (ne (sym h.links ∙ ap₂ s.slot p q))
      go (apart a q) = kept_held h (tag_else d ne) (fork_on h.x up) q

  cells : (d : ℕ) → d < n → Free r d ⊎ Held n r d
  cells d h = go (ℕ_discrete d c)
    where
      go : Dec (d ≡ c) → Free r d ⊎ Held n r d
      go (yes e) = inl (subst (Free r) (sym e) (record { below = omega (arith, tag_free, count_is); there = ap r.stack tag_free ∙ stack_new }))
      go (no ne) = cell_old d ne (sd.cell d h)

  links : (y j : ℕ) → y < 8 + n → j < wide y → Fork r y → r.kid y j ≡ true → Link n r y j
  links y j hy hj f e = go (place y j)
    where
      go : Place y j → Link n r y j
      go (slot p q) = absurd (false≢true (sym here.1 ∙ ap₂ r.kid (sym p) (sym q) ∙ e))
      go (apart a q) =
          let l : Link n s y j = sd.link y j hy hj (fork_back y f) (q.kid ∙ e) in
          let b : j < 512 = omega (arith, wide_most y) in
          let b' : k < 512 = omega (arith, wide_most x) in
          record {
            inside = subst (λ (d : ℕ). d < n) q.slot l.inside;
            tagged = ap r.tag (sym q.slot)
                ∙ tag_else (s.slot y j) (λ d. let t : linked y j ≡ linked x k = sym l.tagged ∙ ap s.tag d ∙ own.tagged in a (omega arith, omega arith))
                ∙ l.tagged;
            single = sym q.val ∙ l.single;
          }

  values : (y j : ℕ) → y < 8 + n → j < wide y → Live r y → (Fork r y → r.kid y j ≡ false) → is_finite (r.slot y j) ≡ true
  values y j hy hj lv nk = go (place y j)
    where
      go : Place y j → is_finite (r.slot y j) ≡ true
      go (slot p q) = ap is_finite (ap₂ r.slot p q ∙ here.0) ∙ finite_far
      go (apart a q) = ap is_finite (sym q.slot) ∙ sd.value y j hy hj (live_back y lv) (λ f. q.kid ∙ nk (fork_on y (live_else y lv) f))

  pub release_sound : Sound n r
  unfolding release_s
  release_sound = record { room = sd.room; few = few; stacked = stacked; cell = cells; link = links; value = values; marks = sd.marks }
