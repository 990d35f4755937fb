-- A free cell hung below a slot that is no branch: the pool stays sound. Assumes nothing.
use mathlib.Core.Path.{◌≡◌, refl, sym, ap, ap₂, ◌∙◌, subst}
use mathlib.Core.Bool.{Bool, true, false, false≢true}
use mathlib.Core.Logic.{◌≢◌, ◌⊎◌, inl, inr}
use Prim.Native.Nat.{ℕ, ◌+◌, ◌-◌, ◌<◌, ◌≤◌}
use native.Mathlib.Decide.{ℕ_discrete}
use native.Mathlib.Omega.{arith}
use borrow.Author.Tests.{lt-ltb, le-leb}
use Rattle.floats.specs.Value.{is_finite}
use Rattle.nodes.specs.State.{St, wide, linked, Live, Fork, Free, Held, Stacked, Link, Sound}
use Rattle.nodes.specs.Change.{in_cell, next, attach_s}
use Rattle.nodes.specs.Walk.{ready_s}
use Rattle.means.specs.Level.{Equal}
use Rattle.means.proofs.Levels.{wide_cell, tag_of, fork_live, kept_live, kept_fork, kept_held}
use Rattle.means.proofs.Put.{at1_here, at1_else, at2_here, at2_else, at2_next, in_cell_lem, in_else}

pub ready_sound : {n : ℕ} {s : St} → Sound n s → 0 < s.count → ready_s n s ≡ true
ready_sound {n} {s} sd h = rw (lt-ltb 0 s.count h, le-leb s.count n sd.few, lt-ltb (next s) n (sd.stacked (s.count - 1) (omega arith)).inside) refl

module _ {n : ℕ} {s : St} (sd : Sound n s) (x k u : ℕ) (a : Bool) (hx : x < 8 + n) (hk : k < wide x) (fx : Fork s x) (off : s.kid x k ≡ false)
    (some : 0 < s.count) (fu : is_finite u ≡ true) where
  abbrev c : ℕ
  c = next s

  abbrev r : St
  r = attach_s x k u a s

  got : Stacked n s (s.count - 1)
  got = sd.stacked (s.count - 1) (omega arith)

  low : s.tag c < 65536
  low = omega (arith, got.tagged, sd.few, sd.room)

  -- a node that counts is not the new one
  pub live_old : (y : ℕ) → Live s y → y ≢ 8 + c
  live_old y (inl h) e = omega arith
  live_old y (inr h) e = omega (arith, h.1, low, ap (λ (z : ℕ). s.tag (z - 8)) e, tag_of s c)

  fork_old : (y : ℕ) → Fork s y → y ≢ 8 + c
  fork_old y f = live_old y (fork_live n s y f)

  pub tag_new : r.tag c ≡ linked x k
  unfolding attach_s
  tag_new = at1_here s.tag c (linked x k)

  tag_else : (d : ℕ) → d ≢ c → r.tag d ≡ s.tag d
  unfolding attach_s
  tag_else d ne = at1_else s.tag c (linked x k) d ne

  pub tag_old : (y : ℕ) → 8 ≤ y → y ≢ 8 + c → r.tag (y - 8) ≡ s.tag (y - 8)
  tag_old y h ne = tag_else (y - 8) (λ e. ne (omega arith))

  fork_back : (y : ℕ) → Fork r y → y ≢ 8 + c → Fork s y
  fork_back y f ne = kept_fork r s y (λ h. tag_old y h ne) f

  live_back : (y : ℕ) → Live r y → y ≢ 8 + c → Live s y
  live_back y lv ne = kept_live r s y (λ h. tag_old y h ne) lv

  fork_on : (y : ℕ) → Fork s y → Fork r y
  fork_on y f = kept_fork s r y (λ h. sym (tag_old y h (fork_old y f))) f

  -- the slot, the new cell's slots, and all others
  pub here : (r.slot x k ≡ c) × (r.kid x k ≡ true) × (r.val x k ≡ false)
  unfolding attach_s
  here = (at2_here (in_cell s.slot c u) x k c, at2_here (in_cell s.kid c false) x k true, at2_here (in_cell s.val c a) x k false)

  pub fresh : (j : ℕ) → j < 64 → (r.slot (8 + c) j ≡ u) × (r.kid (8 + c) j ≡ false) × (r.val (8 + c) j ≡ a)
  unfolding attach_s
  fresh j h =
      let ne : 8 + c ≢ x = λ e. fork_old x fx (sym e) in (
        at2_else (in_cell s.slot c u) x k c (8 + c) j ne ∙ in_cell_lem s.slot c u j h,
        at2_else (in_cell s.kid c false) x k true (8 + c) j ne ∙ in_cell_lem s.kid c false j h,
        at2_else (in_cell s.val c a) x k false (8 + c) j ne ∙ in_cell_lem s.val c a j h,
      )

  pub else_same : (y j : ℕ) → y ≢ 8 + c → y ≢ x → Equal s r y j
  unfolding attach_s
  else_same y j h ne =
      record {
        slot = sym (at2_else (in_cell s.slot c u) x k c y j ne ∙ in_else s.slot c u y j h);
        kid = sym (at2_else (in_cell s.kid c false) x k true y j ne ∙ in_else s.kid c false y j h);
        val = sym (at2_else (in_cell s.val c a) x k false y j ne ∙ in_else s.val c a y j h);
      }

  pub next_same : (y j : ℕ) → y ≢ 8 + c → j ≢ k → Equal s r y j
  unfolding attach_s
  next_same y j h ne =
      record {
        slot = sym (at2_next (in_cell s.slot c u) x k c y j ne ∙ in_else s.slot c u y j h);
        kid = sym (at2_next (in_cell s.kid c false) x k true y j ne ∙ in_else s.kid c false y j h);
        val = sym (at2_next (in_cell s.val c a) x k false y j ne ∙ in_else s.val c a y j h);
      }

  data Place (y j : ℕ) : Type 0 where
    slot : y ≡ x → j ≡ k → Place y j
    cell : y ≡ 8 + c → Place y j
    apart : y ≢ 8 + c → Equal s r y j → Place y j

  place : (y j : ℕ) → Place y j
  place y j = go (ℕ_discrete y (8 + c)) (ℕ_discrete y x) (ℕ_discrete j k)
    where
      go : Dec (y ≡ 8 + c) → Dec (y ≡ x) → Dec (j ≡ k) → Place y j
      go (yes e) p q = cell e
      go (no ne) (yes p) (yes q) = slot p q
      go (no ne) (yes p) (no q) = apart ne (next_same y j ne q)
      go (no ne) (no p) q = apart ne (else_same y j ne p)

  new_wide : (y j : ℕ) → y ≡ 8 + c → j < wide y → j < 64
  new_wide y j e h = omega (arith, wide_cell y (omega arith))

  stacked : (i : ℕ) → i < r.count → Stacked n r i
  unfolding attach_s
  stacked i h =
      let q : Stacked n s i = sd.stacked i (omega arith) in
      record { inside = q.inside; tagged = tag_else (s.stack i) (λ e. omega (arith, q.tagged, got.tagged, ap s.tag e)) ∙ q.tagged }

  held_new : Held n r c
  held_new = record { x = x; k = k; says = tag_new; node = hx; slot = hk; fork = fork_on x fx; on = here.1; links = here.0 }

  cell_old : (d : ℕ) → d ≢ c → Free s d ⊎ Held n s d → Free r d ⊎ Held n r d
  unfolding attach_s
  cell_old d ne (inl f) =
      let q : s.tag d ≢ s.count - 1 = λ e. ne (sym f.there ∙ ap s.stack e) in
      inl (record { below = subst (λ (t : ℕ). t < s.count - 1) (sym (tag_else d ne)) (omega (arith, f.below)); there = ap s.stack (tag_else d ne) ∙ f.there })
  cell_old d ne (inr h) = inr (go (place h.x h.k))
    where
      go : Place h.x h.k → Held n r d
      go (slot p q) = absurd (false≢true (sym off ∙ sym (ap₂ s.kid p q) ∙ h.on))
      go (cell e) = absurd (fork_old h.x h.fork e)
      go (apart e q) = kept_held h (tag_else d ne) (fork_on h.x) q

  cells : (d : ℕ) → d < n → Free r d ⊎ Held n r d
  cells d h = go (ℕ_discrete d c)
    where
      go : Dec (d ≡ c) → Free r d ⊎ Held n r d
      go (yes e) = inr (subst (Held n r) (sym e) held_new)
      go (no ne) = cell_old d ne (sd.cell d h)

  links : (y j : ℕ) → y < 8 + n → j < wide y → Fork r y → r.kid y j ≡ true → Link n r y j
  links y j hy hj f e = go (place y j)
    where
      new : Link n r x k
      new = record { inside = subst (λ (d : ℕ). d < n) (sym here.0) got.inside; tagged = ap r.tag here.0 ∙ tag_new; single = here.2 }

      go : Place y j → Link n r y j
      go (slot p q) = rw (p, q) new
      go (cell p) = absurd (false≢true (sym (fresh j (new_wide y j p hj)).1 ∙ subst (λ (z : ℕ). r.kid z j ≡ true) p e))
      go (apart ne q) =
          let l : Link n s y j = sd.link y j hy hj (fork_back y f ne) (q.kid ∙ e) in
          record {
            inside = subst (λ (d : ℕ). d < n) q.slot l.inside;
            tagged = ap r.tag (sym q.slot) ∙ tag_else (s.slot y j) (λ d. omega (arith, l.tagged, low, ap s.tag d)) ∙ l.tagged;
            single = sym q.val ∙ l.single;
          }

  values : (y j : ℕ) → y < 8 + n → j < wide y → Live r y → (Fork r y → r.kid y j ≡ false) → is_finite (r.slot y j) ≡ true
  values y j hy hj lv nk = go (place y j)
    where
      go : Place y j → is_finite (r.slot y j) ≡ true
      go (slot p q) = absurd (false≢true (sym (nk (subst (Fork r) (sym p) (fork_on x fx))) ∙ ap₂ r.kid p q ∙ here.1))
      go (cell p) = subst (λ (z : ℕ). is_finite (r.slot z j) ≡ true) (sym p) (ap is_finite (fresh j (new_wide y j p hj)).0 ∙ fu)
      go (apart ne q) = ap is_finite (sym q.slot) ∙ sd.value y j hy hj (live_back y lv ne) (λ f. q.kid ∙ nk (fork_on y f))

  pub attach_sound : Sound n r
  unfolding attach_s
  attach_sound =
      record { room = sd.room; few = omega (arith, sd.few); stacked = stacked; cell = cells; link = links; value = values; marks = sd.marks }
