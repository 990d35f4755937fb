-- A pool is sound exactly as document 01 says it. Assumes nothing.
use mathlib.Core.Path.{◌≡◌, refl, sym, ◌∙◌, ap, ap₂, subst}
use mathlib.Core.Bool.{true, false, cond, false≢true}
use mathlib.Core.Logic.{◌⊎◌, inl, inr, ⊎_elim}
use Prim.Native.Nat.{ℕ, ◌+◌, ◌-◌, ◌%◌, ◌<◌, ◌≤◌}
use native.Mathlib.Omega.{arith}
use lib.Dec.{ltb}
use borrow.Author.Tests.{lt-ltb, le-ltb}
use Rattle.floats.specs.Value.{is_finite}
use Rattle.grid.specs.Node.{size}
use Rattle.nodes.specs.State.{St, wide, linked, Used, Live, Fork, Free, Held, Link, Sound}
use Rattle.means.specs.Level.{At}
use Rattle.means.specs.Once.{Path, top, middle, leaf, end, branch_at, Leads, FreeOnce, ReachedOnce, Written}
use Rattle.means.specs.Owner.{above}
use Rattle.means.proofs.Levels.{wide_top, wide_cell, wide_most, tag_of, at_live, leaf_ends, fork_live, at_down}
use Rattle.means.proofs.Count.{held_of}
use Rattle.means.proofs.Pigeon.{pigeon}

-- ---- where each branch on a path has its use mark, the marks tell the path

-- the path to cell c, by the marks alone
abbrev trail : St → ℕ → Path
trail s c =
    let d = above s c - 8 in
    cond (ltb (above s c) 8) (middle (above s c) (s.tag c % 512)) (leaf (above s d) (s.tag d % 512) (s.tag c % 512))

module _ {n : ℕ} {s : St} (branch : (p : Path) (k : ℕ) → Leads s p → k < wide (end s p) → branch_at s p k ≡ true → Link n s (end s p) k) where
  middle_link : (t k : ℕ) → Leads s (middle t k) → Link n s t k
  middle_link t k h = branch (top t) k h.0 (omega (arith, h.1, wide_top t h.0)) h.2

  leaf_link : (t k j : ℕ) → Leads s (leaf t k j) → Link n s (8 + s.slot t k) j
  leaf_link t k j h = branch (middle t k) j (h.0, h.1, h.2) (omega (arith, h.3, wide_cell (8 + s.slot t k) (omega arith))) h.4

  told : (p : Path) (c : ℕ) → Leads s p → end s p ≡ 8 + c → Used s c × (p ≡ trail s c)
  told (top t) c h e = absurd (omega (arith, h, e))
  told (middle t k) c h e =
      let u : s.tag c ≡ linked t k = ap s.tag (omega (arith, e)) ∙ (middle_link t k h).tagged in
      let a : t ≡ above s c = omega (arith, h.1) in
      let b : k ≡ s.tag c % 512 = omega (arith, h.1) in
      (omega arith, rw (lt-ltb (above s c) 8 (omega (arith, h.0))) (ap₂ middle a b))
  told (leaf t k j) c h e =
      let d = s.slot t k in
      let u : s.tag c ≡ linked (8 + d) j = ap s.tag (omega (arith, e)) ∙ (leaf_link t k j h).tagged in
      let v : s.tag d ≡ linked t k = (middle_link t k (h.0, h.1, h.2)).tagged in
      let x : above s c - 8 ≡ d = omega (arith, h.3) in
      let a : t ≡ above s d = omega (arith, h.1) in
      let b : k ≡ s.tag d % 512 = omega (arith, h.1) in
      let g : j ≡ s.tag c % 512 = omega (arith, h.3) in
      (omega arith, rw (le-ltb (above s c) 8 (omega (arith, h.3)), x) (λ i. leaf (a i) (b i) (g i)))

-- ---- a sound pool is as written
module _ {n : ℕ} {s : St} (sd : Sound n s) where
  middle_at : (t k : ℕ) → Leads s (middle t k) → At n s 1 (8 + s.slot t k)
  unfolding size
  middle_at t k h = at_down sd 1 t k (h.0, refl) h.1 h.2

  leaf_at : (t k j : ℕ) → Leads s (leaf t k j) → At n s 0 (8 + s.slot (8 + s.slot t k) j)
  unfolding size
  leaf_at t k j h = at_down sd 0 (8 + s.slot t k) j (middle_at t k (h.0, h.1, h.2)) h.3 h.4

  link_of : (p : Path) (k : ℕ) → Leads s p → k < wide (end s p) → branch_at s p k ≡ true → Link n s (end s p) k
  link_of (top t) k h q e = sd.link t k (omega (arith, h)) q (inl h) e
  link_of (middle t k) j h q e = let a = middle_at t k h in sd.link (8 + s.slot t k) j a.1 q (inr (a.0, a.2)) e
  link_of (leaf t k j) i h q e = absurd (false≢true e)

  value_of : (p : Path) (k : ℕ) → Leads s p → k < wide (end s p) → branch_at s p k ≡ false → is_finite (s.slot (end s p) k) ≡ true
  value_of (top t) k h q e = sd.value t k (omega (arith, h)) q (inl h) (λ _. e)
  value_of (middle t k) j h q e = let a = middle_at t k h in sd.value (8 + s.slot t k) j a.1 q (inr (a.0, a.2.0)) (λ _. e)
  value_of (leaf t k j) i h q e =
      let x = 8 + s.slot (8 + s.slot t k) j in
      let a : At n s 0 x = leaf_at t k j h in
      sd.value x i a.1 q (at_live n s 0 x a) (λ f. absurd (leaf_ends n s x a f))

  -- a free cell is at its place alone, and a used one at the end of one path
  free_once : (c : ℕ) → Free s c → FreeOnce s c
  free_once c f =
      record {
        place = s.tag c;
        below = f.below;
        there = f.there;
        once = λ i h e. sym (sd.stacked i h).tagged ∙ ap s.tag e;
        unreached = λ p h e. omega (arith, f.below, sd.few, sd.room, (told link_of p c h e).0);
      }

  path_to : (c : ℕ) (g : Held n s c) → Fork s g.x → (p : Path) × Leads s p × (end s p ≡ 8 + c)
  path_to c g (inl h) = (middle g.x g.k, (h, omega (arith, g.slot, wide_most g.x), g.on), ap (λ (d : ℕ). 8 + d) g.links)
  path_to c g (inr h) =
      let f : Held n s (g.x - 8) = held_of sd (g.x - 8) (omega (arith, g.node, h.0)) h.1.0 in
      let e : 8 + s.slot f.x f.k ≡ g.x = omega (arith, f.links, h.0) in (
        leaf f.x f.k g.k,
        (
          omega (arith, f.says, h.1.1),
          omega (arith, f.slot, wide_most f.x),
          f.on,
          omega (arith, g.slot, wide_cell g.x h.0),
          ap (λ (y : ℕ). s.kid y g.k) e ∙ g.on,
        ),
        ap (λ (y : ℕ). 8 + s.slot y g.k) e ∙ ap (λ (d : ℕ). 8 + d) g.links,
      )

  reached_once : (c : ℕ) → Held n s c → ReachedOnce s c
  reached_once c g =
      let r = path_to c g g.fork in
      let o : Used s c × (r.0 ≡ trail s c) = told link_of r.0 c r.1 r.2 in
      record {
        path = r.0;
        leads = r.1;
        there = r.2;
        once = λ p h e. (told link_of p c h e).1 ∙ sym o.1;
        unfree = λ i h e. omega (arith, sd.few, sd.room, o.0, (sd.stacked i h).tagged, ap s.tag e);
      }

  pub sound_written : Written n s
  sound_written =
      record {
        cell = λ c h. ⊎_elim (λ f. inl (free_once c f)) (λ g. inr (reached_once c g)) (sd.cell c h);
        place = sd.stacked;
        branch = link_of;
        value = value_of;
        marks = sd.marks;
      }

-- ---- and what is written is a sound pool
module _ {n : ℕ} {s : St} (room : n < 65536) (w : Written n s) where
  few : s.count ≤ n
  few = pigeon s.count n s.stack (λ i h. (w.place i h).inside) (λ i j h h' e. sym (w.place i h).tagged ∙ ap s.tag e ∙ (w.place j h').tagged)

  free_tag : (c : ℕ) (f : FreeOnce s c) → s.tag c ≡ f.place
  free_tag c f = ap s.tag (sym f.there) ∙ (w.place f.place f.below).tagged

  -- a middle node is marked as one, and a leaf is not
  middle_fork : (t k : ℕ) → Leads s (middle t k) → Fork s (8 + s.slot t k)
  middle_fork t k h =
      let u : s.tag (8 + s.slot t k - 8) ≡ linked t k = tag_of s (s.slot t k) ∙ (middle_link w.branch t k h).tagged in
      inr (omega arith, (omega arith, omega (arith, h.0, h.1)))

  leaf_no_fork : (t k j : ℕ) → Leads s (leaf t k j) → Fork s (8 + s.slot (8 + s.slot t k) j) → ⊥
  leaf_no_fork t k j h f =
      let y = 8 + s.slot t k in
      let u : s.tag (8 + s.slot y j - 8) ≡ linked y j = tag_of s (s.slot y j) ∙ (leaf_link w.branch t k j h).tagged in
      ⊎_elim (λ l. omega (arith, l)) (λ l. omega (arith, l.1.1)) f

  held : (c : ℕ) (p : Path) → Leads s p → end s p ≡ 8 + c → Held n s c
  held c (top t) h e = absurd (omega (arith, h, e))
  held c (middle t k) h e =
      let l : s.slot t k ≡ c = omega (arith, e) in
      record {
        x = t;
        k = k;
        says = ap s.tag (sym l) ∙ (middle_link w.branch t k h).tagged;
        node = omega (arith, h.0);
        slot = omega (arith, h.1, wide_top t h.0);
        fork = inl h.0;
        on = h.2;
        links = l;
      }
  held c (leaf t k j) h e =
      let y = 8 + s.slot t k in
      let m : Leads s (middle t k) = (h.0, h.1, h.2) in
      let l : s.slot y j ≡ c = omega (arith, e) in
      record {
        x = y;
        k = j;
        says = ap s.tag (sym l) ∙ (leaf_link w.branch t k j h).tagged;
        node = omega (arith, (middle_link w.branch t k m).inside);
        slot = omega (arith, h.3, wide_cell y (omega arith));
        fork = middle_fork t k m;
        on = h.4;
        links = l;
      }

  cells : (c : ℕ) → FreeOnce s c ⊎ ReachedOnce s c → Free s c ⊎ Held n s c
  cells c (inl f) = inl (record { below = omega (arith, free_tag c f, f.below); there = ap s.stack (free_tag c f) ∙ f.there })
  cells c (inr r) = inr (held c r.path r.leads r.there)

  -- a node that counts is at the end of a path
  at_ends : (P : ℕ → Type 0) → ((p : Path) → Leads s p → P (end s p)) → (x : ℕ) → x < 8 + n → Live s x → P x
  at_ends P f x hx (inl h) = f (top x) h
  at_ends P f x hx (inr h) = ⊎_elim
      (λ o. absurd (omega (arith, h.1, free_tag (x - 8) o, o.below, few, room)))
      (λ r. subst P (r.there ∙ omega (arith, h.0)) (f r.path r.leads))
      (w.cell (x - 8) (omega (arith, h.0)))

  link_at : (k : ℕ) (p : Path) → Leads s p → k < wide (end s p) → Fork s (end s p) → s.kid (end s p) k ≡ true → Link n s (end s p) k
  link_at k (top t) h q f e = w.branch (top t) k h q e
  link_at k (middle t i) h q f e = w.branch (middle t i) k h q e
  link_at k (leaf t i j) h q f e = absurd (leaf_no_fork t i j h f)

  value_at : (k : ℕ) (p : Path) → Leads s p → k < wide (end s p) → (Fork s (end s p) → s.kid (end s p) k ≡ false) → is_finite (s.slot (end s p) k) ≡ true
  value_at k (top t) h q off = w.value (top t) k h q (off (inl h))
  value_at k (middle t i) h q off = w.value (middle t i) k h q (off (middle_fork t i h))
  value_at k (leaf t i j) h q off = w.value (leaf t i j) k h q refl

  pub written_sound : Sound n s
  written_sound =
      record {
        room = room;
        few = few;
        stacked = w.place;
        cell = λ c h. cells c (w.cell c h);
        link = λ x k hx hk f. at_ends (λ y. k < wide y → Fork s y → s.kid y k ≡ true → Link n s y k) (link_at k) x hx (fork_live n s x f) hk f;
        value = λ x k hx hk v. at_ends (λ y. k < wide y → (Fork s y → s.kid y k ≡ false) → is_finite (s.slot y k) ≡ true) (value_at k) x hx v hk;
        marks = w.marks;
      }
