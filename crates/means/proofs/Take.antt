-- The branch of a slot of node y taken over by the same slot of node x, which is none: the pool stays sound, the slot of x becomes that branch, or the branch flipped, the
-- slot of y is hidden with +far, and nothing else changes. Assumes nothing.
use mathlib.Core.Path.{◌≡◌, refl, sym, ap, ap₂, ◌∙◌, subst}
use mathlib.Core.Bool.{true, false, false≢true}
use mathlib.Core.Logic.{◌≢◌, ◌⊎◌, inl, inr, ⊎_elim}
use Prim.Native.Nat.{ℕ, zero, suc, ◌+◌, ◌-◌, ◌<◌, ◌≤◌}
use native.Mathlib.Decide.{ℕ_discrete}
use native.Mathlib.Omega.{arith}
use Rattle.floats.specs.Value.{is_finite, far}
use Rattle.floats.proofs.Finite.{finite_far}
use Rattle.grid.specs.Node.{branch, Node, changed}
use Rattle.grid.specs.Whole.{flip}
use Rattle.grid.specs.Combine.{Operation, union, subtract, intersect, taken}
use Rattle.nodes.specs.State.{St, wide, linked, Live, Fork, Free, Held, Stacked, Link, Sound, slot_at}
use Rattle.nodes.specs.Change.{at2}
use Rattle.nodes.specs.Walk.{branching, below}
use Rattle.trees.specs.Combine.{take_child_s, take_m}
use Rattle.trees.specs.declared.turn.Work.TheVariants.{Flip}
use Rattle.means.specs.Level.{levels, span, tree_at, At, In, Equal, Same, Turned}
use Rattle.means.specs.Joined.{Beyond, Joined}
use Rattle.means.proofs.Levels.{wide_top, wide_most, at_wide, at_inside, at_fork, at_link, at_down, kept_at, kept_held}
use Rattle.means.proofs.Slots.{slot_branch, changed_twice}
use Rattle.means.proofs.Frame.{in_own, tree_frame, in_frame, slot_tree, slot_in, level_apart}
use Rattle.means.proofs.Put.{at1_here, at1_else, at2_here, at2_else, at2_next}
use Rattle.means.proofs.Turned.{into, lift}
use Rattle.means.proofs.Turn.{turn_right}
use Rattle.means.proofs.Joined.{past_slot, joined_then, joined_into, joined_first}
use Rattle.means.proofs.Unspoilt.{unspoilt_take}

-- ---- two slots changed: what is read elsewhere
module _ {A : Type 0} (f : ℕ → ℕ → A) (x y k : ℕ) (a b : A) (z j : ℕ) where
  both_else : z ≢ x → z ≢ y → at2 (at2 f y k a) x k b z j ≡ f z j
  both_else h h' = at2_else (at2 f y k a) x k b z j h ∙ at2_else f y k a z j h'

  both_next : j ≢ k → at2 (at2 f y k a) x k b z j ≡ f z j
  both_next h = at2_next (at2 f y k a) x k b z j h ∙ at2_next f y k a z j h

-- ---- use marks that are alike: a cell that counts counts, and one that may have branches may
abbrev Alike : ℕ → ℕ → Type 0
Alike t u = (65536 ≤ t → 65536 ≤ u) × (t < 69632 → u < 69632)

module _ (s r : St) (like : (d : ℕ) → Alike (s.tag d) (r.tag d)) where
  live_like : (z : ℕ) → Live s z → Live r z
  live_like z (inl h) = inl h
  live_like z (inr h) = inr (h.0, (like (z - 8)).0 h.1)

  fork_like : (z : ℕ) → Fork s z → Fork r z
  fork_like z (inl h) = inl h
  fork_like z (inr h) = inr (h.0, ((like (z - 8)).0 h.1.0, (like (z - 8)).1 h.1.1))

-- the marks of two nodes of one level are
linked_like : (n : ℕ) (s : St) (l x y k : ℕ) → At n s (suc l) x → At n s (suc l) y → k < span (suc l) → Alike (linked x k) (linked y k)
linked_like n s zero x y k h h' q = ((λ _. omega arith), λ t. absurd (omega (arith, h.0)))
linked_like n s (suc l) x y k h h' q = ((λ _. omega arith), λ _. omega (arith, h'.0, wide_top y h'.0, at_wide n s (suc (suc l)) y h'))

module _ {n : ℕ} {s : St} (sd : Sound n s) (l x y k : ℕ) (hx : At n s (suc l) x) (hy : At n s (suc l) y) (q : k < span (suc l))
    (ex : s.kid x k ≡ false) (ey : s.kid y k ≡ true) where
  abbrev c : ℕ
  c = s.slot y k

  abbrev r : St
  r = take_child_s x y k s

  differ : x ≢ y
  differ e = false≢true (sym ex ∙ ap (λ (u : ℕ). s.kid u k) e ∙ ey)

  own : Link n s y k
  own = at_link sd l y k hy q ey

  -- ---- the two slots, and all others
  here_x : (r.slot x k ≡ c) × (r.kid x k ≡ true) × (r.val x k ≡ false)
  unfolding take_child_s
  here_x = (at2_here (at2 s.slot y k far) x k c, at2_here (at2 s.kid y k false) x k true, at2_here (at2 s.val y k false) x k false)

  here_y : (r.slot y k ≡ far) × (r.kid y k ≡ false) × (r.val y k ≡ false)
  unfolding take_child_s
  here_y = (
    at2_else (at2 s.slot y k far) x k c y k (λ e. differ (sym e)) ∙ at2_here s.slot y k far,
    at2_else (at2 s.kid y k false) x k true y k (λ e. differ (sym e)) ∙ at2_here s.kid y k false,
    at2_else (at2 s.val y k false) x k false y k (λ e. differ (sym e)) ∙ at2_here s.val y k false,
  )

  else_same : (z j : ℕ) → z ≢ x → z ≢ y → Equal s r z j
  unfolding take_child_s
  else_same z j h h' =
      record { slot = sym (both_else s.slot x y k far c z j h h'); kid = sym (both_else s.kid x y k false true z j h h'); val = sym (both_else s.val x y k false false z j h h') }

  next_same : (z j : ℕ) → j ≢ k → Equal s r z j
  unfolding take_child_s
  next_same z j h =
      record { slot = sym (both_next s.slot x y k far c z j h); kid = sym (both_next s.kid x y k false true z j h); val = sym (both_next s.val x y k false false z j h) }

  data Place (z j : ℕ) : Type 0 where
    to : z ≡ x → j ≡ k → Place z j
    from : z ≡ y → j ≡ k → Place z j
    apart : ((z ≡ y) × (j ≡ k) → ⊥) → Equal s r z j → Place z j

  place : (z j : ℕ) → Place z j
  place z j = go (ℕ_discrete j k) (ℕ_discrete z x) (ℕ_discrete z y)
    where
      go : Dec (j ≡ k) → Dec (z ≡ x) → Dec (z ≡ y) → Place z j
      go (yes p) (yes e) d = to e p
      go (yes p) (no e) (yes d) = from d p
      go (yes p) (no e) (no d) = apart (λ w. d w.0) (else_same z j e d)
      go (no p) e d = apart (λ w. p w.1) (next_same z j p)

  -- ---- the use marks
  tag_new : r.tag c ≡ linked x k
  unfolding take_child_s
  tag_new = at1_here s.tag c (linked x k)

  tag_else : (d : ℕ) → d ≢ c → r.tag d ≡ s.tag d
  unfolding take_child_s
  tag_else d ne = at1_else s.tag c (linked x k) d ne

  like : (d : ℕ) → Alike (s.tag d) (r.tag d) × Alike (r.tag d) (s.tag d)
  like d = go (ℕ_discrete d c)
    where
      go : Dec (d ≡ c) → Alike (s.tag d) (r.tag d) × Alike (r.tag d) (s.tag d)
      go (yes e) =
          let a : s.tag d ≡ linked y k = ap s.tag e ∙ own.tagged in
          let b : r.tag d ≡ linked x k = ap r.tag e ∙ tag_new in (
            subst (λ (t : ℕ). Alike t (r.tag d)) (sym a) (subst (Alike (linked y k)) (sym b) (linked_like n s l y x k hy hx q)),
            subst (λ (t : ℕ). Alike t (s.tag d)) (sym b) (subst (Alike (linked x k)) (sym a) (linked_like n s l x y k hx hy q)),
          )
      go (no ne) = (subst (Alike (s.tag d)) (sym (tag_else d ne)) (λ h. h, λ h. h), subst (Alike (r.tag d)) (tag_else d ne) (λ h. h, λ h. h))

  live_back : (z : ℕ) → Live r z → Live s z
  live_back = live_like r s (λ d. (like d).1)

  fork_on : (z : ℕ) → Fork s z → Fork r z
  fork_on = fork_like s r (λ d. (like d).0)

  fork_back : (z : ℕ) → Fork r z → Fork s z
  fork_back = fork_like r s (λ d. (like d).1)

  -- ---- the pool is sound
  stacked : (i : ℕ) → i < s.count → Stacked n r i
  unfolding take_child_s
  stacked i h =
      let t : Stacked n s i = sd.stacked i h in
      record { inside = t.inside; tagged = tag_else (s.stack i) (λ e. omega (arith, t.tagged, own.tagged, ap s.tag e, h, sd.few, sd.room)) ∙ t.tagged }

  cell_old : (d : ℕ) → d ≢ c → Free s d ⊎ Held n s d → Free r d ⊎ Held n r d
  unfolding take_child_s
  cell_old d ne (inl f) = inl (record { below = omega (arith, tag_else d ne, f.below); there = ap s.stack (tag_else d ne) ∙ f.there })
  cell_old d ne (inr h) = inr (go (place h.x h.k))
    where
      go : Place h.x h.k → Held n r d
      go (to p e) = absurd (false≢true (sym ex ∙ sym (ap₂ s.kid p e) ∙ h.on))
      go (from p e) = absurd (ne (sym h.links ∙ ap₂ s.slot p e))
      go (apart a e) = kept_held h (tag_else d ne) (fork_on h.x) e

  cells : (d : ℕ) → d < n → Free r d ⊎ Held n r d
  cells d h = go (ℕ_discrete d c)
    where
      go : Dec (d ≡ c) → Free r d ⊎ Held n r d
      go (yes e) =
          inr (subst (Held n r) (sym e) (record {
            x = x;
            k = k;
            says = tag_new;
            node = at_inside n s (suc l) x hx;
            slot = omega (arith, at_wide n s (suc l) x hx);
            fork = fork_on x (at_fork n s l x hx);
            on = here_x.1;
            links = here_x.0;
          }))
      go (no ne) = cell_old d ne (sd.cell d h)

  links : (z j : ℕ) → z < 8 + n → j < wide z → Fork r z → r.kid z j ≡ true → Link n r z j
  links z j hz hj f e = go (place z j)
    where
      go : Place z j → Link n r z j
      go (to p d) =
          record {
            inside = subst (λ (i : ℕ). i < n) (sym (ap₂ r.slot p d ∙ here_x.0)) own.inside;
            tagged = ap r.tag (ap₂ r.slot p d ∙ here_x.0) ∙ tag_new ∙ sym (ap₂ linked p d);
            single = ap₂ r.val p d ∙ here_x.2;
          }
      go (from p d) = absurd (false≢true (sym here_y.1 ∙ sym (ap₂ r.kid p d) ∙ e))
      go (apart a d) =
          let l' : Link n s z j = sd.link z j hz hj (fork_back z f) (d.kid ∙ e) in
          let b : j < 512 = omega (arith, wide_most z) in
          let b' : k < 512 = omega (arith, at_wide n s (suc l) y hy, wide_most y) in
          record {
            inside = subst (λ (i : ℕ). i < n) d.slot l'.inside;
            tagged = ap r.tag (sym d.slot)
                ∙ tag_else (s.slot z j) (λ i. let t : linked z j ≡ linked y k = sym l'.tagged ∙ ap s.tag i ∙ own.tagged in a (omega arith, omega arith))
                ∙ l'.tagged;
            single = sym d.val ∙ l'.single;
          }

  values : (z j : ℕ) → z < 8 + n → j < wide z → Live r z → (Fork r z → r.kid z j ≡ false) → is_finite (r.slot z j) ≡ true
  values z j hz hj lv nk = go (place z j)
    where
      go : Place z j → is_finite (r.slot z j) ≡ true
      go (to p d) = absurd (false≢true (sym (nk (fork_on z (subst (Fork s) (sym p) (at_fork n s l x hx)))) ∙ ap₂ r.kid p d ∙ here_x.1))
      go (from p d) = ap is_finite (ap₂ r.slot p d ∙ here_y.0) ∙ finite_far
      go (apart a d) = ap is_finite (sym d.slot) ∙ sd.value z j hz hj (live_back z lv) (λ f. d.kid ∙ nk (fork_on z f))

  take_sound : Sound n r
  unfolding take_child_s
  take_sound = record { room = sd.room; few = sd.few; stacked = stacked; cell = cells; link = links; value = values; marks = sd.marks }

  -- ---- the two trees: what is below a branch of either is as it was
  below_same : (u j : ℕ) → At n s (suc l) u → j < span (suc l) → s.kid u j ≡ true → (z : ℕ) → In l s (8 + s.slot u j) z → Same s r z
  below_same u j h p e z i j' = else_same z j' (level_apart sd l x u j hx h p e z i) (level_apart sd l y u j hy h p e z i)

  tags : (z : ℕ) → z ≢ 8 + c → 8 ≤ z → s.tag (z - 8) ≡ r.tag (z - 8)
  tags z ne h = sym (tag_else (z - 8) (λ e. ne (omega arith)))

  own_tag : (u : ℕ) → At n s (suc l) u → 8 ≤ u → s.tag (u - 8) ≡ r.tag (u - 8)
  own_tag u h = tags u (λ e. level_apart sd l u y k h hy q ey (8 + c) (in_own l s (8 + c)) (sym e))

  within : (z : ℕ) → Beyond n (suc l) s x y z → In (suc l) r x z ⊎ In (suc l) r y z → ⊥
  within z o (inl i) = ⊎_elim (λ i'. o.out (inl i'))
      (λ p. o.out (inr (inr (k, q, ey, in_frame l s r (8 + c) (below_same y k hy q ey) z (subst (λ (d : ℕ). In l r (8 + d) z) here_x.0 p.1)))))
      (slot_in l s r x k (next_same x) (λ j p _. below_same x j hx p) z i)
  within z o (inr i) = ⊎_elim (λ i'. o.out (inr i')) (λ p. false≢true (sym here_y.1 ∙ p.0)) (slot_in l s r y k (next_same y) (λ j p _. below_same y j hy p) z i)

  take_joined : Joined n (suc l) x y (suc k) s r (changed (span (suc l)) k (λ _. branch (tree_at l s (8 + s.slot y k))) (tree_at (suc l) s x))
  unfolding take_child_s
  take_joined =
      record {
        sound = take_sound;
        at_x = kept_at n (suc l) x s r (own_tag x hx) hx;
        at_y = kept_at n (suc l) y s r (own_tag y hy) hy;
        grid = slot_tree l s r x k (next_same x) (λ j p _. below_same x j hx p) (branch (tree_at l s (8 + c)))
            (slot_branch (tree_at l r) r x k here_x.1 ∙ ap branch (ap (λ (d : ℕ). tree_at l r (8 + d)) here_x.0 ∙ sym (tree_frame l s r (8 + c) (below_same y k hy q ey))));
        rest = past_slot (span (suc l)) k (λ _. slot_at (tree_at l r) r y k) (tree_at (suc l) s y) (tree_at (suc l) r y)
            (slot_tree l s r y k (next_same y) (λ j p _. below_same y j hy p) (slot_at (tree_at l r) r y k) refl);
        keep = λ z o.
            record {
              slots = λ j. else_same z j (λ e. o.out (inl (inl e))) (λ e. o.out (inr (inl e)));
              tag = tags z (λ e. o.out (inr (inr (k, q, ey, subst (In l s (8 + c)) (sym e) (in_own l s (8 + c))))));
            };
        within = within;
        marks = refl;
        unspoilt = unspoilt_take x y k s (omega (arith, own.inside, sd.room));
      }

  -- ---- what is done to the branch once it is taken
  turned_there : {t : St} {g : Node (levels l)} → Turned n l (8 + c) r t g → Joined n (suc l) x y (suc k) s t (changed (span (suc l)) k (λ _. branch g) (tree_at (suc l) s x))
  turned_there {t} {g} a = joined_into
      (joined_then take_joined (omega arith) (joined_first (suc k) take_sound take_joined.at_x take_joined.at_y differ
      (lift take_sound l x k take_joined.at_x q here_x.1 (subst (λ (d : ℕ). Turned n l (8 + d) r t g) (sym here_x.0) a))))
      (ap (changed (span (suc l)) k (λ _. branch g)) take_joined.grid ∙ changed_twice (span (suc l)) k (λ _. branch g) (λ _. branch (tree_at l s (8 + c))) (tree_at (suc l) s x))

  at_c : At n r l (8 + c)
  at_c = subst (λ (d : ℕ). At n r l (8 + d)) here_x.0 (at_down take_sound l x k take_joined.at_x q here_x.1)

  pub taken_joined : (o : Operation) → Joined n (suc l) x y (suc k) s (take_m (branching l) (below l) o n x y k s)
      (changed (span (suc l)) k (λ _. branch (taken o (levels l) (tree_at l s (8 + s.slot y k)))) (tree_at (suc l) s x))
  unfolding flip
  taken_joined union = take_joined
  taken_joined subtract = turned_there (into (turn_right Flip l (8 + c) take_sound at_c) (ap (flip (levels l)) (sym (tree_frame l s r (8 + c) (below_same y k hy q ey)))))
  taken_joined intersect = take_joined
