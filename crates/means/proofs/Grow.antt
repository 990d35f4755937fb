-- A free cell hung below a slot that is no branch: the node has a branch more, to a constant node. Assumes nothing.
use mathlib.Core.Path.{◌≡◌, refl, sym, ap, ◌∙◌, subst, fun_ext}
use mathlib.Core.Bool.{Bool, true, false, cond, false≢true}
use mathlib.Core.Logic.{◌≢◌, inl, inr, ⊎_elim}
use Prim.Native.Nat.{ℕ, zero, suc, ◌+◌, ◌-◌, ◌%◌, ◌<◌, ◌≤◌}
use native.Mathlib.Omega.{arith}
use native.Mathlib.Nat.{mod-lt}
use Rattle.floats.specs.Value.{is_finite}
use Rattle.grid.specs.Node.{Slot, branch, tile, hidden, Node, changed}
use Rattle.nodes.specs.State.{St, wide, linked, Live, Fork, Sound, flat, slot_at, tree}
use Rattle.nodes.specs.Change.{next, attach_s}
use Rattle.means.specs.Level.{levels, span, tree_at, filled, At, In, Equal, Same, Outside, Turned}
use Rattle.means.proofs.Levels.{wide_top, wide_cell, tag_of, span_pos, at_wide, at_inside, at_fork, at_live, kept_at}
use Rattle.means.proofs.Slots.{slot_branch, slot_flat}
use Rattle.means.proofs.Frame.{slot_tree, slot_in, Under, under, own_apart}
use Rattle.means.proofs.Turned.{lift, over}
use Rattle.means.proofs.Attach as attach
use Rattle.means.proofs.Unspoilt.{unspoilt_attach}

-- a node of 64 slots that are all alike
module _ (r : St) (y u : ℕ) (a : Bool) (e : (j : ℕ) → j < 64 → (r.slot y j ≡ u) × (r.kid y j ≡ false) × (r.val y j ≡ a)) where
  flat_is : {C : Type 0} (j : ℕ) → j < 64 → ◌≡◌ {A = Slot C} (flat r y j) (cond a (tile u) (hidden u))
  flat_is {C} j h = λ i. cond {A = Slot C} ((e j h).2 i) (tile ((e j h).0 i)) (hidden ((e j h).0 i))

  pub alike_tree : (l : ℕ) → span l ≡ 64 → tree_at l r y ≡ filled l u a
  unfolding tree
  alike_tree zero w = fun_ext (λ k. flat_is (k % span zero) (omega (arith, mod-lt k (span_pos zero))))
  alike_tree (suc l) w = fun_ext (λ k.
      let h : k % span (suc l) < 64 = omega (arith, mod-lt k (span_pos (suc l))) in
      slot_flat (tree_at l r) r y (k % span (suc l)) (e (k % span (suc l)) h).1 ∙ flat_is (k % span (suc l)) h)

  pub alike_in : (l : ℕ) → span l ≡ 64 → (z : ℕ) → In l r y z → z ≡ y
  alike_in zero w z i = i
  alike_in (suc l) w z (inl i) = i
  alike_in (suc l) w z (inr (j, q, t, i)) = absurd (false≢true (sym (e j (omega arith)).1 ∙ t))

module _ {n : ℕ} {s : St} (sd : Sound n s) (l x k u : ℕ) (a : Bool) (h : At n s (suc l) x) (q : k < span (suc l)) (off : s.kid x k ≡ false)
    (some : 0 < s.count) (fu : is_finite u ≡ true) where
  abbrev c : ℕ
  c = next s

  abbrev r : St
  r = attach_s x k u a s

  hx : x < 8 + n
  hx = at_inside n s (suc l) x h

  hk : k < wide x
  hk = omega (arith, at_wide n s (suc l) x h)

  fx : Fork s x
  fx = at_fork n s l x h

  pub grow_sound : Sound n r
  grow_sound = attach.attach_sound sd x k u a hx hk fx off some fu

  pub grow_here : (r.slot x k ≡ c) × (r.kid x k ≡ true) × (r.val x k ≡ false)
  grow_here = attach.here sd x k u a hx hk fx off some fu

  old : (y : ℕ) → Live s y → y ≢ 8 + c
  old = attach.live_old sd x k u a hx hk fx off some fu

  tags : (y : ℕ) → Live s y → 8 ≤ y → s.tag (y - 8) ≡ r.tag (y - 8)
  tags y lv g = sym (attach.tag_old sd x k u a hx hk fx off some fu y g (old y lv))

  -- a node that counts keeps its slots, unless it is x
  same : (y : ℕ) → Live s y → y ≢ x → Same s r y
  same y lv ne j = attach.else_same sd x k u a hx hk fx off some fu y j (old y lv) ne

  hc : c < n
  hc = (sd.stacked (s.count - 1) (omega arith)).inside

  pub grow_at : At n r l (8 + c)
  grow_at = go l h hk
    where
      t : r.tag (8 + c - 8) ≡ linked x k
      t = tag_of r c ∙ attach.tag_new sd x k u a hx hk fx off some fu

      go : (l : ℕ) → At n s (suc l) x → k < wide x → At n r l (8 + c)
      go zero h w = (omega arith, omega (arith, hc), omega (arith, t, h.0))
      go (suc zero) h w = (omega arith, omega (arith, hc), (omega (arith, t), omega (arith, t, h.0, wide_top x h.0)))
      go (suc (suc l)) h w = absurd (omega (arith, h.1))

  pub span_new : span l ≡ 64
  span_new = sym (at_wide n r l (8 + c) grow_at) ∙ wide_cell (8 + c) (omega arith)

  pub grow_tree : tree_at l r (8 + c) ≡ filled l u a
  grow_tree = alike_tree r (8 + c) u a (attach.fresh sd x k u a hx hk fx off some fu) l span_new

  -- the other branches are as they were
  aside : (j : ℕ) → j < span (suc l) → s.kid x j ≡ true → (y : ℕ) → In l s (8 + s.slot x j) y → Same s r y
  aside j p t y i =
      let o : Under n s l x j y = under sd l x j h p t y i in
      same y (inr (o.cell, o.used)) (own_apart sd l x j h p t y i)

  beside : (j : ℕ) → j ≢ k → Equal s r x j
  beside j ne = attach.next_same sd x k u a hx hk fx off some fu x j (old x (at_live n s (suc l) x h)) ne

  new : slot_at (tree_at l r) r x k ≡ branch (filled l u a)
  new = slot_branch (tree_at l r) r x k grow_here.1 ∙ ap branch (ap (λ (d : ℕ). tree_at l r (8 + d)) grow_here.0 ∙ grow_tree)

  none_in : (y : ℕ) → Outside n (suc l) s x y → In (suc l) r x y → ⊥
  none_in y o i = ⊎_elim o.out
      (λ p. old y o.live (alike_in r (8 + c) u a (attach.fresh sd x k u a hx hk fx off some fu) l span_new y (subst (λ (d : ℕ). In l r (8 + d) y) grow_here.0 p.1)))
      (slot_in l s r x k beside (λ j p _. aside j p) y i)

  pub grow_turned : Turned n (suc l) x s r (changed (span (suc l)) k (λ _. branch (filled l u a)) (tree_at (suc l) s x))
  unfolding attach_s
  grow_turned =
      record {
        sound = grow_sound;
        at = kept_at n (suc l) x s r (tags x (at_live n s (suc l) x h)) h;
        grid = slot_tree l s r x k beside (λ j p _. aside j p) (branch (filled l u a)) new;
        keep = λ y o. record { slots = same y o.live (λ e. o.out (inl e)); tag = tags y o.live };
        within = none_in;
        marks = refl;
        unspoilt = unspoilt_attach x k s u a fu (omega (arith, hc, sd.room));
      }

  -- what is then done in the new node
  pub grow_then : {r' : St} {g : Node (levels l)} → Turned n l (8 + c) r r' g → Turned n (suc l) x s r' (changed (span (suc l)) k (λ _. branch g) (tree_at (suc l) s x))
  grow_then {r'} {g} b =
      over k (branch (filled l u a)) grow_turned (branch g) (lift grow_sound l x k grow_turned.at q grow_here.1 (subst (λ (d : ℕ). Turned n l (8 + d) r r' g) (sym grow_here.0) b))
