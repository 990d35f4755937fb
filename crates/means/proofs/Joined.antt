-- The laws of one node joined into another: one change after another, a change of the first alone, below a branch of both, every slot, and what a third node sees.
-- Assumes nothing.
use mathlib.Core.Path.{◌≡◌, refl, sym, ap, ◌∙◌, subst, fun_ext}
use mathlib.Core.Bool.{true}
use mathlib.Core.Logic.{◌≢◌, inl, inr, ⊎_elim}
use Prim.Native.Nat.{ℕ, zero, suc, ◌+◌, ◌<◌, ◌≤◌}
use native.Mathlib.Omega.{arith}
use native.Mathlib.Nat.{mod-eq_of_lt}
use Rattle.grid.specs.Node.{branch, Node, SlotOf, changed}
use Rattle.grid.proofs.Places.{changed_at}
use Rattle.nodes.specs.State.{St, Live, Sound, slot_at}
use Rattle.nodes.specs.Each.{each_s}
use Rattle.nodes.specs.Walk.{branching, below}
use Rattle.means.specs.Level.{levels, span, tree_at, At, In, Same, Kept, Outside, Turned}
use Rattle.means.specs.Joined.{Beyond, Joined}
use Rattle.means.proofs.Levels.{span_pos, at_inside, at_live, kept_live, kept_at}
use Rattle.means.proofs.Slots.{slot_branch, tree_round, changed_like}
use Rattle.means.proofs.Frame.{in_own, tree_frame, slot_tree, slot_in, Under, under, level_apart, branch_apart, node_apart, in_there}
use Rattle.means.proofs.Turned.{kept_then, stay, Apart, apart_at, apart_tree, apart_in, nodes_apart}
use Rattle.means.proofs.Each.{upto, upto_none, upto_more, upto_all}
use Rattle.means.proofs.Unspoilt.{unspoilt_then}

-- ---- of a node of which slot k alone has changed, the slots past k are as they were
pub past_slot : {A : Type 0} (m k : ℕ) (f : A → A) (t t' : ℕ → A) → t' ≡ changed m k f t → (j : ℕ) → suc k ≤ j → j < m → t' j ≡ t j
past_slot m k f t t' e j p h = ap (λ u. u j) e ∙ changed_at (λ u. u ≡ t j) m k f t j (λ d. absurd (past (sym (mod-eq_of_lt h) ∙ d))) (λ _. refl)
  where
    past : j ≡ k → ⊥
    past d = omega arith

-- ---- one change after another
module _ {n l x y m : ℕ} {s r : St} {g : Node (levels l)} (a : Joined n l x y m s r g) where
  still_beyond : (z : ℕ) → Beyond n l s x y z → Beyond n l r x y z
  still_beyond z o = record { inside = o.inside; live = kept_live s r z (a.keep z o).tag o.live; out = a.within z o }

  pub joined_then : {m' : ℕ} {t : St} {g' : Node (levels l)} → m ≤ m' → Joined n l x y m' r t g' → Joined n l x y m' s t g'
  joined_then le b =
      record {
        sound = b.sound;
        at_x = b.at_x;
        at_y = b.at_y;
        grid = b.grid;
        rest = λ j p q. b.rest j p q ∙ a.rest j (omega arith) q;
        keep = λ z o. kept_then (a.keep z o) (b.keep z (still_beyond z o));
        within = λ z o. b.within z (still_beyond z o);
        marks = b.marks ∙ a.marks;
        unspoilt = unspoilt_then a.unspoilt b.unspoilt;
      }

  pub joined_into : {g' : Node (levels l)} → g ≡ g' → Joined n l x y m s r g'
  joined_into e = subst (Joined n l x y m s r) e a

-- a slot that has become t has changed by the rule that makes t of it
pub joined_ruled : {n l x y m : ℕ} {s r : St} (i : ℕ) (t : SlotOf (below l)) → Joined n l x y m s r (changed (span l) i (λ _. t) (tree_at l s x))
    → (f : SlotOf (below l) → SlotOf (below l)) → t ≡ f (tree_at l s x i) → Joined n l x y m s r (changed (span l) i f (tree_at l s x))
joined_ruled {l = l} {x = x} {s = s} i t a f e = joined_into a (changed_like (span l) i (λ _. t) f (tree_at l s x) (tree_round (branching l) (below l) s x) e)

-- ---- a third node of the level is as it was
module _ {n l x y m : ℕ} {s r : St} {g : Node (levels l)} (sd : Sound n s) (hx : At n s l x) (hy : At n s l y) (a : Joined n l x y m s r g) where
  pub joined_others : (z : ℕ) → At n s l z → z ≢ x → z ≢ y → tree_at l s z ≡ tree_at l r z
  joined_others z h nx ny = tree_frame l s r z (λ u i.
      let c : (u < 8 + n) × Live s u = in_there sd l z h u i in
      (a.keep u (record { inside = c.0; live = c.1; out = ⊎_elim (λ j. nx (node_apart sd l z x h hx u i j)) (λ j. ny (node_apart sd l z y h hy u i j)) })).slots)

-- ---- a change of the first alone
pub joined_first : {n l x y : ℕ} {s r : St} {g : Node (levels l)} (m : ℕ) → Sound n s → At n s l x → At n s l y → x ≢ y → Turned n l x s r g → Joined n l x y m s r g
joined_first {n} {l} {x} {y} {s} {r} m sd hx hy ne a =
    record {
      sound = a.sound;
      at_x = a.at;
      at_y = apart_at sd a y hy ap';
      grid = a.grid;
      rest = λ j p q. sym (ap (λ t. t j) (apart_tree sd a y hy ap'));
      keep = λ z o. a.keep z (out z o);
      within = λ z o. ⊎_elim (a.within z (out z o)) (λ i. o.out (inr (apart_in sd a y hy ap' z i)));
      marks = a.marks;
      unspoilt = a.unspoilt;
    }
  where
    ap' : Apart l s y x
    ap' = nodes_apart sd l y x hy hx (λ e. ne (sym e))

    out : (z : ℕ) → Beyond n l s x y z → Outside n l s x z
    out z o = record { inside = o.inside; live = o.live; out = λ i. o.out (inl i) }

-- ---- below a branch of both
module _ {n : ℕ} {s : St} (sd : Sound n s) (l x y k : ℕ) (hx : At n s (suc l) x) (hy : At n s (suc l) y) (ne : x ≢ y) (q : k < span (suc l))
    (ex : s.kid x k ≡ true) (ey : s.kid y k ≡ true) where
  pub below_differ : 8 + s.slot x k ≢ 8 + s.slot y k
  below_differ e = ne (branch_apart sd l x k y k hx hy q q ex ey (8 + s.slot x k) (in_own l s (8 + s.slot x k)) (subst (λ (z : ℕ). In l s z (8 + s.slot x k)) e (in_own l s (8 + s.slot x k)))).0

  module _ {m : ℕ} {r : St} {g : Node (levels l)} (a : Joined n l (8 + s.slot x k) (8 + s.slot y k) m s r g) where
    -- any node of the level, x and y too, keeps its own slots and its branches but those at k
    module _ (u : ℕ) (h : At n s (suc l) u) where
      own : Kept s r u
      own = a.keep u (record {
        inside = at_inside n s (suc l) u h;
        live = at_live n s (suc l) u h;
        out = ⊎_elim (λ i. level_apart sd l u x k h hx q ex u i refl) (λ i. level_apart sd l u y k h hy q ey u i refl);
      })

      aside : (j : ℕ) → j < span (suc l) → j ≢ k → s.kid u j ≡ true → (z : ℕ) → In l s (8 + s.slot u j) z → Same s r z
      aside j p nj e z i =
          let w : Under n s l u j z = under sd l u j h p e z i in
          (a.keep z (record {
            inside = w.inside;
            live = inr (w.cell, w.used);
            out = ⊎_elim (λ i'. nj (branch_apart sd l u j x k h hx p q e ex z i i').1) (λ i'. nj (branch_apart sd l u j y k h hy p q e ey z i i').1);
          })).slots

      tree_is : (t : SlotOf (levels l)) → slot_at (tree_at l r) r u k ≡ t → tree_at (suc l) r u ≡ changed (span (suc l)) k (λ _. t) (tree_at (suc l) s u)
      tree_is = slot_tree l s r u k (λ j _. own.slots j) aside

      none_in : (z : ℕ) → (In (suc l) s u z → ⊥) → (In l r (8 + s.slot u k) z → ⊥) → In (suc l) r u z → ⊥
      none_in z o o' i = ⊎_elim o (λ p. o' (subst (λ (c : ℕ). In l r (8 + c) z) (sym (own.slots k).slot) p.1)) (slot_in l s r u k (λ j _. own.slots j) aside z i)

    deeper : (z : ℕ) → Beyond n (suc l) s x y z → Beyond n l s (8 + s.slot x k) (8 + s.slot y k) z
    deeper z o = record { inside = o.inside; live = o.live; out = ⊎_elim (λ i. o.out (inl (inr (k, q, ex, i)))) (λ i. o.out (inr (inr (k, q, ey, i)))) }

    pub joined_lift : Joined n (suc l) x y (suc k) s r (changed (span (suc l)) k (λ _. branch g) (tree_at (suc l) s x))
    joined_lift =
        record {
          sound = a.sound;
          at_x = kept_at n (suc l) x s r (own x hx).tag hx;
          at_y = kept_at n (suc l) y s r (own y hy).tag hy;
          grid = tree_is x hx (branch g)
              (slot_branch (tree_at l r) r x k (sym ((own x hx).slots k).kid ∙ ex) ∙ ap branch (ap (λ (c : ℕ). tree_at l r (8 + c)) (sym ((own x hx).slots k).slot) ∙ a.grid));
          rest = past_slot (span (suc l)) k (λ _. slot_at (tree_at l r) r y k) (tree_at (suc l) s y) (tree_at (suc l) r y) (tree_is y hy (slot_at (tree_at l r) r y k) refl);
          keep = λ z o. a.keep z (deeper z o);
          within = λ z o. ⊎_elim (none_in x hx z (λ i. o.out (inl i)) (λ i. a.within z (deeper z o) (inl i))) (none_in y hy z (λ i. o.out (inr i)) (λ i. a.within z (deeper z o) (inr i)));
          marks = a.marks;
          unspoilt = a.unspoilt;
        }

-- ---- every slot: where the step at slot k joins slot k of y into that of x by the rule f, the steps at the first m slots join those
module _ {n : ℕ} (l x y : ℕ) (step : ℕ → St → St) (f : SlotOf (below l) → SlotOf (below l) → SlotOf (below l))
    (ok : (k : ℕ) → k < span l → (s : St) → Sound n s → At n s l x → At n s l y
    → Joined n l x y (suc k) s (step k s) (changed (span l) k (λ a. f a (tree_at l s y k)) (tree_at l s x)))
    (s : St) (sd : Sound n s) (hx : At n s l x) (hy : At n s l y) (ne : x ≢ y) where
  abbrev rule : ℕ → SlotOf (below l) → SlotOf (below l)
  rule k a = f a (tree_at l s y k)

  pub joined_upto : (m : ℕ) → m ≤ span l → Joined n l x y m s (each_s step m s) (upto (span l) rule (tree_at l s x) m)
  unfolding each_s
  joined_upto zero hm = joined_into (joined_first 0 sd hx hy ne (stay l x s sd hx)) (upto_none (span l) rule (tree_at l s x))
  joined_upto (suc m) hm =
      let p : Joined n l x y m s (each_s step m s) (upto (span l) rule (tree_at l s x) m) = joined_upto m (omega arith) in
      joined_into (joined_then p (omega arith) (ok m (omega arith) (each_s step m s) p.sound p.at_x p.at_y))
      (ap (λ b. changed (span l) m (λ a. f a b) (tree_at l (each_s step m s) x)) (p.rest m (omega arith) (omega arith))
      ∙ ap (changed (span l) m (rule m)) p.grid ∙ upto_more (span l) rule (tree_at l s x) m)

  pub joined_each : Joined n l x y (span l) s (each_s step (span l) s) (λ j. f (tree_at l s x j) (tree_at l s y j))
  joined_each = joined_into (joined_upto (span l) (omega arith))
      (upto_all (span l) rule (tree_at l s x) (span_pos l) ∙ fun_ext (λ j. ap (f (tree_at l s x j)) (sym (tree_round (branching l) (below l) s y j))))
