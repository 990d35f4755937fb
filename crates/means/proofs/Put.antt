-- A slot that is no branch: a value put in it, hidden, or its word changed. Assumes nothing.
use mathlib.Core.Path.{◌≡◌, refl, sym, ap, ap₂, ◌∙◌, subst, fun_ext}
use mathlib.Core.Bool.{Bool, true, false, cond, ◌&&◌, false≢true}
use mathlib.Core.Logic.{◌≢◌, ◌⊎◌, inl, inr, ⊎_elim}
use Prim.Native.Nat.{ℕ, zero, suc, ◌+◌, ◌%◌, ◌<◌}
use native.Mathlib.Decide.{ℕ_discrete}
use lib.Dec.{eqb}
use borrow.Author.Tests.{eq-eqb, ne_eqb, lt-ltb}
use Rattle.floats.specs.Value.{is_finite}
use Rattle.grid.specs.Node.{Slot, tile, hidden, changed}
use Rattle.grid.proofs.Places.{changed_is}
use Rattle.nodes.specs.State.{St, wide, Live, Fork, Free, Held, Link, Sound, flat, tree}
use Rattle.nodes.specs.Change.{at1, at2, in_cell, put_s, hide_s}
use Rattle.nodes.specs.Steps.{slot_s}
use Rattle.trees.specs.Slot.{word_s}
use Rattle.means.specs.Level.{span, tree_at, At, In, Equal, Same, Turned}
use Rattle.means.proofs.Levels.{at_fork, kept_at, kept_held}
use Rattle.means.proofs.Slots.{flat_same, slot_flat}
use Rattle.means.proofs.Frame.{in_own, slot_tree, slot_in, own_apart}
use Rattle.means.proofs.Unspoilt.{unspoilt_slot}

-- ---- what the changes of functions leave
pub at1_here : {A : Type 0} (f : ℕ → A) (i : ℕ) (a : A) → at1 f i a i ≡ a
at1_here f i a = rw (eq-eqb i i refl) refl

pub at1_else : {A : Type 0} (f : ℕ → A) (i : ℕ) (a : A) (j : ℕ) → j ≢ i → at1 f i a j ≡ f j
at1_else f i a j h = rw (ne_eqb j i h) refl

pub at2_here : {A : Type 0} (f : ℕ → ℕ → A) (x k : ℕ) (a : A) → at2 f x k a x k ≡ a
at2_here f x k a = rw (eq-eqb x x refl, eq-eqb k k refl) refl

pub at2_else : {A : Type 0} (f : ℕ → ℕ → A) (x k : ℕ) (a : A) (y j : ℕ) → y ≢ x → at2 f x k a y j ≡ f y j
at2_else f x k a y j h = rw (ne_eqb y x h) refl

pub at2_next : {A : Type 0} (f : ℕ → ℕ → A) (x k : ℕ) (a : A) (y j : ℕ) → j ≢ k → at2 f x k a y j ≡ f y j
at2_next f x k a y j h = rw (ne_eqb j k h) (go (eqb y x))
  where
    go : (b : Bool) → cond (b && false) a (f y j) ≡ f y j
    go true = refl
    go false = refl

pub at2_self : {A : Type 0} (f : ℕ → ℕ → A) (x k : ℕ) → at2 f x k (f x k) ≡ f
at2_self f x k = fun_ext (λ y. fun_ext (λ j. go y j (ℕ_discrete y x) (ℕ_discrete j k)))
  where
    go : (y j : ℕ) → Dec (y ≡ x) → Dec (j ≡ k) → at2 f x k (f x k) y j ≡ f y j
    go y j (no ne) d = at2_else f x k (f x k) y j ne
    go y j (yes e) (no ne) = at2_next f x k (f x k) y j ne
    go y j (yes e) (yes d) = rw (e, d) (at2_here f x k (f x k))

pub in_cell_lem : {A : Type 0} (f : ℕ → ℕ → A) (c : ℕ) (a : A) (j : ℕ) → j < 64 → in_cell f c a (8 + c) j ≡ a
in_cell_lem f c a j h = rw (eq-eqb (8 + c) (8 + c) refl, lt-ltb j 64 h) refl

pub in_else : {A : Type 0} (f : ℕ → ℕ → A) (c : ℕ) (a : A) (y j : ℕ) → y ≢ 8 + c → in_cell f c a y j ≡ f y j
in_else f c a y j h = rw (ne_eqb y (8 + c) h) refl

-- ---- the value: slot k of node x, of any level, holds w, active or hidden as a says. Its child bit is said only where the node may have branches: it is off
module _ {n : ℕ} {s : St} (sd : Sound n s) (l x k w : ℕ) (b a : Bool) (h : At n s l x) (off : Fork s x → (s.kid x k ≡ false) × (b ≡ false)) (fw : is_finite w ≡ true) where
  abbrev r : St
  r = slot_s x k w b a s

  here : (r.slot x k ≡ w) × (r.kid x k ≡ b) × (r.val x k ≡ a)
  unfolding slot_s
  here = (at2_here s.slot x k w, at2_here s.kid x k b, at2_here s.val x k a)

  else_same : (y j : ℕ) → y ≢ x → Equal s r y j
  unfolding slot_s
  else_same y j ne = record { slot = sym (at2_else s.slot x k w y j ne); kid = sym (at2_else s.kid x k b y j ne); val = sym (at2_else s.val x k a y j ne) }

  next_same : (y j : ℕ) → j ≢ k → Equal s r y j
  unfolding slot_s
  next_same y j ne = record { slot = sym (at2_next s.slot x k w y j ne); kid = sym (at2_next s.kid x k b y j ne); val = sym (at2_next s.val x k a y j ne) }

  data Place (y j : ℕ) : Type 0 where
    slot : y ≡ x → j ≡ k → Place y j
    apart : Equal s r y j → Place y j

  place : (y j : ℕ) → Place y j
  place y j = go (ℕ_discrete y x) (ℕ_discrete j k)
    where
      go : Dec (y ≡ x) → Dec (j ≡ k) → Place y j
      go (yes p) (yes q) = slot p q
      go (yes p) (no q) = apart (next_same y j q)
      go (no p) q = apart (else_same y j p)

  -- the slot is no branch, before and after
  was : (y j : ℕ) → y ≡ x → j ≡ k → Fork s y → s.kid y j ≡ false
  was y j p q f = ap₂ s.kid p q ∙ (off (subst (Fork s) p f)).0

  is : (y j : ℕ) → y ≡ x → j ≡ k → Fork s y → r.kid y j ≡ false
  is y j p q f = ap₂ r.kid p q ∙ here.1 ∙ (off (subst (Fork s) p f)).1

  held : (c : ℕ) (d : Held n s c) → Place d.x d.k → Held n r c
  unfolding slot_s
  held c d (slot p q) = absurd (false≢true (sym (was d.x d.k p q d.fork) ∙ d.on))
  held c d (apart e) = kept_held d refl (λ f. f) e

  cell : (c : ℕ) → Free s c ⊎ Held n s c → Free r c ⊎ Held n r c
  unfolding slot_s
  cell c (inl f) = inl (record { below = f.below; there = f.there })
  cell c (inr d) = inr (held c d (place d.x d.k))

  link : (y j : ℕ) → y < 8 + n → j < wide y → Fork s y → r.kid y j ≡ true → Place y j → Link n r y j
  unfolding slot_s
  link y j hy hj f e (slot p q) = absurd (false≢true (sym (is y j p q f) ∙ e))
  link y j hy hj f e (apart q) =
      let l : Link n s y j = sd.link y j hy hj f (q.kid ∙ e) in
      record { inside = subst (λ (i : ℕ). i < n) q.slot l.inside; tagged = ap s.tag (sym q.slot) ∙ l.tagged; single = sym q.val ∙ l.single }

  value : (y j : ℕ) → y < 8 + n → j < wide y → Live s y → (Fork s y → r.kid y j ≡ false) → Place y j → is_finite (r.slot y j) ≡ true
  value y j hy hj lv nk (slot p q) = ap is_finite (ap₂ r.slot p q ∙ here.0) ∙ fw
  value y j hy hj lv nk (apart q) = ap is_finite (sym q.slot) ∙ sd.value y j hy hj lv (λ f. q.kid ∙ nk f)

  set_sound : Sound n r
  unfolding slot_s
  set_sound =
      record {
        room = sd.room;
        few = sd.few;
        stacked = λ i q. record { inside = (sd.stacked i q).inside; tagged = (sd.stacked i q).tagged };
        cell = λ c q. cell c (sd.cell c q);
        link = λ y j hy hj f e. link y j hy hj f e (place y j);
        value = λ y j hy hj lv nk. value y j hy hj lv nk (place y j);
        marks = sd.marks;
      }

  flat_here : {C : Type 0} → ◌≡◌ {A = Slot C} (flat r x k) (cond a (tile w) (hidden w))
  flat_here {C} = λ i. cond {A = Slot C} (here.2 i) (tile (here.0 i)) (hidden (here.0 i))

  -- the branches are as they were
  aside : (m : ℕ) → At n s (suc m) x → (j : ℕ) → j < span (suc m) → s.kid x j ≡ true → (y : ℕ) → In m s (8 + s.slot x j) y → Same s r y
  aside m at j q t y i j' = else_same y j' (own_apart sd m x j at q t y i)

  -- the node's own slots, by level
  set_tree : (m : ℕ) → At n s m x → tree_at m r x ≡ changed (span m) k (λ _. cond a (tile w) (hidden w)) (tree_at m s x)
  unfolding tree
  set_tree zero at = changed_is (span zero) k (λ _. cond a (tile w) (hidden w)) (tree_at zero s x) (tree_at zero r x)
      (λ j e. ap (flat r x) e ∙ flat_here)
      (λ j ne. sym (flat_same (next_same x (j % span zero) ne)))
  set_tree (suc m) at = slot_tree m s r x k (next_same x) (λ j q _. aside m at j q) (cond a (tile w) (hidden w))
      (slot_flat (tree_at m r) r x k (is x k refl refl (at_fork n s m x at)) ∙ flat_here)

  set_in : (m : ℕ) → At n s m x → (y : ℕ) → In m r x y → In m s x y
  set_in zero at y i = i
  set_in (suc m) at y i = ⊎_elim (λ i'. i') (λ p. absurd (false≢true (sym (is x k refl refl (at_fork n s m x at)) ∙ p.0))) (slot_in m s r x k (next_same x) (λ j q _. aside m at j q) y i)

  pub set_turned : Turned n l x s r (changed (span l) k (λ _. cond a (tile w) (hidden w)) (tree_at l s x))
  unfolding slot_s
  set_turned =
      record {
        sound = set_sound;
        at = kept_at n l x s r (λ _. refl) h;
        grid = set_tree l h;
        keep = λ y o. record { slots = λ j. else_same y j (λ e. o.out (subst (In l s x) (sym e) (in_own l s x))); tag = λ q. refl };
        within = λ y o i. o.out (set_in l h y i);
        marks = refl;
        unspoilt = unspoilt_slot x k s w b a fw;
      }

-- ---- the same by the changes that name no child bit
module _ {n : ℕ} {s : St} (sd : Sound n s) (l x k : ℕ) (h : At n s l x) (off : Fork s x → s.kid x k ≡ false) where
  -- a word put
  pub put_turned : (w : ℕ) (a : Bool) → is_finite w ≡ true → Turned n l x s (put_s x k w a s) (changed (span l) k (λ _. cond a (tile w) (hidden w)) (tree_at l s x))
  unfolding put_s slot_s
  put_turned w a fw =
      subst (λ (m : ℕ → ℕ → Bool). Turned n l x s (record { slot = at2 s.slot x k w; kid = m; val = at2 s.val x k a; count = s.count; stack = s.stack; tag = s.tag; mark = s.mark })
      (changed (span l) k (λ _. cond a (tile w) (hidden w)) (tree_at l s x)))
      (at2_self s.kid x k) (set_turned sd l x k w (s.kid x k) a h (λ f. (off f, off f)) fw)

  -- the slot hidden, its word kept
  pub hide_turned : is_finite (s.slot x k) ≡ true → Turned n l x s (hide_s x k s) (changed (span l) k (λ _. hidden (s.slot x k)) (tree_at l s x))
  unfolding put_s hide_s
  hide_turned fw =
      subst (λ (m : ℕ → ℕ → ℕ). Turned n l x s (record { slot = m; kid = s.kid; val = at2 s.val x k false; count = s.count; stack = s.stack; tag = s.tag; mark = s.mark })
      (changed (span l) k (λ _. hidden (s.slot x k)) (tree_at l s x)))
      (at2_self s.slot x k) (put_turned (s.slot x k) false fw)

  -- its word changed, active or hidden as before
  pub word_turned : (w : ℕ) → is_finite w ≡ true → Turned n l x s (word_s x k w s) (changed (span l) k (λ _. cond (s.val x k) (tile w) (hidden w)) (tree_at l s x))
  unfolding put_s word_s
  word_turned w fw =
      subst (λ (m : ℕ → ℕ → Bool). Turned n l x s (record { slot = at2 s.slot x k w; kid = s.kid; val = m; count = s.count; stack = s.stack; tag = s.tag; mark = s.mark })
      (changed (span l) k (λ _. cond (s.val x k) (tile w) (hidden w)) (tree_at l s x)))
      (at2_self s.val x k) (put_turned w (s.val x k) fw)
