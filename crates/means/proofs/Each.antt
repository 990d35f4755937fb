-- A step at every slot of a node: the law of the calls on a whole seat. Assumes nothing.
use mathlib.Core.Path.{◌≡◌, refl, sym, ap, ◌∙◌, fun_ext}
use mathlib.Core.Bool.{cond}
use mathlib.Core.Logic.{◌≢◌}
use Prim.Native.Nat.{ℕ, zero, suc, ◌%◌, ◌<◌, ◌≤◌}
use native.Mathlib.Nat.{mod-lt, mod-eq_of_lt}
use native.Mathlib.Omega.{arith}
use lib.Dec.{ltb}
use borrow.Author.Tests.{lt-ltb, le-ltb, ltb-true, ltb-false}
use Rattle.floats.proofs.Words.{on_case}
use Rattle.grid.specs.Node.{SlotOf, changed}
use Rattle.grid.proofs.Places.{changed_is}
use Rattle.nodes.specs.State.{St, Sound}
use Rattle.nodes.specs.Walk.{below}
use Rattle.nodes.specs.Each.{each_s}
use Rattle.means.specs.Level.{span, tree_at, At, Turned}
use Rattle.means.proofs.Levels.{span_pos}
use Rattle.means.proofs.Turned.{stay, then, into}

-- ---- the first m of w slots changed, each by the rule of its own number
module _ {A : Type 0} (w : ℕ) (f : ℕ → A → A) (t : ℕ → A) where
  abbrev pub upto : ℕ → ℕ → A
  upto m j = cond (ltb (j % w) m) (f (j % w) (t j)) (t j)

  pub upto_none : t ≡ upto 0
  upto_none = fun_ext (λ j. sym (rw (le-ltb (j % w) 0 (omega arith)) refl))

  pub upto_more : (m : ℕ) → changed w m (f m) (upto m) ≡ upto (suc m)
  upto_more m = sym (changed_is w m (f m) (upto m) (upto (suc m))
      (λ j e. rw (lt-ltb (j % w) (suc m) (omega arith), le-ltb (j % w) m (omega arith)) (ap (λ (i : ℕ). f i (t j)) e))
      (λ j ne. on_case (ltb (j % w) m)
      (λ h. rw (h, lt-ltb (j % w) (suc m) (omega (arith, ltb-true (j % w) m h))) refl)
      (λ h. rw (h, le-ltb (j % w) (suc m) (past j ne (ltb-false (j % w) m h))) refl)))
    where
      past : (j : ℕ) → j % w ≢ m → m ≤ j % w → suc m ≤ j % w
      past j ne h = omega arith

  -- a slot from m on is as it was
  pub upto_left : (m j : ℕ) → m ≤ j → j < w → upto m j ≡ t j
  upto_left m j l h = rw (mod-eq_of_lt h, le-ltb j m l) refl

  pub upto_all : 0 < w → upto w ≡ (λ j. f (j % w) (t j))
  upto_all h = fun_ext (λ j. rw (lt-ltb (j % w) w (mod-lt j h)) refl)

-- ---- the law: where the step at slot k changes it by its rule, and carries P on, the steps at all slots change every slot by its rule
module _ {n : ℕ} (l x : ℕ) (step : ℕ → St → St) (f : ℕ → SlotOf (below l) → SlotOf (below l)) (P : ℕ → St → Type 0)
    (ok : (k : ℕ) → k < span l → (s : St) → Sound n s → At n s l x → P k s → Turned n l x s (step k s) (changed (span l) k (f k) (tree_at l s x)) × P (suc k) (step k s))
    (s : St) (sd : Sound n s) (h : At n s l x) (start : P 0 s) where
  run : (m : ℕ) → m ≤ span l → Turned n l x s (each_s step m s) (upto (span l) f (tree_at l s x) m) × P m (each_s step m s)
  unfolding each_s
  run zero hm = (into (stay l x s sd h) (upto_none (span l) f (tree_at l s x)), start)
  run (suc m) hm =
      let p : Turned n l x s (each_s step m s) (upto (span l) f (tree_at l s x) m) × P m (each_s step m s) = run m (omega arith) in
      let q : Turned n l x (each_s step m s) (step m (each_s step m s)) (changed (span l) m (f m) (tree_at l (each_s step m s) x)) × P (suc m) (step m (each_s step m s)) =
      ok m (omega arith) (each_s step m s) p.0.sound p.0.at p.1 in
      (into (then p.0 q.0) (ap (changed (span l) m (f m)) p.0.grid ∙ upto_more (span l) f (tree_at l s x) m), q.1)

  pub each_with : Turned n l x s (each_s step (span l) s) (λ j. f (j % span l) (tree_at l s x j)) × P (span l) (each_s step (span l) s)
  each_with = let p = run (span l) (omega arith) in (into p.0 (upto_all (span l) f (tree_at l s x) (span_pos l)), p.1)

-- one rule for every slot, and nothing but a sound pool to carry on
module _ {n : ℕ} (l x : ℕ) (step : ℕ → St → St) (f : SlotOf (below l) → SlotOf (below l))
    (ok : (k : ℕ) → k < span l → (s : St) → Sound n s → At n s l x → Turned n l x s (step k s) (changed (span l) k f (tree_at l s x))) where
  pub each : (s : St) → Sound n s → At n s l x → Turned n l x s (each_s step (span l) s) (λ j. f (tree_at l s x j))
  each s sd h = (each_with l x step (λ _. f) (λ _ _. Unit {0}) (λ k q s sd h _. (ok k q s sd h, tt)) s sd h tt).0
