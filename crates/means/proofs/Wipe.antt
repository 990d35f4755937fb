-- Wiping a node of a sound pool: all its branches are released and all its slots hold one word, and nothing else changes. Assumes nothing.
use mathlib.Core.Path.{◌≡◌, refl, sym, subst}
use mathlib.Core.Bool.{Bool, true, false, cond}
use mathlib.Core.List.{[], ◌∷◌}
use Prim.Native.Nat.{ℕ, zero, suc, ◌+◌, ◌<◌}
use native.Mathlib.Omega.{arith}
use borrow.Author.Tests.{lt-ltb}
use Rattle.floats.specs.Value.{is_finite, far}
use Rattle.floats.proofs.Words.{on_case}
use Rattle.floats.proofs.Finite.{finite_far}
use Rattle.grid.specs.Node.{Node, tile, hidden, is_hidden, changed, every}
use Rattle.grid.specs.Whole.{fill, clear}
use Rattle.grid.proofs.Places.{every_all}
use Rattle.nodes.specs.State.{St, Link, Sound}
use Rattle.nodes.specs.Change.{release_s}
use Rattle.nodes.specs.Steps.{slot_s}
use Rattle.nodes.specs.Walk.{branching, below}
use Rattle.nodes.specs.Wipe.{shed_m, wipe_at, wipe_m, emptied_m, empty_m}
use Rattle.means.specs.Level.{levels, span, tree_at, filled, At, Turned}
use Rattle.means.proofs.Levels.{leaf_ends, at_link, at_down}
use Rattle.means.proofs.Turned.{stay, over}
use Rattle.means.proofs.Put.{at2_here, set_turned}
use Rattle.means.proofs.Each.{each}
use Rattle.means.proofs.Drop.{drop_is, drop_turned}

-- a node hidden throughout is bare
pub hidden_bare : (l u : ℕ) → every is_hidden (span l) (filled l u false) ≡ true
unfolding is_hidden
hidden_bare l u = every_all is_hidden (span l) (filled l u false) (λ _. refl)

-- ---- the whole node
module _ (n : ℕ) where
  abbrev Wiped : ℕ → Type 0
  Wiped l = (s : St) (x w : ℕ) (a : Bool) → Sound n s → At n s l x → is_finite w ≡ true → Turned n l x s (wipe_m (branching l) (below l) n w a x s) (filled l w a)

  leaf : Wiped zero
  unfolding wipe_m
  leaf s x w a sd h fw = each zero x (λ k. slot_s x k w false a) (λ _. cond a (tile w) (hidden w))
      (λ k q r rs at. set_turned rs zero x k w false a at (λ f. absurd (leaf_ends n r x at f)) fw) s sd h

  -- a cell that is to be released has become some node, which is bare unless it is a leaf
  record Emptied (l : ℕ) (s : St) (x : ℕ) : Type 0 where
    grid : Node (levels l)
    turned : Turned n l x s (empty_m n l x s) grid
    bare : 0 < l → every is_hidden (span l) grid ≡ true

  module _ (l : ℕ) (empties : (s : St) (x : ℕ) → Sound n s → At n s l x → Emptied l s x) (x w : ℕ) (a : Bool) (fw : is_finite w ≡ true) where
    abbrev go : ℕ → St → St
    go = empty_m n l

    -- one slot
    at_slot : (k : ℕ) → k < span (suc l) → (s : St) → Sound n s → At n s (suc l) x
        → Turned n (suc l) x s (wipe_at go n w a x k s) (changed (span (suc l)) k (λ _. cond a (tile w) (hidden w)) (tree_at (suc l) s x))
    unfolding shed_m release_s
    at_slot k q s sd h = on_case (s.kid x k) yes' no'
      where
        Goal : St → Type 0
        Goal r = Turned n (suc l) x s (slot_s x k w false a r) (changed (span (suc l)) k (λ _. cond a (tile w) (hidden w)) (tree_at (suc l) s x))

        no' : s.kid x k ≡ false → Goal (shed_m go n x k s)
        no' e = subst Goal (sym (rw e refl)) (set_turned sd (suc l) x k w false a h (λ _. (e, refl)) fw)

        yes' : s.kid x k ≡ true → Goal (shed_m go n x k s)
        yes' e =
            let d : Link n s x k = at_link sd l x k h q e in
            let r : St = go (8 + s.slot x k) s in
            let m : Emptied l s (8 + s.slot x k) = empties s (8 + s.slot x k) sd (at_down sd l x k h q e) in
            let p : Turned n (suc l) x s (release_s x k r) (changed (span (suc l)) k (λ _. hidden far) (tree_at (suc l) s x)) = drop_turned sd l x k h q e m.turned m.bare in
            subst Goal (sym (rw (e, lt-ltb (s.slot x k) n d.inside) (drop_is sd l x k h q e m.turned m.bare)))
            (over k _ p (cond a (tile w) (hidden w)) (set_turned p.sound (suc l) x k w false a p.at (λ _. (at2_here r.kid x k false, refl)) fw))

    up : (s : St) → Sound n s → At n s (suc l) x → Turned n (suc l) x s (wipe_m (branching (suc l)) (below (suc l)) n w a x s) (filled (suc l) w a)
    unfolding wipe_m
    up s sd h = each (suc l) x (wipe_at go n w a x) (λ _. cond a (tile w) (hidden w)) at_slot s sd h

  emptied : (l : ℕ) (s : St) (x : ℕ) → Sound n s → At n s l x → Emptied l s x
  unfolding emptied_m wipe_m
  emptied zero s x sd h = record { grid = tree_at zero s x; turned = stay zero x s sd h; bare = λ z. absurd (omega (arith, z)) }
  emptied (suc l) s x sd h = record { grid = filled (suc l) far false; turned = up l (emptied l) x far false finite_far s sd h; bare = λ _. hidden_bare (suc l) far }

  wiped : (l : ℕ) → Wiped l
  wiped zero = leaf
  wiped (suc l) = λ s x w a sd h fw. up l (emptied l) x w a fw s sd h

pub wipe_right : {n : ℕ} {s : St} (l x w : ℕ) (a : Bool) → Sound n s → At n s l x → is_finite w ≡ true → Turned n l x s (wipe_m (branching l) (below l) n w a x s) (filled l w a)
wipe_right {n} {s} l x w a = wiped n l s x w a

-- and one slot of a node above the leaves
pub wipe_slot : {n : ℕ} {s : St} (l x k w : ℕ) (a : Bool) → Sound n s → At n s (suc l) x → k < span (suc l) → is_finite w ≡ true
    → Turned n (suc l) x s (wipe_at (empty_m n l) n w a x k s) (changed (span (suc l)) k (λ _. cond a (tile w) (hidden w)) (tree_at (suc l) s x))
wipe_slot {n} {s} l x k w a sd h q fw = at_slot n l (emptied n l) x w a fw k q s sd h

-- a seat filled with a value, and a seat cleared
module _ {n : ℕ} {s : St} (sd : Sound n s) (t : ℕ) (h : t < 8) where
  pub wipe_fill : (w : ℕ) → is_finite w ≡ true → Turned n 2 t s (wipe_m 3 (2 ∷ 2 ∷ []) n w true t s) (fill 3 (2 ∷ 2 ∷ []) w)
  unfolding fill
  wipe_fill w fw = wipe_right 2 t w true sd (h, refl) fw

  pub wipe_clear : Turned n 2 t s (wipe_m 3 (2 ∷ 2 ∷ []) n far false t s) (clear 3 (2 ∷ 2 ∷ []))
  unfolding clear
  wipe_clear = wipe_right 2 t far false sd (h, refl) finite_far
