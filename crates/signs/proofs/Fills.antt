-- The sign fill of a node, as the code makes it: each cell below it, then its rows. Assumes nothing.
use Rattle.std.specs.Prelude.{Option, Some, None}
use mathlib.Core.Path.{◌≡◌, refl, sym, ap, ◌∙◌}
use Prim.Native.Nat.{ℕ, zero, suc, ◌+◌, ◌-◌}
use Rattle.grid.specs.Node.{size}
use Rattle.nodes.specs.State.{St}
use Rattle.nodes.specs.Walk.{branching, below}
use Rattle.nodes.specs.Each.{each_s}
use Rattle.nodes.proofs.Each.{each_more}
use Rattle.nodes.proofs.Paths.{one_less}
use Rattle.trees.specs.Slot.{child_r}
use Rattle.signs.specs.Signs.{rows_m, down_s, fill_signs_m}
use Rattle.signs.proofs.SignAt.{by_stop, by_go}

-- the cell below slot k of node x of level l is filled
abbrev pub under : ℕ → ℕ → ℕ → ℕ → St → St
under n l x k s = down_s (fill_signs_m (branching (l - 1)) (below (l - 1)) n) n x k s

module _ (n l x : ℕ) (s : St) where
  -- one slot more
  module _ (k : ℕ) {t : St} {r : Option ℕ} (p : t ≡ each_s (under n l x) k s) where
    pub fill_stop : r ≡ None → r ≡ child_r n t x k → t ≡ each_s (under n l x) (k + 1) s
    fill_stop d e = each_more (under n l x) s k p (by_stop n t x k (λ c. fill_signs_m (branching (l - 1)) (below (l - 1)) n (8 + c) t) t d e refl)

    pub fill_go : {c : ℕ} {t' : St} → r ≡ Some c → r ≡ child_r n t x k → t' ≡ fill_signs_m (branching (l - 1)) (below (l - 1)) n (8 + c) t → t' ≡ each_s (under n l x) (k + 1) s
    fill_go d e q = each_more (under n l x) s k p (by_go n t x k (λ c. fill_signs_m (branching (l - 1)) (below (l - 1)) n (8 + c) t) t d e q)

  pub fill_leaf : {t : St} → l ≡ 0 → t ≡ rows_m (branching 0) (below 0) n x s → t ≡ fill_signs_m (branching l) (below l) n x s
  unfolding fill_signs_m
  fill_leaf z p = p ∙ ap (λ (i : ℕ). fill_signs_m (branching i) (below i) n x s) (sym z)

  pub fill_all : (k : ℕ) {t t' : St} → (l ≡ 0 → ⊥) → k ≡ size (branching l) → t ≡ each_s (under n l x) k s → t' ≡ rows_m (branching l) (below l) n x t → t' ≡ fill_signs_m (branching l) (below l) n x s
  unfolding fill_signs_m
  fill_all k h e p q = q ∙ ap (rows_m (branching l) (below l) n x) (p ∙ ap (λ (m : ℕ). each_s (under n l x) m s) e) ∙ up l h
    where
      up : (l : ℕ) → (l ≡ 0 → ⊥) → rows_m (branching l) (below l) n x (each_s (under n l x) (size (branching l)) s) ≡ fill_signs_m (branching l) (below l) n x s
      up zero h = absurd (h refl)
      up (suc l) h = ap (λ (m : ℕ). rows_m (branching (suc l)) (below (suc l)) n x (each_s (down_s (fill_signs_m (branching m) (below m) n) n x) (size (branching (suc l))) s)) (one_less l)
