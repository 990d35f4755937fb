-- What is read of all that hangs below a node, on any state, sound or not. Assumes nothing.
use Rattle.std.specs.Prelude.{Bool, false, not, cond, ◌||◌, List, [], ◌∷◌, ℕ, suc, ◌+◌}
use Rattle.bitset.specs.Set.{every}
use Rattle.grid.specs.Node.{size, sum}
use Rattle.nodes.specs.State.{St}
use Rattle.trees.specs.Slot.{child_s}
use Rattle.nodes.specs.Remove.{bare_s}

-- refusal 7: "a branch has both masks empty": the one below slot k of node x, or one below that, as `go` tells
abbrev pub hollow_at : (ℕ → Bool) → List ℕ → ℕ → St → ℕ → ℕ → Bool
hollow_at go bs n s x k = cond (child_s n s x k) (bare_s bs s (8 + s.slot x k) || go (8 + s.slot x k)) false

unfoldable pub hollow_m : (b : ℕ) (bs : List ℕ) → ℕ → St → ℕ → Bool
hollow_m b [] n s x = false
hollow_m b (c ∷ bs) n s x = not (every (λ k. not (hollow_at (hollow_m c bs n s) bs n s x k)) (size b))

-- the cells below slot k of node x, where `go` counts those below its cell
abbrev pub reached_at : (ℕ → ℕ) → ℕ → St → ℕ → ℕ → ℕ
reached_at go n s x k = cond (child_s n s x k) (suc (go (8 + s.slot x k))) 0

unfoldable pub reached_m : (b : ℕ) (bs : List ℕ) → ℕ → St → ℕ → ℕ
reached_m b [] n s x = 0
reached_m b (c ∷ bs) n s x = sum (size b) (reached_at (reached_m c bs n s) n s x)
