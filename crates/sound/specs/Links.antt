-- How many cells the slots of a node link to. Assumes nothing.
use Rattle.std.specs.Prelude.{Bool, cond, ◌&&◌, ℕ}
use Rattle.grid.specs.Node.{sum}
use Rattle.nodes.specs.State.{St, wide}
use Rattle.nodes.specs.Test.{fork_b}

-- so many numbers below n pass p
abbrev pub tally : (ℕ → Bool) → ℕ → ℕ
tally p n = sum n (λ i. cond (p i) 1 0)

-- the links of node x: its branches, where it may have any
unfoldable pub links_of : St → ℕ → ℕ
links_of s x = tally (λ k. fork_b s x && s.kid x k) (wide x)
