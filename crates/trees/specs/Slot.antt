-- One slot of a node: where it leads, whether it is hidden, and its value changed. Assumes nothing.
use Rattle.std.specs.Prelude.{Bool, not, ◌&&◌, List, [], ◌∷◌, ℕ}
use Rattle.nodes.specs.State.{St}
use Rattle.nodes.specs.Change.{at2}
-- slot k of node x leads to a cell of the pool, and to which
pub use Rattle.nodes.specs.Walk.{child_s, child_r}

-- it is neither active nor a branch; where bs, below the node, is empty, it has no branch
unfoldable pub hidden_s : List ℕ → St → ℕ → ℕ → Bool
hidden_s [] s x k = not (s.val x k)
hidden_s (c ∷ bs) s x k = not (s.val x k) && not (s.kid x k)

-- it holds the word w, and is active, hidden or a branch as before
unfoldable pub word_s : ℕ → ℕ → ℕ → St → St
word_s x k w s = record { slot = at2 s.slot x k w; kid = s.kid; val = s.val; count = s.count; stack = s.stack; tag = s.tag; mark = s.mark }
