-- "Copy carries hidden values too": a node as one piece, then a cell of its own for each branch, on any state, sound or not. Assumes nothing.
use Rattle.std.specs.Prelude.{false, cond, ◌&&◌, List, [], ◌∷◌, ℕ, ◌+◌, ltb, eqb}
use Rattle.grid.specs.Node.{size}
use Rattle.nodes.specs.State.{St}
use Rattle.nodes.specs.Change.{next, claim_s}
use Rattle.nodes.specs.Each.{each_s}
use Rattle.nodes.specs.Walk.{ready_s}
use Rattle.trees.specs.Slot.{child_s}

-- f with v in the first m slots of node y
abbrev pub laid : {A : Type 0} → ℕ → ℕ → (ℕ → A) → (ℕ → ℕ → A) → ℕ → ℕ → A
laid m y v f z j = cond (eqb z y && ltb j m) (v j) (f z j)

-- the first m slots of node y become what those of node x are, but none is a branch: where x has one, y hides the link
unfoldable pub lay_s : ℕ → ℕ → ℕ → St → St
lay_s m x y s =
    record {
      slot = laid m y (s.slot x) s.slot;
      kid = laid m y (λ _. false) s.kid;
      val = laid m y (s.val x) s.val;
      count = s.count;
      stack = s.stack;
      tag = s.tag;
      mark = s.mark;
    }

-- where slot k of node x leads to a cell, and a free one can be had, slot k of node y gets that, and `go` copies the one to the other
abbrev pub branch_at : (ℕ → ℕ → St → St) → ℕ → ℕ → ℕ → ℕ → St → St
branch_at go n x y k s = cond (child_s n s x k && ready_s n s) (go (8 + s.slot x k) (8 + next s) (claim_s y k s)) s

-- every branch of node x, to node y; a leaf has none
unfoldable pub branch_m : (b : ℕ) (bs : List ℕ) → ℕ → ℕ → ℕ → St → St
branch_m b [] n x y s = s
branch_m b (c ∷ bs) n x y s = each_s (branch_at (λ x y s. branch_m c bs n x y (lay_s (size c) x y s)) n x y) (size b) s

-- node x to node y
abbrev pub copy_m : (b : ℕ) (bs : List ℕ) → ℕ → ℕ → ℕ → St → St
copy_m b bs n x y s = branch_m b bs n x y (lay_s (size b) x y s)
