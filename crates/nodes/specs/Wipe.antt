-- "releases all branches", and every slot is given one word: on any state, sound or not. Assumes nothing.
use Rattle.std.specs.Prelude.{Bool, false, cond, ◌&&◌, List, [], ◌∷◌, ℕ, ◌+◌, ltb}
use Rattle.floats.specs.Value.{far}
use Rattle.grid.specs.Node.{size}
use Rattle.nodes.specs.State.{St}
use Rattle.nodes.specs.Change.{release_s}
use Rattle.nodes.specs.Steps.{slot_s, give_s, room_s}
use Rattle.nodes.specs.Walk.{branching, below}
use Rattle.nodes.specs.Each.{each_s}

-- the cell below slot k of node x is released; where the link leaves the pool, or there is no room in the stack, nothing is done
abbrev pub drop_m : ℕ → ℕ → ℕ → St → St
drop_m n x k s = cond (room_s n x k s) (release_s x k s) s

-- what hangs below slot k of node x: a cell of the pool is first emptied by `go`, then released
unfoldable pub shed_m : (ℕ → St → St) → ℕ → ℕ → ℕ → St → St
shed_m go n x k s = cond (s.kid x k) (cond (ltb (s.slot x k) n) (drop_m n x k (go (8 + s.slot x k) s)) s) s

-- one slot of a node above the leaves: nothing hangs below it any more, and it holds w, active or hidden as a says
abbrev pub wipe_at : (ℕ → St → St) → ℕ → ℕ → Bool → ℕ → ℕ → St → St
wipe_at go n w a x k s = slot_s x k w false a (shed_m go n x k s)

-- a cell that is to be released, with bs below it: all that hangs below it is released first. What a free cell holds is never read, so a leaf is left as it is
unfoldable pub emptied_m : (b : ℕ) (bs : List ℕ) → ℕ → ℕ → St → St
emptied_m b [] n x s = s
emptied_m b (c ∷ bs) n x s = each_s (wipe_at (emptied_m c bs n) n far false x) (size b) s

-- the same of a cell of a level
abbrev pub empty_m : ℕ → ℕ → ℕ → St → St
empty_m n l = emptied_m (branching l) (below l) n

-- every slot of node x
unfoldable pub wipe_m : (b : ℕ) (bs : List ℕ) → ℕ → ℕ → Bool → ℕ → St → St
wipe_m b [] n w a x s = each_s (λ k. slot_s x k w false a) (size b) s
wipe_m b (c ∷ bs) n w a x s = each_s (wipe_at (emptied_m c bs n) n w a x) (size b) s

-- ---- a node of level 1 as one piece: the cells that its slots link to are given back, and then all its slots are written

-- cell c is given back, if it is one of the pool's and the stack is not full
abbrev pub return_s : ℕ → ℕ → St → St
return_s n c s = cond (ltb c n && ltb s.count n) (give_s c s) s

-- the cell that slot k of node x links to; the slot is left as it is
abbrev pub unlink_s : ℕ → ℕ → ℕ → St → St
unlink_s n x k s = cond (s.kid x k) (return_s n (s.slot x k) s) s
