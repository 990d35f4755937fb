-- Prune, cut and flip, slot by slot and child first, on any state, sound or not. Assumes nothing.
use Rattle.std.specs.Prelude.{Bool, cond, ◌&&◌, List, [], ◌∷◌, ℕ, ◌+◌}
use Rattle.floats.specs.Value.{is_finite, negated}
use Rattle.floats.specs.Test.{passes}
use Rattle.floats.specs.declared.Test.{Test}
use Rattle.grid.specs.Node.{size}
use Rattle.nodes.specs.State.{St}
use Rattle.nodes.specs.Change.{hide_s}
use Rattle.nodes.specs.Each.{each_s}
use Rattle.nodes.specs.Remove.{shut_m}
use Rattle.trees.specs.Slot.{child_s, word_s}
use Rattle.trees.specs.declared.turn.Work.{Work}
use Rattle.trees.specs.declared.turn.Work.TheVariants.{Prune, Cut, Flip}

-- a word that is finite and passes
abbrev pub cuts : Test → ℕ → Bool
cuts t w = is_finite w && passes t w

-- slot k of node x, which is no branch, is hidden if it is active and passes
unfoldable pub hide_if_s : Test → ℕ → ℕ → St → St
hide_if_s t x k s = cond (s.val x k && cuts t (s.slot x k)) (hide_s x k s) s

-- at slot k of node x, which is no branch: "Active slots that pass are hidden"; "Flip negates every value, hidden ones too"
unfoldable pub flat_s : Work → ℕ → ℕ → St → St
flat_s Prune x k s = s
flat_s (Cut t) x k s = hide_if_s t x k s
flat_s Flip x k s = word_s x k (negated (s.slot x k)) s

-- on the way back, at slot k of node x with bs below its cell: "empty branches released", by prune and by cut
unfoldable pub back_s : Work → List ℕ → ℕ → ℕ → ℕ → St → St
back_s Prune bs n x k s = shut_m bs n x k s
back_s (Cut t) bs n x k s = shut_m bs n x k s
back_s Flip bs n x k s = s

-- at slot k of node x above the leaves, where `go` does the cell below it
unfoldable pub turn_at : Work → List ℕ → (ℕ → St → St) → ℕ → ℕ → ℕ → St → St
turn_at w bs go n x k s = cond (child_s n s x k) (back_s w bs n x k (go (8 + s.slot x k) s)) (flat_s w x k s)

-- every slot of node x
unfoldable pub turn_m : (b : ℕ) (bs : List ℕ) → Work → ℕ → ℕ → St → St
turn_m b [] w n x s = each_s (flat_s w x) (size b) s
turn_m b (c ∷ bs) w n x s = each_s (turn_at w bs (turn_m c bs w n) n x) (size b) s
