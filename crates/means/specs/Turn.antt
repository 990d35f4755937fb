-- What the work on a whole seat makes of one slot, with the branchings bs below it: the meaning's prune, cut and flip. Assumes nothing.
use Rattle.std.specs.Prelude.{List, ℕ}
use Rattle.floats.specs.Test.{passes}
use Rattle.grid.specs.Node.{SlotOf}
use Rattle.grid.specs.Whole.{prune_s, cut_s, flip_s}
use Rattle.trees.specs.declared.turn.Work.{Work}
use Rattle.trees.specs.declared.turn.Work.TheVariants.{Prune, Cut, Flip}

abbrev pub turned_s : Work → (bs : List ℕ) → SlotOf bs → SlotOf bs
turned_s Prune bs s = prune_s bs s
turned_s (Cut t) bs s = cut_s (passes t) bs s
turned_s Flip bs s = flip_s bs s
