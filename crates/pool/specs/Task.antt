-- What is done to a whole seat, as the code has it: the call of document 01, what becomes of the pool, and the filled mark after it. Assumes nothing.
use Rattle.std.specs.Prelude.{true, false, [], ◌∷◌, ℕ}
use Rattle.floats.specs.Value.{far}
use Rattle.seats.specs.Call.{Act, Fill, Cut, Clear, Prune, Flip, FillSigns}
use Rattle.nodes.specs.State.{St}
use Rattle.nodes.specs.Change.{mark_s}
use Rattle.nodes.specs.Wipe.{wipe_m}
use Rattle.signs.specs.Signs.{fill_signs_m}
use Rattle.trees.specs.Turn.{turn_m}
use Rattle.trees.specs.declared.turn.Work.{Work}
use Rattle.trees.specs.declared.turn.Work.TheVariants as work
use Rattle.pool.specs.declared.seat.Task.{Task}
use Rattle.pool.specs.declared.seat.Task.TheVariants as task

abbrev pub turn_act : Work → Act
turn_act work.Prune = Prune
turn_act (work.Cut t) = Cut t
turn_act work.Flip = Flip

abbrev pub act_of : Task → Act
act_of (task.Fill w) = Fill w
act_of task.Clear = Clear
act_of (task.Turn w) = turn_act w
act_of task.Signs = FillSigns

-- the tree of seat i, in a pool of n cells
unfoldable pub work_s : Task → ℕ → ℕ → St → St
work_s (task.Fill w) n i s = wipe_m 3 (2 ∷ 2 ∷ []) n w true i s
work_s task.Clear n i s = wipe_m 3 (2 ∷ 2 ∷ []) n far false i s
work_s (task.Turn w) n i s = turn_m 3 (2 ∷ 2 ∷ []) w n i s
work_s task.Signs n i s = fill_signs_m 3 (2 ∷ 2 ∷ []) n i s

-- the mark, where it was m: a flip keeps it
abbrev pub turn_mark : Work → ℕ → ℕ
turn_mark work.Prune m = 0
turn_mark (work.Cut t) m = 0
turn_mark work.Flip m = m

abbrev pub mark_of : Task → ℕ → ℕ
mark_of (task.Fill w) m = 0
mark_of task.Clear m = 0
mark_of (task.Turn w) m = turn_mark w m
mark_of task.Signs m = 1

abbrev pub change_s : Task → ℕ → ℕ → St → St
change_s t n i s = mark_s i (mark_of t (s.mark i)) (work_s t n i s)
