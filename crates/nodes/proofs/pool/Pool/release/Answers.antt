use Rattle.floats.specs.Value.{far_with}
use Rattle.nodes.specs.Layout.{st}
use Rattle.nodes.specs.Pool.{state}
use Rattle.nodes.proofs.States.{booked_of}
use Rattle.nodes.proofs.Changes.{release_by, release_out, release_full}
use Rattle.nodes.proofs.pool.Pool.release.Goals as goal
use Rattle.nodes.proofs.pool.Pool.release.Goals.{else-c-self-via-then-c-self+else-count-self, else-c-self-via-else-c-self}

pub give-requires : goal.give-requires
unfolding st state
give-requires c = (booked_of c.args.self.now.sized, rw c.count.ensures at c.if-count-self.true, c.if-c-self.true)

pub returns-then-count-self-clause-turned : goal.returns-then-count-self-clause-turned
unfolding far_with state
returns-then-count-self-clause-turned c = release_by _ _ _ (state c.args.self.now) c.word-c.ensures c.count.ensures c.if-c-self.true c.if-count-self.true c.far_word.ensures
    (c.give.ensures _ _) c.set_slot.ensures.turned

pub returns-else-c-self-clause-turned : goal.returns-else-c-self-clause-turned
returns-else-c-self-clause-turned c =
    elim c.else-c-self.branch [
      | else-c-self-via-then-c-self+else-count-self w ↦ release_full _ _ _ _ c.word-c.ensures w.if-c-self.true w.count.ensures w.if-count-self.false
      | else-c-self-via-else-c-self w ↦ release_out _ _ _ _ c.word-c.ensures w.if-c-self.false
    ]
