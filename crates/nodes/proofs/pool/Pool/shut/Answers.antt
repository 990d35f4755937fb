use Rattle.nodes.proofs.Removes.{shut_out, shut_full, shut_bare}
use Rattle.nodes.proofs.pool.Pool.shut.Goals as goal
use Rattle.nodes.proofs.pool.Pool.shut.Goals.{else-c-self-via-then-c-self+else-bare, else-c-self-via-else-c-self}

pub returns-then-bare-clause-turned : goal.returns-then-bare-clause-turned
returns-then-bare-clause-turned c = shut_bare _ _ _ c.args.level _ c.word-c.ensures c.if-c-self.true c.bare.ensures c.if-bare.true c.release.ensures.turned

pub returns-else-c-self-clause-turned : goal.returns-else-c-self-clause-turned
returns-else-c-self-clause-turned c =
    elim c.else-c-self.branch [
      | else-c-self-via-then-c-self+else-bare w ↦ shut_full _ _ _ c.args.level _ c.word-c.ensures w.if-c-self.true w.bare.ensures w.if-bare.false
      | else-c-self-via-else-c-self w ↦ shut_out _ _ _ c.args.level _ c.word-c.ensures w.if-c-self.false
    ]
