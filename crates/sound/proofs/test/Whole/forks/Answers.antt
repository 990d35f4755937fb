use Rattle.sound.proofs.Checks.{fork_used, fork_free}
use Rattle.sound.proofs.test.Whole.forks.Goals as goal

pub returns-then-u-ge-USED : goal.returns-then-u-ge-USED
returns-then-u-ge-USED c = fork_used _ _ _ _ _ _ c.requires c.tag-u.ensures c.if-u-ge-USED.true

pub returns-else-u-ge-USED : goal.returns-else-u-ge-USED
returns-else-u-ge-USED c = fork_free _ _ _ _ _ _ c.requires c.tag-u.ensures c.if-u-ge-USED.false
