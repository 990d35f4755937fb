use Rattle.signs.proofs.SignAt.{sides_low}
use Rattle.signs.proofs.fill.UpperCarry.side.Goals as goal

pub returns-else-self-eq2 : goal.returns-else-self-eq2
returns-else-self-eq2 c = sides_low _ c.args.self.stands.known c.if-self-eq2.false
