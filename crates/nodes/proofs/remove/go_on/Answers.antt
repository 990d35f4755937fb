use Rattle.nodes.proofs.Removes.{go_branch, go_else}
use Rattle.nodes.proofs.remove.go_on.Goals as goal

pub returns-in_default : goal.returns-in_default
returns-in_default c = go_else _ _ c.in_default.not-Branch

pub returns : goal.returns
returns c = go_branch _ c.in-Branch.is c.then_some.ensures
