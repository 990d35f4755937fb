use Rattle.nodes.proofs.view.View.+find.Given as goal

abbrev pub decreases-find : goal.decreases-find
decreases-find l = l.level
