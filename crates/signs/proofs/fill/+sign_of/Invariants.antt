use Rattle.signs.proofs.fill.+sign_of.Given as goal

abbrev pub decreases-sign_of : goal.decreases-sign_of
decreases-sign_of l = l.level
