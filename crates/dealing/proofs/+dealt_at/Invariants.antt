use Rattle.dealing.proofs.+dealt_at.Given as goal

abbrev pub decreases-dealt_at : goal.decreases-dealt_at
decreases-dealt_at l = l.k
