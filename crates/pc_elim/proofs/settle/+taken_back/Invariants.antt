use Rattle.pc_elim.proofs.settle.+taken_back.Given as goal

abbrev pub decreases-taken_back : goal.decreases-taken_back
decreases-taken_back l = l.k
