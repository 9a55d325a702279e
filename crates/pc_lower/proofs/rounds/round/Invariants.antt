use Rattle.pc_lower.proofs.Rounding.{Turns}
use Rattle.pc_lower.proofs.rounds.round.Given as goal

abbrev pub invariant-loop-h : goal.invariant-loop-h
invariant-loop-h l = Turns l.g l.m l.initial.rows l.h l.high l.rows

abbrev pub decreases-loop-h : goal.decreases-loop-h
decreases-loop-h l = l.h
