use Rattle.std.proofs.Common.{sym, ap, not}
use Rattle.pc_rows.specs.Linear.{Linear}
use Rattle.pc_replay.specs.Shape.{is_over}
use Rattle.pc_replay.proofs.Turns.{found_here, found_later}
use Rattle.pc_replay.proofs.shape.first_beyond.Goals as goal

pub returns-then-not-is_over : goal.returns-then-not-is_over
returns-then-not-is_over c =
    found_here c.args.rows.now c.loop-i.i c.at.result.now c.at.ensures (λ (r : Linear). not (is_over c.args.n r)) _ (ap not (sym c.if-not-is_over.ensures)) c.loop-i.invariant

pub loop-i-preserved : goal.loop-i-preserved
loop-i-preserved c =
    found_later c.args.rows.now c.loop-i.i c.at.result.now c.at.ensures (λ (r : Linear). not (is_over c.args.n r)) _ (ap not (sym c.if-not-is_over.ensures)) c.loop-i.invariant
