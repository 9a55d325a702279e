use Rattle.std.proofs.Common.{◌∙◌, ◌++◌, ap, arith, ℤ}
use Rattle.pc_rows.specs.Parts.{part_of}
use Rattle.pc_simplex.proofs.Counting.{parts_step, above_step}
use Rattle.pc_simplex.proofs.found.proof.Goals as goal

pub loop-i-preserved : goal.loop-i-preserved
loop-i-preserved c = record {
  above = above_step c.loop-i.i c.multiplier_of.result c.loop-i.parts c.add.new.self c.in_ok-add.ensures.ok c.loop-i.invariant.above;
  rest = parts_step c.args.t.now c.line-line.result.now c.args.premises c.loop-i.i c.loop-i.parts c.add.new.self _ (omega arith) (c.in_ok-add.ensures.ok ∙ ap (λ (m : ℤ). c.loop-i.parts ++ part_of c.loop-i.i m) c.multiplier_of.ensures) c.loop-i.invariant.rest;
}
