use Rattle.std.proofs.Common.{◌≡◌, Some, drop}
use Rattle.pc_rows.specs.Readers.{terms_of}
use Rattle.pc_box.specs.Forms.{plus_terms}
use Rattle.pc_box.proofs.form.end_of_form.Given as goal

abbrev pub invariant-loop-k : goal.invariant-loop-k
invariant-loop-k l = plus_terms l.side l.intervals l.sum (drop l.k (terms_of l.form)) ≡ plus_terms l.side l.intervals (Some l.form.constant) (terms_of l.form)
