use Rattle.std.proofs.Common.{◌≡◌, Some, slice_get, rules}
use Rattle.pc_rows.specs.Readers.{terms_of}
use Rattle.pc_box.specs.Forms.{plus_term, plus_terms}
use Rattle.pc_box.proofs.Sums.{next_term}
use Rattle.pc_box.proofs.form.end_of_form.Goals as goal

pub loop-k-preserved : goal.loop-k-preserved
loop-k-preserved c =
    let side = c.args.side in
    let bs = c.args.intervals.now in
    let ts = terms_of c.args.form.now in
    let k = c.loop-k.k in
    let v = c.term-v.result.0 in
    let a = c.term-v.result.1 in
    let there : slice_get ts k ≡ Some (v, a) = search rules in
    let one : c.plus_term-sum.result ≡ plus_term side bs c.loop-k.sum (v, a) = search rules in
    next_term side bs ts k (v, a) c.loop-k.sum c.plus_term-sum.result (plus_terms side bs (Some c.args.form.now.constant) ts) there one c.loop-k.invariant
