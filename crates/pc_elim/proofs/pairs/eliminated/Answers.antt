use Rattle.std.proofs.lemmas.Result.{err_from_is_err_and}
use Rattle.pc_elim.specs.Elimination.{flat, kept_of}
use Rattle.pc_elim.specs.Fits.{EliminationFits}
use Rattle.pc_elim.proofs.Pairing.{count_fails, keep_fails, made_most}
use Rattle.pc_elim.proofs.pairs.eliminated.Goals as goal

pub returns-in_err-count-clause-value : goal.returns-in_err-count-clause-value
returns-in_err-count-clause-value c =
    let p = err_from_is_err_and c.from_residual-in_err-count.result c.from_residual-in_err-count.ensures.1 in
    rw (p.1, p.2) (count_fails c.args.k c.args.rows.now _ c.in_err-count.ensures)

pub returns-in_err-keep-clause-value : goal.returns-in_err-keep-clause-value
returns-in_err-keep-clause-value c =
    let p = err_from_is_err_and c.from_residual-in_err-keep.result c.from_residual-in_err-keep.ensures.1 in
    rw (p.1, p.2) (keep_fails (flat (kept_of c.args.k) c.args.rows.now) c.in_ok-out.out c.keep.new.out (EliminationFits c.args.k c.args.rows.now) _ c.in_err-keep.ensures)

pub returns-clause-value : goal.returns-clause-value
returns-clause-value c = (made_most c.args.k c.in_ok-count.count c.args.rows.now c.in_ok-out.out c.keep.new.out c.combine_each.new.out c.in_ok-count.ensures c.in_ok-out.ensures.1 c.in_ok-keep.ensures.1 c.in_ok-combine_each.ensures).0

pub returns-clause-most : goal.returns-clause-most
returns-clause-most c = (made_most c.args.k c.in_ok-count.count c.args.rows.now c.in_ok-out.out c.keep.new.out c.combine_each.new.out c.in_ok-count.ensures c.in_ok-out.ensures.1 c.in_ok-keep.ensures.1 c.in_ok-combine_each.ensures).1
