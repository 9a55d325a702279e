use Rattle.std.proofs.lemmas.Result.{err_from_is_err_and}
use Rattle.pc_json.proofs.Whole.{version_err, sizes_err}
use Rattle.pc_json.proofs.reading.of_values.Goals as goal

pub returns-in_err-check_version : goal.returns-in_err-check_version
returns-in_err-check_version c =
    let p = err_from_is_err_and c.from_residual.result c.from_residual.ensures.1 in
    rw (p.1, p.2) (version_err c.args.head _ c.in_err-check_version.ensures)

pub returns-in_err-sizes : goal.returns-in_err-sizes
returns-in_err-sizes c =
    let p = err_from_is_err_and c.from_residual-in_err-sizes.result c.from_residual-in_err-sizes.ensures.1 in
    rw (p.1, p.2) (sizes_err c.args.head _ c.in_err-sizes.ensures)
