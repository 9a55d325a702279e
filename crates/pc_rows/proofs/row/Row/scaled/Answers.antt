use Rattle.std.proofs.Common.{rules, FitsSigned, to_z-of_z}
use Rattle.std.specs.Int.{w128}
use Rattle.pc_rows.proofs.Multiples.{multiple_out}
use Rattle.pc_rows.proofs.row.Row.scaled.Goals as goal

pub returns-in-None : goal.returns-in-None
returns-in-None c =
    let fits : FitsSigned w128 c.args.k = search rules in
    multiple_out c.if_all_zero.result c.args.k c.args.self.now (simp to_z-of_z at c.in-None.ensures) c.if_all_zero.ensures
