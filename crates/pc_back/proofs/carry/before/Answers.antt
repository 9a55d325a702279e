use Rattle.std.proofs.Common.{[], subst, Err}
use Rattle.pc_rows.specs.Joins.{joined}
use Rattle.pc_lower.specs.declared.fault.CandidateFault.{CandidateFault}
use Rattle.pc_lower.specs.declared.fault.CandidateFault.TheVariants.{Past, Full}
use Rattle.pc_lower.specs.Need.{demanded}
use Rattle.pc_lower.specs.Operations.{Answers, edge_operations}
use Rattle.pc_lower.proofs.Answering.{no_fault}
use Rattle.pc_back.proofs.carry.before.Goals as goal

pub returns-in-Err-Past : goal.returns-in-Err-Past
returns-in-Err-Past c =
    let w = c.args.edge.now.what in
    let rows = c.args.rows.now in
    no_fault Past (edge_operations w [] rows)
    (subst (λ (f : CandidateFault). Answers (edge_operations w [] rows) (joined [] (demanded w rows)) (Err f)) c.in-Err-Past.field-0-is c.in-Err-Past.ensures)

pub returns-in-Err-Full : goal.returns-in-Err-Full
returns-in-Err-Full c =
    let w = c.args.edge.now.what in
    let rows = c.args.rows.now in
    no_fault Full (edge_operations w [] rows)
    (subst (λ (f : CandidateFault). Answers (edge_operations w [] rows) (joined [] (demanded w rows)) (Err f)) c.in-Err-Full.field-0-is c.in-Err-Full.ensures)
