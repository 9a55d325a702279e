use Rattle.std.proofs.Common.{◌≤◌, sym, subst, length, List, Err, arith}
use Rattle.std.specs.List.{AllByRecursion as Each}
use Rattle.pc_rows.specs.declared.row.TheConstants.{VARIABLES}
use Rattle.pc_rows.specs.Linear.{Linear}
use Rattle.pc_lower.specs.Annotation.{AreOver}
use Rattle.pc_lower.specs.Need.{need}
use Rattle.pc_lower.specs.declared.fault.CandidateFault.{CandidateFault}
use Rattle.pc_lower.specs.declared.fault.CandidateFault.TheVariants as fault
use Rattle.pc_lower.specs.Operations.{Fits, Answers, operations}
use Rattle.pc_lower.proofs.Annotations.{none_over}
use Rattle.pc_lower.proofs.Answering.{no_fault}
use Rattle.pc_breach.proofs.Settling.{tame_settled, settled_not_past}
use Rattle.pc_breach.proofs.breaking.breach.Goals as goal

pub complete-requires-clause-over : goal.complete-requires-clause-over
complete-requires-clause-over c =
    let g = c.args.g.now in
    subst (AreOver g.variables) (sym c.in_ok-none.ensures) (none_over g.variables g.points)

pub breach_by-requires-clause-values : goal.breach_by-requires-clause-values
breach_by-requires-clause-values c =
    let parameters = c.points-points.ensures.kept.parameters in
    let variables = c.points-points.ensures.kept.variables in
    omega (arith, c.requires.values)

pub returns-in-Ok-clause-tame : goal.returns-in-Ok-clause-tame
returns-in-Ok-clause-tame c = λ tame within.
    let g = c.args.g.now in
    let kept = c.points-points.ensures.kept in
    let parameters = kept.parameters in
    let variables = kept.variables in
    let few : length c.args.entry.now ≤ VARIABLES = omega (arith, c.requires.values) in
    settled_not_past g c.args.entry.now c.breach_by.result c.breach_by.ensures (tame_settled g c.args.entry.now kept c.requires.straight.heads few tame within)

pub returns-in-Err-Past-clause-answer : goal.returns-in-Err-Past-clause-answer
returns-in-Err-Past-clause-answer c = λ settled.
    let g = c.args.g.now in
    let none = c.in_ok-none.none in
    let first = subst (λ (f : CandidateFault). Answers (operations g none) (need g none) (Err f)) c.in-Err-Past.field-0-is c.in-Err-Past.ensures.need in
    no_fault fault.Past (operations g none) first (subst (λ (z : List (List Linear)). Each Fits (operations g z)) (sym c.in_ok-none.ensures) settled.need)

pub returns-in-Err-Full-clause-answer : goal.returns-in-Err-Full-clause-answer
returns-in-Err-Full-clause-answer c = λ settled.
    let g = c.args.g.now in
    let none = c.in_ok-none.none in
    let first = subst (λ (f : CandidateFault). Answers (operations g none) (need g none) (Err f)) c.in-Err-Full.field-0-is c.in-Err-Full.ensures.need in
    no_fault fault.Full (operations g none) first (subst (λ (z : List (List Linear)). Each Fits (operations g z)) (sym c.in_ok-none.ensures) settled.need)
