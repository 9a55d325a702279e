use Rattle.std.proofs.Common.{rules, FitsSigned, to_z-of_z}
use Rattle.std.specs.Int.{w128}
use Rattle.pc_app.proofs.TextLemmas.{three_pieces}
use Rattle.pc_app.proofs.refusal.push_fault.Goals as goal

pub returns-in_ok-push_also-in-EmptyInterval : goal.returns-in_ok-push_also-in-EmptyInterval
returns-in_ok-push_also-in-EmptyInterval c =
    let low : FitsSigned w128 c.in-EmptyInterval.low = search rules in
    let high : FitsSigned w128 c.in-EmptyInterval.high = search rules in
    let pieces = three_pieces _ c.args.text.now _ _ _ _ _ _ c.in_ok-push_at-in-EmptyInterval.ensures c.in_ok-push_also-in-EmptyInterval.ensures c.push_also-in-EmptyInterval-2.ensures in
    rw c.in-EmptyInterval.is (simp to_z-of_z at pieces)

pub returns-in-TooManyEdges : goal.returns-in-TooManyEdges
returns-in-TooManyEdges c = rw c.in-TooManyEdges.is c.push_at-in-TooManyEdges.ensures
