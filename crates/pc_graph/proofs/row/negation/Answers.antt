use Rattle.pc_rows.specs.Linear.{is_in_range, negation}
use Rattle.std.proofs.lemmas.Bool.{and_parts}
use Rattle.pc_rows.proofs.Ranges.{from_test}
use Rattle.pc_graph.proofs.row.negation.Goals as goal

pub unreachable-requires : goal.unreachable-requires
unreachable-requires c =
    let r = c.args.r.now in
    c.in-Err.ensures (from_test (negation r) (and_parts (is_in_range r) (is_in_range (negation r)) c.requires).1)
