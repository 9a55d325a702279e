use Rattle.std.proofs.Common.{◌≡◌, true, drop}
use Rattle.std.specs.List.{list_all}
use Rattle.pc_program.specs.Forms.{row_fits}
use Rattle.pc_graph.specs.Drawn.{with_tests}
use Rattle.pc_graph.specs.Ways.{apart}
use Rattle.pc_graph.proofs.draft.Draft.spread.Given as goal

-- what there is and the edges of the rows that are left are all edges
abbrev pub invariant-loop-i : goal.invariant-loop-i
invariant-loop-i l = record {
  so_far : with_tests l.p l.to (apart (drop l.i l.rows)) l.body l.self ≡ with_tests l.p l.to (apart l.rows) l.body l.initial.self;
  fit : list_all row_fits (drop l.i l.rows) ≡ true;
}
