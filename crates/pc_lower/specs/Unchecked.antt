-- Graphs whose assertions ask nothing.
use Rattle.std.specs.Prelude.{Bool, true, false, [], map}
use Rattle.pc_flow.specs.declared.what.What.{What}
use Rattle.pc_flow.specs.declared.what.What.TheVariants.{Enter, Test, Set, Check}
use Rattle.pc_flow.specs.Arc.{Arc, marked}
use Rattle.pc_flow.specs.Flow.{Flow}

-- an assertion loses its rows
abbrev pub unasserted : What → What
unasserted (Enter params) = Enter params
unasserted (Test rows) = Test rows
unasserted (Set x form lo hi) = Set x form lo hi
unasserted (Check rows) = Check []

abbrev pub unasserted_arc : Arc → Arc
unasserted_arc e = marked e.body e.from e.to (unasserted e.what)

-- the graph without the rows of its assertions
abbrev pub unchecked : Flow → Flow
unchecked g = record { params = g.params; variables = g.variables; points = g.points; edges = map unasserted_arc g.edges }

-- with the rows of the assertions, or without
abbrev pub seen : Bool → Flow → Flow
seen true g = g
seen false g = unchecked g

abbrev pub seen_arc : Bool → Arc → Arc
seen_arc true e = e
seen_arc false e = unasserted_arc e
