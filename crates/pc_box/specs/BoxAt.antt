-- The box at a point of a graph without loops.
use Rattle.std.specs.Prelude.{ℕ, zero, suc, ◌-◌, List, [], ◌∷◌, ◌++◌, None, length, slice_index_or}
use Rattle.pc_flow.specs.Arc.{Arc}
use Rattle.pc_flow.specs.Flow.{Flow}
use Rattle.pc_flow.specs.Incidence.{entering}
use Rattle.pc_box.specs.Boxes.{Box, join_of}
use Rattle.pc_box.specs.Forward.{after_of}
use Rattle.pc_box.specs.Views.{boundless}

-- a box, and its hull with what the edges make of the boxes of their sources, one after the other
abbrev pub hull_over : List Box → List Arc → Box → Box
hull_over boxes [] b = b
hull_over boxes (e ∷ edges) b = hull_over boxes edges (join_of b (after_of e.what (slice_index_or boxes e.from None)))

-- the boxes of the points up to number n: point 0 has no bounds, and any other the hull over the edges that enter it
abbrev pub boxes_to : Flow → ℕ → List Box
boxes_to g zero = boundless g.variables ∷ []
boxes_to g (suc n) = boxes_to g n ++ hull_over (boxes_to g n) (entering (suc n) g.edges) None ∷ []

abbrev pub boxes_of : Flow → List Box
boxes_of g = boxes_to g (length g.points - 1)

abbrev pub box_at : Flow → ℕ → Box
box_at g p = slice_index_or (boxes_of g) p None
