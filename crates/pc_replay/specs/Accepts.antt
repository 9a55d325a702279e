-- Certificates in which nothing is wrong.
use Rattle.std.specs.Prelude.{◌≡◌, List, length}
use Rattle.std.specs.List.{AllByRecursion, zip}
use Rattle.pc_rows.specs.Linear.{Linear, IsOver}
use Rattle.pc_rows.specs.Evidence.{Proof}
pub use Rattle.pc_rows.specs.Shows.{Proves}
use Rattle.pc_flow.specs.declared.what.What.{What}
use Rattle.pc_flow.specs.Arc.{Arc}
use Rattle.pc_flow.specs.Carry.{BackFits, back, owes}
use Rattle.pc_flow.specs.Flow.{Flow}
use Rattle.pc_certificate.specs.declared.certificate.Annotated.{Annotated}
use Rattle.pc_certificate.specs.Certificate.{Certificate}
use Rattle.pc_flow.specs.Carry.{asked}
use Rattle.pc_flow.specs.Annotation.{rows_at}
use Rattle.pc_flow.specs.Carry.{premises}
use Rattle.pc_replay.specs.Shape.{HasShape}

-- a row is carried back over the edge in range, and the proof shows what it becomes
pub record RowProved (w : What) (premises : List Linear) (r : Linear) (p : Proof) : Type 0 where
  pub fits : BackFits w r
  pub proves : Proves premises (back w r) p

-- an edge has a proof for each row that it owes, from the rows of its source and of its test
pub record EdgeProved (a : Annotated) (e : Arc) (proofs : List Proof) : Type 0 where
  pub count : length proofs ≡ length (owes e.what (rows_at a.rows e.to))
  pub each : AllByRecursion (λ x. RowProved e.what (premises e.what (rows_at a.rows e.from)) x.0 x.1) (zip (asked e.what (rows_at a.rows e.to)) proofs)

-- the rows of the entry are over the parameters, and each edge is proved
pub record AlternativeProved (g : Flow) (a : Annotated) : Type 0 where
  pub entry : AllByRecursion (IsOver g.params) (rows_at a.rows 0)
  pub edges : AllByRecursion (λ x. EdgeProved a x.0 x.1) (zip g.edges a.proofs)

-- a certificate is right for a graph
pub record Accepts (g : Flow) (c : Certificate) : Type 0 where
  pub shape : HasShape g c
  pub each : AllByRecursion (AlternativeProved g) c.alternatives
