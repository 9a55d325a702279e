-- The certificate of the alternatives of a graph.
use Rattle.std.proofs.Common.{List, length, arith}
use Rattle.std.specs.List.{AllByRecursion}
use Rattle.pc_flow.specs.Flow.{Flow}
use Rattle.pc_flow.specs.Shape.{IsGraph}
use Rattle.pc_flow.proofs.Lists.{each_more}
use Rattle.pc_certificate.specs.declared.certificate.Annotated.{Annotated}
use Rattle.pc_certificate.specs.Certificate.{IsAnnotation, IsShowable}
use Rattle.pc_replay.specs.Accepts.{Accepts}
use Rattle.pc_certify.specs.Claims.{claim, IsProved}
use Rattle.pc_certify.specs.Inferring.{IsAlternative, IsKept, AreAlternatives}
use Rattle.pc_certify.specs.Proving.{EdgeDone}
use Rattle.pc_certify.proofs.Claimed.{proved_is_accepted, few_proofs}
use Rattle.pc_certify.proofs.Pairs.{pairs_long}

module _ (g : Flow) (alternatives : List Annotated) (kept : IsGraph g) (h : AreAlternatives g alternatives) where
  each_proved : AllByRecursion (IsProved g) alternatives
  each_proved = each_more (IsKept g) (IsProved g) (λ a k. k.proved) alternatives h.each

  pub are_alternatives : AllByRecursion (IsAlternative g) alternatives
  are_alternatives = each_more (IsKept g) (IsAlternative g) (λ a k. k.alternative) alternatives h.each

  pub is_accepted : Accepts g (claim g alternatives)
  is_accepted = proved_is_accepted g alternatives each_proved

  annotation : (a : Annotated) → IsProved g a → IsAnnotation (length g.points) (length g.edges) g.variables a
  annotation a proved = record { rows = proved.long; proofs = pairs_long (EdgeDone a.rows) g.edges a.proofs proved.edges; over = proved.over; few = few_proofs g a proved }

  pub is_showable : IsShowable (claim g alternatives)
  is_showable =
      let points = kept.points in
      let edges = kept.edges in
      let few = h.few in
      record {
        points = omega arith;
        edges = omega arith;
        variables = kept.variables;
        few = omega arith;
        each = each_more (IsProved g) (IsAnnotation (length g.points) (length g.edges) g.variables) annotation alternatives each_proved;
      }
