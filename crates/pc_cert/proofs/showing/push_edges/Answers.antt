use Rattle.std.proofs.Common.{sym, ap, ◌∙◌, ◌++◌, subst}
use Rattle.std.specs.List.{AllByRecursion}
use Rattle.pc_rows.specs.Evidence.{IsProof}
use Rattle.pc_lines.specs.Texts.{lines_text}
use Rattle.pc_cert.specs.CertificateTexts.{edge_lines}
use Rattle.pc_lines.proofs.Shown.{numbered_step, all_more}
use Rattle.pc_cert.proofs.showing.push_edges.Goals as goal

pub edges-preserved : goal.edges-preserved
edges-preserved c =
    let edges = c.args.edges.now in
    let proofs = c.index-edges-e.result in
    let slice = c.as_slice.ensures in
    record {
      kept = all_more (AllByRecursion IsProof) edges c.edges.e proofs c.edges-test.true (sym c.index-edges-e.is) c.edges.invariant.kept (subst (AllByRecursion IsProof) slice c.in_ok-push_edge.ensures.proofs);
      text =
          numbered_step edge_lines edges c.edges.e proofs c.args.text.now c.edges.text c.push_edge.new.text c.edges-test.true (sym c.index-edges-e.is) c.edges.invariant.text
          (c.in_ok-push_edge.ensures.added ∙ ap (λ ps. c.edges.text ++ lines_text (edge_lines c.edges.e ps)) slice);
    }
