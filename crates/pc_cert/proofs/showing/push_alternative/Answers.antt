use Rattle.std.proofs.Common.{◌≡◌, ◌∙◌, ◌++◌, ap, subst}
use Rattle.std.specs.Prelude.{OnOk}
use Rattle.pc_lines.specs.Texts.{numbered, lines_text}
use Rattle.pc_cert.specs.CertificateTexts.{point_lines, edge_lines, alternative_lines}
use Rattle.pc_lines.proofs.Shown.{added_by}
use Rattle.pc_cert.proofs.TwoParts.{two_parts}
use Rattle.pc_cert.proofs.showing.push_alternative.Goals as goal

pub returns-clause-added : goal.returns-clause-added
returns-clause-added c =
    let a = c.args.a.now in
    let v = c.args.variables in
    let rows = c.in_ok-push_points.ensures.added ∙ ap (λ xs. c.push_all.new.self ++ lines_text (numbered (point_lines v) 0 xs)) c.as_slice.ensures in
    let proofs = subst (λ xs. OnOk c.push_edges.result (c.push_edges.new.text ≡ c.push_points.new.text ++ lines_text (numbered edge_lines 0 xs))) c.as_slice-2.ensures c.push_edges.ensures.added in
    added_by c.push_edges.result (c.push_edges.new.text ≡ c.push_points.new.text ++ lines_text (numbered edge_lines 0 a.proofs)) (c.push_edges.new.text ≡ c.args.text.now ++ lines_text (alternative_lines v a))
    (λ h. two_parts c.args.text.now c.push_all.new.self c.push_points.new.text c.push_edges.new.text (numbered (point_lines v) 0 a.rows) (numbered edge_lines 0 a.proofs) c.in_ok-push_all.ensures.added rows h)
    proofs
