use Rattle.std.proofs.Common.{◌≡◌, ◌∙◌, ◌++◌, ap}
use Rattle.pc_certificate.specs.Certificate.{Certificate}
use Rattle.pc_lines.specs.Texts.{line_text, sizes_line}
use Rattle.pc_lines.proofs.Shown.{grown, added_by}
use Rattle.pc_cert.specs.CertificateTexts.{version_line, sizes_in}
use Rattle.pc_cert.proofs.showing.push_start.Goals as goal

pub returns : goal.returns
returns c =
    let old = c.args.text.now in
    let mid = c.push_all.new.self in
    let new = c.push_sizes.new.text in
    let claim : Certificate = record { points = c.c.inside.points; edges = c.c.inside.edges; variables = c.c.inside.variables; alternatives = c.c.inside.alternatives } in
    added_by c.push_sizes.result (new ≡ mid ++ line_text (sizes_line (sizes_in claim))) (new ≡ old ++ (line_text version_line ++ line_text (sizes_line (sizes_in c.args.c.now))))
    (λ h. grown old mid new (line_text version_line) (line_text (sizes_line (sizes_in claim))) c.in_ok-push_all.ensures.added h
    ∙ ap (λ (x : Certificate). old ++ (line_text version_line ++ line_text (sizes_line (sizes_in x)))) c.c.view_is)
    c.push_sizes.ensures
