use Rattle.std.proofs.Common.{◌≡◌, ◌<◌, ◌∙◌, arith, ap, length}
use Rattle.pc_certificate.specs.Certificate.{Certificate}
use Rattle.pc_cert.proofs.Saying.{said}
use Rattle.pc_cert.proofs.condition.show_condition.Goals as goal

pub returns-then-len-gt0 : goal.returns-then-len-gt0
returns-then-len-gt0 c =
    let alternatives : c.c.inside.alternatives ≡ c.args.c.now.alternatives = ap (λ (z : Certificate). z.alternatives) c.c.view_is in
    let some : 0 < length c.args.c.now.alternatives = omega (arith, ap length alternatives, c.len.ensures, c.if-len-gt0.true) in
    rw (said c.args.names.now.names c.args.c.now.alternatives some) (rw (c.as_slice.ensures ∙ alternatives) at c.lines.ensures)
