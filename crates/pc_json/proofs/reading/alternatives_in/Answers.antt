use Rattle.std.proofs.Common.{arith}
use Rattle.std.proofs.lemmas.Result.{err_from_is_err_and}
use Rattle.pc_certificate.specs.declared.certificate.TheConstants.{ALTERNATIVES}
use Rattle.pc_json.specs.Values.{of_alternative}
use Rattle.pc_json.specs.Kept.{AtMost, IsAlternative}
use Rattle.pc_json.proofs.Arrays.{refused}
use Rattle.pc_json.proofs.Lefts.{taken_err}
use Rattle.pc_json.proofs.Whole.{front_taken}
use Rattle.pc_json.proofs.reading.alternatives_in.Goals as goal

pub returns-then-len-gt-ALTERNATIVES : goal.returns-then-len-gt-ALTERNATIVES
returns-then-len-gt-ALTERNATIVES c =
    let z = c.args.sizes in
    refused (IsAlternative z.points z.edges z.variables) (of_alternative z.variables) (AtMost ALTERNATIVES) c.args.list.items
    (λ le. absurd (omega (arith, le, c.len.ensures, c.if-len-gt-ALTERNATIVES.true)))

pub returns-in_err-alternative : goal.returns-in_err-alternative
returns-in_err-alternative c =
    let z = c.args.sizes in
    let p = err_from_is_err_and c.from_residual.result c.from_residual.ensures.1 in
    rw (p.1, p.2)
    (taken_err (IsAlternative z.points z.edges z.variables) (of_alternative z.variables) (AtMost ALTERNATIVES) c.args.list.items c.alternatives.list.items c.remove-item.new.self.items c.remove-item.result c.alternatives.all _
    (front_taken c.alternatives.list.items c.remove-item.new.self.items c.remove-item.result (omega (arith, c.remove-item.ensures.len, c.remove-item.new.self.ok, c.alternatives.list.ok)) c.remove-item.ensures.value c.remove-item.ensures.items) c.alternatives.invariant c.in_err-alternative.ensures)
