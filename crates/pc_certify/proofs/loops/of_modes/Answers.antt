use Rattle.std.proofs.Common.{List, subst}
use Rattle.pc_lower.specs.declared.mode.Mode.TheVariants.{Hint}
use Rattle.pc_certificate.specs.declared.certificate.Annotated.{Annotated}
use Rattle.pc_certify.specs.Inferring.{Takes}
use Rattle.pc_certify.proofs.Keeping.{modes_taken}
use Rattle.pc_certify.proofs.loops.of_modes.Goals as goal

pub returns-clause-takes : goal.returns-clause-takes
returns-clause-takes c =
    let g = c.args.g.now in
    let hint = c.in_ok-hint.hint in
    modes_taken g hint c.in_ok-plain.plain c.in_ok-tilt1.tilt1 c.in_ok-tilt2.tilt2 c.with_mode-2.result
    (subst (λ (z : List Annotated). Takes g Hint z hint) c.new.ensures c.in_ok-hint.ensures.takes)
    c.in_ok-plain.ensures.takes c.in_ok-tilt1.ensures.takes c.in_ok-tilt2.ensures.takes c.with_mode-2.ensures.takes
