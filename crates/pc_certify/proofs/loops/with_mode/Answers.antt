use Rattle.pc_lower.specs.TameCourse.{IsTameFor}
use Rattle.pc_certify.specs.Candidates.{of_mode, IsPromised}
use Rattle.pc_certify.proofs.Choosing.{found_complete, takes_is}
use Rattle.pc_certify.proofs.Promises.{promised_is_proved}
use Rattle.pc_certify.proofs.loops.with_mode.Goals as goal

pub with_found-requires-clause-complete : goal.with_found-requires-clause-complete
with_found-requires-clause-complete c =
    let g = c.args.g.now in
    let m = c.args.m in
    found_complete g (of_mode g m) (IsTameFor g m) c.in_ok-found.found c.in_ok-found.ensures

pub returns-clause-takes : goal.returns-clause-takes
returns-clause-takes c =
    let g = c.args.g.now in
    let m = c.args.m in
    takes_is g (of_mode g m) (IsTameFor g m) (IsPromised g m) (λ p. p.tame) (promised_is_proved g m) c.in_ok-found.found c.in_ok-found.ensures c.args.kept c.with_found.result c.with_found.ensures.takes
