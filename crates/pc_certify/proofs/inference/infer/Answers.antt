use Rattle.std.proofs.Common.{◌≡◌, ◌≤◌, [], length, sym, subst}
use Rattle.std.specs.List.{AllByRecursion}
use Rattle.pc_flow.specs.Shape.{NoHeads}
use Rattle.pc_lower.specs.declared.mode.Mode.{Mode}
use Rattle.pc_certificate.specs.Certificate.{Certificate, IsShowable, condition_of}
use Rattle.pc_replay.specs.Accepts.{Accepts}
use Rattle.pc_replay.proofs.Sound.{accepted_is_safe}
use Rattle.pc_certify.specs.Candidates.{Candidate, IsTried}
use Rattle.pc_certify.specs.Inferring.{IsExact, Covers, HasNone, IsAlternative}
use Rattle.pc_certify.specs.Selecting.{AreApart}
use Rattle.pc_certify.proofs.Certificates.{is_accepted, is_showable, are_alternatives}
use Rattle.pc_certify.proofs.inference.infer.Goals as goal

pub returns-clause-accepted : goal.returns-clause-accepted
returns-clause-accepted c =
    let g = c.args.g.now in
    subst (Accepts g) (sym c.claim.ensures.value) (is_accepted g c.in_ok-alternatives.field-0 c.claim.ensures.kept c.in_ok-alternatives.ensures)

pub returns-clause-safe : goal.returns-clause-safe
returns-clause-safe c =
    let g = c.args.g.now in
    let accepted = subst (Accepts g) (sym c.claim.ensures.value) (is_accepted g c.in_ok-alternatives.field-0 c.claim.ensures.kept c.in_ok-alternatives.ensures) in
    accepted_is_safe g c.claim.result c.claim.ensures.kept accepted

pub returns-clause-showable : goal.returns-clause-showable
returns-clause-showable c =
    subst IsShowable (sym c.claim.ensures.value) (is_showable c.args.g.now c.in_ok-alternatives.field-0 c.claim.ensures.kept c.in_ok-alternatives.ensures)

pub returns-clause-rows : goal.returns-clause-rows
returns-clause-rows c =
    let g = c.args.g.now in
    subst (λ (z : Certificate). AllByRecursion (IsAlternative g) z.alternatives) (sym c.claim.ensures.value)
    (are_alternatives g c.in_ok-alternatives.field-0 c.claim.ensures.kept c.in_ok-alternatives.ensures)

pub returns-clause-apart : goal.returns-clause-apart
returns-clause-apart c = subst (λ (z : Certificate). AreApart z.alternatives) (sym c.claim.ensures.value) c.in_ok-alternatives.ensures.apart

pub returns-clause-one : goal.returns-clause-one
returns-clause-one c = subst (λ (z : Certificate). NoHeads c.args.g.now.points → length z.alternatives ≤ 1) (sym c.claim.ensures.value) c.in_ok-alternatives.ensures.one

pub returns-clause-none : goal.returns-clause-none
returns-clause-none c =
    let g = c.args.g.now in
    subst (λ (z : Certificate). z.alternatives ≡ [] → (k : Candidate) → IsTried g k → HasNone g k) (sym c.claim.ensures.value) c.in_ok-alternatives.ensures.none

pub returns-clause-exact : goal.returns-clause-exact
returns-clause-exact c =
    let g = c.args.g.now in
    subst (λ (z : Certificate). NoHeads g.points → IsExact g z) (sym c.claim.ensures.value) c.in_ok-alternatives.ensures.exact

pub returns-clause-covers : goal.returns-clause-covers
returns-clause-covers c =
    let g = c.args.g.now in
    subst (λ (z : Certificate). (m : Mode) → Covers g m (condition_of z)) (sym c.claim.ensures.value) c.in_ok-alternatives.ensures.covers
