use Rattle.std.proofs.Common.{◌≡◌, ◌∙◌, ◌<◌, ◌-◌, ap, length, get_or, arith, rules, subst}
use Rattle.std.proofs.lemmas.Option.{slice_get-get_or}
use Rattle.std.proofs.lemmas.Result.{IfOk-weaker}
use Rattle.pc_rows.specs.Linear.{State, MeetsAll, zero_from}
use Rattle.pc_rows.proofs.First.{zero_from_entry}
use Rattle.pc_flow.specs.Walk.{entered}
use Rattle.pc_domain.proofs.Entered.{met_entered}
use Rattle.pc_domain.proofs.Heads.{has_entry}
use Rattle.pc_domain.proofs.Options.{is_some}
use Rattle.pc_fixpoint.specs.Ebbing.{AreSafe}
use Rattle.pc_fixpoint.proofs.entry.entry_condition.Goals as goal

pub returns-clause-safe : goal.returns-clause-safe
returns-clause-safe g c =
    let d = g.B.Backward in
    let flow = c.args.g.now in
    let values = c.in_ok-values.values in
    let entry = c.index-as_slice-0.result in
    let some = has_entry flow c.params-params.ensures.kept in
    let long = c.in_ok-values.ensures.long in
    let within : 0 < length values = omega arith in
    let at : entry ≡ get_or values 0 entry = search rules in
    let got = slice_get-get_or values 0 entry within in
    let params : c.params-params.result ≡ flow.params = c.params-params.ensures.value in
    IfOk-weaker c.entry_rows.result (λ rows. (s : State) → zero_from c.params-params.result s ≡ s → MeetsAll s rows → d.has entry s) (AreSafe flow)
    (λ rows has s is met.
    let zeros : zero_from c.params-params.result (entered flow s) ≡ entered flow s = ap (λ n. zero_from n (entered flow s)) params ∙ zero_from_entry flow.params (flow.variables - flow.params) s is in
    let in' : d.has (get_or values 0 entry) (entered flow s) = subst (λ v. d.has v (entered flow s)) at (has (entered flow s) zeros ((met_entered flow rows s).0 met)) in
    c.in_ok-values.ensures.safe s is (is_some _ (λ v. d.has v (entered flow s)) (get_or values 0 entry) got in'))
    c.entry_rows.ensures.states
