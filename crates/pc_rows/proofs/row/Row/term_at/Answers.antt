use Rattle.std.proofs.Common.{◌<◌, ◌≢◌, pos, subst, arith, length, ap, sym, ◌∙◌, Some}
use Rattle.pc_rows.specs.declared.row.TheConstants.{VARIABLES}
use Rattle.pc_rows.specs.declared.terms.Term.{Term}
use Rattle.pc_rows.proofs.TermLists.{few_slice}
use Rattle.pc_rows.proofs.Reading.{terms_count, term_is, term_keeps}
use Rattle.pc_rows.proofs.row.Row.term_at.Goals as goal

pub bounds-as_slice-k : goal.bounds-as_slice-k
bounds-as_slice-k c = omega (arith, c.requires, terms_count _ _ _ c.self.view_is c.self.invariant, ap length c.as_slice.ensures)

pub offset_bounds-as_slice-k : goal.offset_bounds-as_slice-k
offset_bounds-as_slice-k c =
    let few = few_slice _ c.as_slice.result.now c.self.invariant.terms c.as_slice.ensures in
    omega (arith, few, c.requires, terms_count _ _ _ c.self.view_is c.self.invariant, ap length c.as_slice.ensures)

pub returns-clause-term : goal.returns-clause-term
returns-clause-term c =
    let within : c.args.k < length c.as_slice.result.now = omega (arith, c.requires, terms_count _ _ _ c.self.view_is c.self.invariant, ap length c.as_slice.ensures) in
    term_is _ _ _ c.self.view_is c.self.invariant c.as_slice.result.now c.args.k c.index-as_slice-k.result c.as_slice.ensures within
    ∙ ap (λ (t : Term). Some (t.variable, t.coefficient)) (sym c.index-as_slice-k.is)

pub returns-clause-variable : goal.returns-clause-variable
returns-clause-variable c =
    let within : c.args.k < length c.as_slice.result.now = omega (arith, c.requires, terms_count _ _ _ c.self.view_is c.self.invariant, ap length c.as_slice.ensures) in
    subst (λ (t : Term). t.variable < VARIABLES) (sym c.index-as_slice-k.is)
    (term_keeps _ _ _ c.self.view_is c.self.invariant c.as_slice.result.now c.args.k c.index-as_slice-k.result c.as_slice.ensures within).0

pub returns-clause-not_zero : goal.returns-clause-not_zero
returns-clause-not_zero c =
    let within : c.args.k < length c.as_slice.result.now = omega (arith, c.requires, terms_count _ _ _ c.self.view_is c.self.invariant, ap length c.as_slice.ensures) in
    subst (λ (t : Term). t.coefficient ≢ pos 0) (sym c.index-as_slice-k.is)
    (term_keeps _ _ _ c.self.view_is c.self.invariant c.as_slice.result.now c.args.k c.index-as_slice-k.result c.as_slice.ensures within).1
