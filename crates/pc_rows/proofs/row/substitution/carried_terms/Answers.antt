use Rattle.std.proofs.Common.{◌∙◌, ap, ap₂, set}
use Rattle.pc_rows.specs.Terms.{dense}
use Rattle.pc_rows.proofs.TermSums.{carried_iff}
use Rattle.pc_rows.proofs.row.substitution.carried_terms.Goals as goal

pub returns : goal.returns
returns c = carried_iff c.plus_multiple.result c.args.c (dense c.as_slice-2.result.now) (dense c.args.of_row.now.items) c.args.x (dense c.args.of_form.now)
    (ap dense c.as_slice-2.ensures ∙ c.put-rest.ensures.value ∙ ap₂ (λ ts z. set (dense ts) c.args.x z) c.as_slice.ensures c.new.ensures) c.plus_multiple.ensures
