use Rattle.std.proofs.Common.{◌∙◌}
use Rattle.std.proofs.lemmas.Result.{IfOk-at_ok}
use Rattle.pc_rows.proofs.Putting.{first_few, first_is, first_rises}
use Rattle.pc_rows.proofs.terms.first.Goals as goal

pub unwrap-requires : goal.unwrap-requires
unwrap-requires c = c.from_slice.ensures.succeeds (first_few c.args.terms.now _ c.args.v c.requires c.split.ensures.low)

pub returns-clause-terms : goal.returns-clause-terms
returns-clause-terms c =
    let items = IfOk-at_ok _ c.unwrap.ensures c.from_slice.ensures.ok in
    let room = IfOk-at_ok _ c.unwrap.ensures (c.from_slice.ensures.inline (first_few c.args.terms.now _ c.args.v c.requires c.split.ensures.low)) in
    record { rises = first_rises c.args.terms.now c.unwrap.result.items c.args.v c.requires (items ∙ c.split.ensures.low); room = room }

pub returns-clause-value : goal.returns-clause-value
returns-clause-value c =
    let items = IfOk-at_ok _ c.unwrap.ensures c.from_slice.ensures.ok in
    first_is c.args.terms.now c.unwrap.result.items c.args.v c.requires (items ∙ c.split.ensures.low)
