use Rattle.std.proofs.lemmas.Result.{IfOk-at_ok}
use Rattle.pc_rows.proofs.TermLists.{few_slice}
use Rattle.pc_rows.proofs.terms.copied.Goals as goal

pub unwrap-requires : goal.unwrap-requires
unwrap-requires c = c.from_slice.ensures.succeeds (few_slice c.args.terms.now _ c.requires c.as_slice.ensures)

pub returns-clause-terms : goal.returns-clause-terms
returns-clause-terms c =
    let items = IfOk-at_ok _ c.unwrap.ensures c.from_slice.ensures.ok in
    let room = IfOk-at_ok _ c.unwrap.ensures (c.from_slice.ensures.inline (few_slice c.args.terms.now _ c.requires c.as_slice.ensures)) in
    record {
      rises = rw (items, c.as_slice.ensures) c.requires.rises;
      room = room;
    }
