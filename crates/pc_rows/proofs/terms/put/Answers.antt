use Rattle.std.proofs.Common.{◌≤◌, arith, length, ◌∙◌}
use Rattle.std.proofs.lemmas.Result.{IfOk-at_ok}
use Rattle.pc_rows.specs.declared.row.TheConstants.{VARIABLES}
use Rattle.pc_rows.proofs.Putting.{low_fits, put_is, put_rises, room_for_rest}
use Rattle.pc_rows.proofs.terms.put.Goals as goal

pub unwrap-all-requires : goal.unwrap-all-requires
unwrap-all-requires c =
    let few = low_fits c.args.terms.now _ c.args.v c.requires.rises c.requires.variable c.split.ensures.low in
    c.from_slice.ensures.succeeds (omega (arith, few))

pub push_term-requires : goal.push_term-requires
push_term-requires c =
    let few = low_fits c.args.terms.now _ c.args.v c.requires.rises c.requires.variable c.split.ensures.low in
    let fits : length c.split.result.0.now ≤ VARIABLES = omega (arith, few) in
    let items = IfOk-at_ok _ c.unwrap-all.ensures c.from_slice.ensures.ok in
    let room = IfOk-at_ok _ c.unwrap-all.ensures (c.from_slice.ensures.inline fits) in
    rw (items, room) few

pub unwrap-requires : goal.unwrap-requires
unwrap-requires c =
    let few = low_fits c.args.terms.now _ c.args.v c.requires.rises c.requires.variable c.split.ensures.low in
    let fits : length c.split.result.0.now ≤ VARIABLES = omega (arith, few) in
    let items = IfOk-at_ok _ c.unwrap-all.ensures c.from_slice.ensures.ok in
    let room = IfOk-at_ok _ c.unwrap-all.ensures (c.from_slice.ensures.inline fits) in
    c.extend_from_slice.ensures.succeeds
    (room_for_rest c.args.terms.now _ _ _ c.args.v c.args.c c.requires.rises c.requires.variable c.requires.range c.split.ensures.low c.split.ensures.high c.past.ensures
    _ _ items room c.push_term.ensures.items c.push_term.ensures.capacity)

pub returns-clause-terms : goal.returns-clause-terms
returns-clause-terms c =
    let few = low_fits c.args.terms.now _ c.args.v c.requires.rises c.requires.variable c.split.ensures.low in
    let fits : length c.split.result.0.now ≤ VARIABLES = omega (arith, few) in
    let items = IfOk-at_ok _ c.unwrap-all.ensures c.from_slice.ensures.ok in
    let room = IfOk-at_ok _ c.unwrap-all.ensures (c.from_slice.ensures.inline fits) in
    record {
      rises = put_rises c.args.terms.now _ _ _ c.args.v c.args.c c.requires.rises c.requires.variable c.requires.range c.split.ensures.low c.split.ensures.high c.past.ensures
          _ _ items room c.push_term.ensures.items c.push_term.ensures.capacity c.extend_from_slice.new.self (IfOk-at_ok _ c.unwrap.ensures c.extend_from_slice.ensures.ok);
      room = c.extend_from_slice.ensures.inline
          (room_for_rest c.args.terms.now _ _ _ c.args.v c.args.c c.requires.rises c.requires.variable c.requires.range c.split.ensures.low c.split.ensures.high c.past.ensures
          _ _ items room c.push_term.ensures.items c.push_term.ensures.capacity) (c.push_term.ensures.capacity ∙ room);
    }

pub returns-clause-value : goal.returns-clause-value
returns-clause-value c =
    let few = low_fits c.args.terms.now _ c.args.v c.requires.rises c.requires.variable c.split.ensures.low in
    let fits : length c.split.result.0.now ≤ VARIABLES = omega (arith, few) in
    let items = IfOk-at_ok _ c.unwrap-all.ensures c.from_slice.ensures.ok in
    let room = IfOk-at_ok _ c.unwrap-all.ensures (c.from_slice.ensures.inline fits) in
    put_is c.args.terms.now _ _ _ c.args.v c.args.c c.requires.rises c.requires.variable c.requires.range c.split.ensures.low c.split.ensures.high c.past.ensures
    _ _ items room c.push_term.ensures.items c.push_term.ensures.capacity c.extend_from_slice.new.self (IfOk-at_ok _ c.unwrap.ensures c.extend_from_slice.ensures.ok)
