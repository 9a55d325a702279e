use Rattle.std.proofs.lemmas.Result.{err_from_is_err_and}
use Rattle.pc_json.proofs.Parts.{rest_err, rest_rising, rest_goes_on, rest_odd}
use Rattle.pc_json.proofs.proofs.parts_in.Goals as goal

pub returns-in_err-part : goal.returns-in_err-part
returns-in_err-part c =
    let p = err_from_is_err_and c.from_residual.result c.from_residual.ensures.1 in
    rw (p.1, p.2) (rest_err c.args.list.now c.parts.parts c.parts.least c.parts.rest.now c.index-item.result c.multiplier-item.result c.parts.invariant c.in-len2-up.len_at_least c.index-item.is c.multiplier-item.is _ c.in_err-part.ensures)

pub push-requires-clause-rising : goal.push-requires-clause-rising
push-requires-clause-rising c =
    rest_rising c.args.list.now c.parts.parts c.parts.least c.parts.rest.now c.index-item.result c.multiplier-item.result c.parts.invariant c.in-len2-up.len_at_least c.index-item.is c.multiplier-item.is c.in_ok-part.part c.in_ok-part.ensures

pub parts-preserved : goal.parts-preserved
parts-preserved c =
    rest_goes_on c.args.list.now c.parts.parts c.parts.least c.parts.rest.now c.index-item.result c.multiplier-item.result c.parts.invariant c.in-len2-up.len_at_least c.index-item.is c.multiplier-item.is c.in_ok-part.part c.push.new.self c.in_ok-part.ensures c.in_ok-push.ensures.ok

pub returns-else-is_empty : goal.returns-else-is_empty
returns-else-is_empty c =
    rest_odd c.args.list.now c.parts.parts c.parts.least c.parts.rest.now c.parts.invariant c.in_default.len_below c.if-is_empty.ensures
