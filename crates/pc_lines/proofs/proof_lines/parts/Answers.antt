use Rattle.std.proofs.Common.{◌≡◌, ◌<◌, ◌+◌, ◌∙◌, ap, sym, arith, Ok, Err}
use Rattle.std.proofs.lemmas.Result.{err_from_is_err_and}
use Rattle.pc_lines.specs.LineReaders.{next_part, parts_from}
use Rattle.pc_rows.proofs.Rising.{above_more}
use Rattle.pc_lines.proofs.PartSteps.{IsNext, next_is, next_fault, above_next}
use Rattle.pc_lines.proofs.Told.{handed_on}
use Rattle.pc_lines.proofs.proof_lines.parts.Goals as goal

pub returns-in_err-part : goal.returns-in_err-part
returns-in_err-part c =
    let p = err_from_is_err_and c.from_residual.result c.from_residual.ensures.1 in
    let f = c.in_err-part.field-0.0 in
    handed_on _ c.from_residual.result _ (next_part c.args.premises c.args.number c.parts.least c.parts.words ≡ Err f) p.0 f p.1 p.2
    (λ h. sym c.parts.invariant.gives ∙ next_fault c.args.premises c.args.number c.parts.least c.parts.words c.parts.parts f h) c.in_err-part.ensures

pub overflow_add-least : goal.overflow_add-least
overflow_add-least c =
    let next : IsNext c.args.premises c.args.number c.parts.least c.parts.words c.in-Some.part c.next_part.new.words =
    next_is c.args.premises c.args.number c.parts.least c.parts.words c.next_part.new.words c.in-Some.part (c.in_ok-part.ensures ∙ ap (λ o. Ok (o, c.next_part.new.words)) c.in-Some.is) in
    let few : c.in-Some.part.index < c.args.premises = next.premise in
    omega arith

pub push-requires-clause-rising : goal.push-requires-clause-rising
push-requires-clause-rising c =
    let next : IsNext c.args.premises c.args.number c.parts.least c.parts.words c.in-Some.part c.next_part.new.words =
    next_is c.args.premises c.args.number c.parts.least c.parts.words c.next_part.new.words c.in-Some.part (c.in_ok-part.ensures ∙ ap (λ o. Ok (o, c.next_part.new.words)) c.in-Some.is) in
    above_more c.parts.least c.in-Some.part.index c.parts.parts next.risen c.parts.invariant.above

pub parts-smaller : goal.parts-smaller
parts-smaller c =
    let next : IsNext c.args.premises c.args.number c.parts.least c.parts.words c.in-Some.part c.next_part.new.words =
    next_is c.args.premises c.args.number c.parts.least c.parts.words c.next_part.new.words c.in-Some.part (c.in_ok-part.ensures ∙ ap (λ o. Ok (o, c.next_part.new.words)) c.in-Some.is) in
    next.shorter

pub parts-preserved : goal.parts-preserved
parts-preserved c =
    let next : IsNext c.args.premises c.args.number c.parts.least c.parts.words c.in-Some.part c.next_part.new.words =
    next_is c.args.premises c.args.number c.parts.least c.parts.words c.next_part.new.words c.in-Some.part (c.in_ok-part.ensures ∙ ap (λ o. Ok (o, c.next_part.new.words)) c.in-Some.is) in
    let few : c.in-Some.part.index < c.args.premises = next.premise in
    record {
      gives =
          ap (λ ps. parts_from c.args.premises c.args.number (c.in-Some.part.index + 1) ps c.next_part.new.words) c.in_ok-push.ensures.ok
          ∙ next.goes_on c.parts.parts
          ∙ c.parts.invariant.gives;
      above = above_next c.parts.least c.parts.parts c.push.new.self c.in-Some.part next.risen c.parts.invariant.above c.in_ok-push.ensures.ok;
      small = omega arith;
    }
