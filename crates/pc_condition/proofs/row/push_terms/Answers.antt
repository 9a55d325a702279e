use Rattle.std.proofs.Common.{◌<◌, length, get_or, sym, ◌∙◌, pos}
use Rattle.std.proofs.lemmas.Bool.{not-true, not-false}
use Rattle.std.proofs.lemmas.Option.{get_or_from_slice_get}
use Rattle.pc_rows.specs.Linear.{is_zero}
use Rattle.pc_condition.proofs.Growing.{terms_start, terms_skip, terms_add, named as is_named}
use Rattle.pc_condition.proofs.row.push_terms.Goals as goal
use Rattle.pc_condition.proofs.row.push_terms.Goals.{then-has_term+in_ok-push_term, else-has_term}

pub loop-v-init : goal.loop-v-init
loop-v-init c = terms_start c.args.names.now.names c.args.r.now.coefficients c.args.text.now

pub loop-v-preserved : goal.loop-v-preserved
loop-v-preserved c =
    let names = c.args.names.now.names in
    let cs = c.args.r.now.coefficients in
    let v = c.loop-v.v in
    let wide = c.has_term.ensures.wide in
    let within = c.loop-v-test.true in
    elim c.if-has_term.branch [
      | then-has_term+in_ok-push_term w ↦
          let some = not-true (is_zero (get_or cs v (pos 0))) (sym c.has_term.ensures.value ∙ w.if-has_term.true) in
          let named : v < length names = is_named (length names) c.args.r.now v c.requires some in
          rw (w.text-is, w.is_first-is)
          (terms_add names cs v c.loop-v.is_first c.args.text.now c.loop-v.text c.loop-v.invariant wide within w.push_term.new.text w.at.result.now some named
          (get_or_from_slice_get names v w.at.result.now _ w.at.ensures) w.in_ok-push_term.ensures)
      | else-has_term w ↦
          let none = not-false (is_zero (get_or cs v (pos 0))) (sym c.has_term.ensures.value ∙ w.if-has_term.false) in
          rw (w.text-is, w.is_first-is)
          (terms_skip names cs v c.loop-v.is_first c.args.text.now c.loop-v.text c.loop-v.invariant wide within none)
    ]
