use Rattle.std.proofs.Common.{◌≡◌, ◌<◌, ◌++◌, Some, length, slice_get, arith, subst, refl, ap, rules}
use Rattle.std.proofs.lemmas.Option.{slice_get_read}
use Rattle.pc_facts.specs.Lines.{point_line}
use Rattle.pc_facts.proofs.Telling.{lines_next}
use Rattle.pc_facts.proofs.facts.all_lines.Goals as goal

pub loop-p-preserved : goal.loop-p-preserved
loop-p-preserved g c =
    let d = g.D.Forward in
    let flow = c.args.g.now in
    let names = c.args.names.now.names in
    let values = c.args.values.now in
    let all = c.as_slice.result.now in
    let same : all ≡ values = c.as_slice.ensures in
    let p = c.loop-p.p in
    let v = c.index-as_slice-p.result in
    let long = ap length same in
    let below : p < length all = omega (arith, c.requires, c.points-p-end.ensures.value) in
    let at : slice_get values p ≡ Some v = subst (λ (z : _). slice_get z p ≡ Some v) same (slice_get_read all (length all) p v refl below c.index-as_slice-p.is) in
    let new : c.push_line.new.text ≡ c.loop-p.text ++ point_line names flow.points p c.in_ok-rows.rows = search rules in
    lines_next d values flow names p c.loop-p.text c.push_line.new.text v c.in_ok-rows.rows at c.in_ok-rows.ensures new c.loop-p.invariant
