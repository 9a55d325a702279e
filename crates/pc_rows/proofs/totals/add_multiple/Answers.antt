use Rattle.std.proofs.Common.{◌<◌, ◌≤◌, length, set, get_or, arith, refl, ◌∙◌, length-set}
use Rattle.std.proofs.lemmas.List.{get_or_default}
use Rattle.pc_rows.proofs.Summing.{products_go_on, products_fit_on, products_fit_back, products_done, none_left_fit}
use Rattle.pc_rows.proofs.totals.add_multiple.Goals as goal

pub loop-v-preserved : goal.loop-v-preserved
loop-v-preserved c =
    let sums = c.loop-v.sums in
    let cs = c.args.r.now.coefficients in
    let v = c.loop-v.v in
    let wide = c.constant-row.ensures.row.wide in
    let long = c.loop-v.invariant.long in
    let in_sums : v < length sums = omega arith in
    let in_cs : v < length cs = omega arith in
    let x = get_or sums v c.index-sums-v.result in
    let at_sums = get_or_default sums v c.index-sums-v.result x in_sums in
    let y = c.in_ok-sums.field-0 in
    let fits = c.in_ok-sums.ensures in
    record {
      long = length-set sums v y ∙ long;
      rest = products_go_on sums cs (set sums v y) v c.args.k x c.coefficient-c.result y in_sums in_cs at_sums c.coefficient-c.ensures refl fits.1 _ c.loop-v.invariant.rest;
      fits = λ h. products_fit_on sums cs (set sums v y) v c.args.k x c.coefficient-c.result y in_sums in_cs at_sums c.coefficient-c.ensures refl fits.1 (c.loop-v.invariant.fits h);
      back = λ h. c.loop-v.invariant.back (products_fit_back sums cs (set sums v y) v c.args.k x c.coefficient-c.result y in_sums in_cs at_sums c.coefficient-c.ensures refl fits.1 fits.0 h);
    }

pub returns : goal.returns
returns c =
    let sums = c.loop-v.sums in
    let cs = c.args.r.now.coefficients in
    let v = c.loop-v.v in
    let wide = c.constant-row.ensures.row.wide in
    let long = c.loop-v.invariant.long in
    let all : length sums ≤ v = omega arith in
    let none : length cs ≤ v = omega arith in
    (c.loop-v.invariant.back (none_left_fit sums cs c.args.k v all none), products_done sums cs _ c.args.k v all c.loop-v.invariant.rest none)
