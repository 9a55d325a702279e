use Rattle.std.proofs.Common.{get_or, pos, arith, ◌<◌, length}
use Rattle.std.proofs.lemmas.List.{get_or_default}
use Rattle.std.proofs.lemmas.Result.{err_from_is_err_and}
use Rattle.pc_rows.proofs.Reading.{term_below}
use Rattle.pc_rows.proofs.Walking.{fits_back, fits_here, fits_on, fits_walk, goes_on, walked}
use Rattle.pc_rows.proofs.terms.sum_of_products.Goals as goal

pub listed : goal.listed
listed c = omega (arith, term_below c.args.terms.now c.loop-t.t-index c.t-item.result c.requires.rises c.loop-t-test.true c.t-item.is, c.told-xs)

pub bounds-xs-t : goal.bounds-xs-t
bounds-xs-t c = term_below c.args.terms.now c.loop-t.t-index c.t-item.result c.requires.rises c.loop-t-test.true c.t-item.is

pub returns-in_err-sum : goal.returns-in_err-sum
returns-in_err-sum c =
    let p = err_from_is_err_and c.from_residual.result c.from_residual.ensures.1 in
    let xs = c.args.xs.now in
    let t = c.t-item.result in
    let below : t.variable < length xs = omega (arith, term_below c.args.terms.now c.loop-t.t-index c.t-item.result c.requires.rises c.loop-t-test.true c.t-item.is, c.told-xs) in
    let read = get_or_default xs t.variable c.index-xs-t.result (pos 0) below in
    rw p.1 (λ h. c.in_err-sum.ensures (fits_here c.args.terms.now c.loop-t.t-index t (get_or xs t.variable c.index-xs-t.result) xs c.loop-t.sum c.loop-t.sum c.loop-t-test.true c.t-item.is read
    (c.loop-t.invariant.fits (fits_walk c.args.start c.args.terms.now xs c.requires.rises c.requires.range c.told-xs h))))

pub loop-t-preserved : goal.loop-t-preserved
loop-t-preserved c =
    let ts = c.args.terms.now in
    let xs = c.args.xs.now in
    let i = c.loop-t.t-index in
    let t = c.t-item.result in
    let x = get_or xs t.variable c.index-xs-t.result in
    let below : t.variable < length xs = omega (arith, term_below c.args.terms.now c.loop-t.t-index c.t-item.result c.requires.rises c.loop-t-test.true c.t-item.is, c.told-xs) in
    let read = get_or_default xs t.variable c.index-xs-t.result (pos 0) below in
    let n = c.in_ok-sum.ensures in
    record {
      rest = goes_on ts i t x xs c.loop-t.sum c.in_ok-sum.sum c.loop-t-test.true c.t-item.is read n.1 _ c.loop-t.invariant.rest;
      fits = λ h. fits_on ts i t x xs c.loop-t.sum c.in_ok-sum.sum c.loop-t-test.true c.t-item.is read n.1 (c.loop-t.invariant.fits h);
      back = λ h. c.loop-t.invariant.back (fits_back ts i t x xs c.loop-t.sum c.in_ok-sum.sum c.loop-t-test.true c.t-item.is read n.1 n.0 h);
    }

pub returns : goal.returns
returns c = walked c.args.start c.args.terms.now c.args.xs.now c.requires.rises c.requires.range c.told-xs c.loop-t.sum c.loop-t.t-index c.loop-t-test.false c.loop-t.invariant.rest c.loop-t.invariant.back
