use Rattle.std.proofs.Common.{arith}
use Rattle.std.proofs.lemmas.Result.{err_from_is_err_and}
use Rattle.pc_elim.proofs.Pairing.{place_within, pairs_done, pairs_on, pairs_fit_on, pair_fails}
use Rattle.pc_elim.proofs.pairs.pairs.Goals as goal

pub bounds-all-i : goal.bounds-all-i
bounds-all-i c = place_within c.args.k c.args.p.now c.args.all.now c.args.below.now c.requires.places c.loop-i.i-index (omega arith)

pub offset_bounds-all-i : goal.offset_bounds-all-i
offset_bounds-all-i c = let within = place_within c.args.k c.args.p.now c.args.all.now c.args.below.now c.requires.places c.loop-i.i-index (omega arith) in omega (arith, c.requires.most)

pub loop-i-preserved : goal.loop-i-preserved
loop-i-preserved c = record {
  rest = pairs_on c.args.k c.args.p.now c.args.all.now c.args.below.now c.requires.places c.loop-i.out c.args.out.now c.pair.new.out c.loop-i.i-index c.index-all-i.result (omega arith) c.index-all-i.is c.loop-i.invariant.rest c.in_ok-pair.ensures.1;
  fits = pairs_fit_on c.args.k c.args.p.now c.args.all.now c.args.below.now c.requires.places c.loop-i.i-index c.index-all-i.result (omega arith) c.index-all-i.is c.loop-i.invariant.fits c.in_ok-pair.ensures.0;
}

pub returns : goal.returns
returns c = pairs_done c.args.k c.args.p.now c.args.all.now c.args.below.now c.requires.places c.loop-i.out c.args.out.now c.loop-i.i-index (omega arith) c.loop-i.invariant.fits c.loop-i.invariant.rest

pub returns-in_err-pair : goal.returns-in_err-pair
returns-in_err-pair c =
    let p = err_from_is_err_and c.from_residual.result c.from_residual.ensures.1 in
    rw (p.1, p.2) (pair_fails c.args.k c.args.p.now c.args.all.now c.args.below.now c.requires.places c.loop-i.out c.args.out.now c.pair.new.out c.pair.new.out c.loop-i.i-index c.index-all-i.result _ (omega arith) c.index-all-i.is c.in_err-pair.ensures)
