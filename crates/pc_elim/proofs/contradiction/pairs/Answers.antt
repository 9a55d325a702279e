use Rattle.std.proofs.Common.{arith, sym, ◌∙◌}
use Rattle.std.proofs.lemmas.Result.{err_from_is_err_and}
use Rattle.pc_elim.proofs.Pairing.{place_within}
use Rattle.pc_elim.proofs.Contradicting.{places_none, places_some, places_done, places_fail}
use Rattle.pc_elim.proofs.contradiction.pairs.Goals as goal

pub bounds-all-i : goal.bounds-all-i
bounds-all-i c = place_within c.args.k c.args.p.now c.args.all.now c.args.below.now c.requires.places c.loop-i.i-index (omega arith)

pub offset_bounds-all-i : goal.offset_bounds-all-i
offset_bounds-all-i c = let within = place_within c.args.k c.args.p.now c.args.all.now c.args.below.now c.requires.places c.loop-i.i-index (omega arith) in omega (arith, c.requires.most)

pub returns-in-Some : goal.returns-in-Some
returns-in-Some c = places_some c.args.k c.args.p.now c.args.all.now c.args.below.now c.requires.places c.loop-i.i-index c.index-all-i.result c.in-Some.multipliers (omega arith) c.index-all-i.is c.loop-i.invariant (sym c.in-Some.is ∙ c.in_ok-multipliers.ensures)

pub loop-i-preserved : goal.loop-i-preserved
loop-i-preserved c = places_none c.args.k c.args.p.now c.args.all.now c.args.below.now c.requires.places c.loop-i.i-index c.index-all-i.result (omega arith) c.index-all-i.is c.loop-i.invariant (sym c.in-None.is ∙ c.in_ok-multipliers.ensures)

pub returns : goal.returns
returns c = places_done c.args.k c.args.p.now c.args.all.now c.args.below.now c.requires.places c.loop-i.i-index (omega arith) c.loop-i.invariant

pub returns-in_err-multipliers : goal.returns-in_err-multipliers
returns-in_err-multipliers c =
    let p = err_from_is_err_and c.from_residual.result c.from_residual.ensures.1 in
    rw (p.1, p.2) (places_fail c.args.k c.args.p.now c.args.all.now c.args.below.now c.requires.places c.loop-i.i-index c.index-all-i.result _ (omega arith) c.index-all-i.is c.in_err-multipliers.ensures)
