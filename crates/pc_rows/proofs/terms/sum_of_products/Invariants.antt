use Rattle.std.proofs.Common.{◌≡◌, drop}
use Rattle.pc_rows.specs.Readers.{sum_over, SumsOverFit}
use Rattle.pc_rows.proofs.Reading.{pairs}
use Rattle.pc_rows.proofs.terms.sum_of_products.Given as goal

abbrev pub invariant-loop-t : goal.invariant-loop-t
invariant-loop-t l = record {
  rest : sum_over l.sum (pairs (drop l.t-index l.terms)) l.xs ≡ sum_over l.fn.start (pairs l.terms) l.xs;
  fits : SumsOverFit l.fn.start (pairs l.terms) l.xs → SumsOverFit l.sum (pairs (drop l.t-index l.terms)) l.xs;
  back : SumsOverFit l.sum (pairs (drop l.t-index l.terms)) l.xs → SumsOverFit l.fn.start (pairs l.terms) l.xs;
}
