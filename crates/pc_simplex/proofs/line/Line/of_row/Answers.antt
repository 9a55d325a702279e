use Rattle.std.proofs.Common.{◌≡◌, ◌∙◌, ◌+◌, ℤ, List, arith, ap, sym, subst, length, set, drop}
use Rattle.std.proofs.lemmas.Int.{ints}
use Rattle.std.proofs.lemmas.List.{length-set, drop-set-lt}
use Rattle.pc_rows.specs.declared.row.TheConstants.{VARIABLES}
use Rattle.pc_rows.specs.Readers.{terms_of}
use Rattle.pc_simplex.specs.Values.{AreZero}
use Rattle.pc_simplex.proofs.TermLists.{with_terms, first_terms, next_term}
use Rattle.pc_simplex.proofs.Zeros.{zeros_are_zero, later}
use Rattle.pc_simplex.proofs.line.Line.of_row.Goals as goal

pub loop-k-init : goal.loop-k-init
loop-k-init c =
    record {
      long = ap length c.zeros-numbers.ensures;
      most = omega arith;
      zero = subst AreZero (sym c.zeros-numbers.ensures) (zeros_are_zero VARIABLES);
      rest = ap (λ (all : List ℤ). with_terms all (terms_of c.args.r.now)) c.zeros-numbers.ensures ∙ first_terms VARIABLES c.args.r.now c.constant.ensures.row.wide;
    }

pub loop-k-preserved : goal.loop-k-preserved
loop-k-preserved c =
    let all = c.loop-k.numbers in
    let t = c.term-v.result in
    let ts = terms_of c.args.r.now in
    let width = c.greater-width.result in
    let same : c.new.result ≡ t.1 = omega (arith, ints, c.new.ensures, c.term-v.ensures.range) in
    record {
      long = length-set all t.0 c.new.result ∙ c.loop-k.invariant.long;
      most = c.greater-width.ensures.least VARIABLES c.loop-k.invariant.most (omega (arith, c.term-v.ensures.variable));
      zero = subst AreZero (sym (drop-set-lt width all t.0 c.new.result (omega (arith, c.greater-width.ensures.right)))) (later c.loop-k.width width all c.greater-width.ensures.left c.loop-k.invariant.zero);
      rest = ap (λ (n : ℤ). with_terms (set all t.0 n) (drop (c.loop-k.k + 1) ts)) same ∙ next_term all c.args.r.now.coefficients ts c.loop-k.k t c.term-v.ensures.term c.loop-k.invariant.rest;
    }
