use Rattle.std.proofs.Common.{◌≡◌, ◌∙◌, ap, sym, arith, true}
use Rattle.pc_language.specs.declared.terminal.Terminal.TheVariants as terminal
use Rattle.pc_grammar.specs.Expressions as spec
use Rattle.pc_grammar.specs.Terminals.{among, the}
use Rattle.pc_grammar.specs.Combinators.{Got, starts}
use Rattle.pc_grammar.proofs.Turns.{products_got, products_from, sums_got, sums_from}
use Rattle.pc_grammar.proofs.expr.+expr.Goals as goal

pub addend-factors-preserved : goal.addend-factors-preserved
addend-factors-preserved t c =
    let item : spec.star_factor (spec.paren c.args.depth) c.factors.cursor.rest.now ≡ Got (c.in_ok-star.star, c.in_ok-x.x) c.factor-in-factors.new.cursor.rest.now = rw (c.in_ok-star.ensures.reads, c.in_ok-x.ensures.reads) in
    let sees : starts (the terminal.Star) c.factors.cursor.rest.now ≡ true = sym c.sees.ensures ∙ c.factors-test.true in (
      c.factors.invariant.0 ∙ products_got c.args.depth c.factors.product c.factors.cursor.rest.now _ (c.in_ok-star.star, c.in_ok-x.x) sees item
          ∙ ap (λ z. products_from (spec.paren c.args.depth) (spec.product z (c.in_ok-star.star, c.in_ok-x.x)) c.factor-in-factors.new.cursor.rest.now) (sym c.in_ok-new.ensures)
          ∙ ap (λ z. products_from (spec.paren c.args.depth) (spec.product c.in_ok-new.field-0 (c.in_ok-star.star, z)) c.factor-in-factors.new.cursor.rest.now) (sym c.in_ok-new-2.ensures),
      omega arith,
    )

pub expr-addends-preserved : goal.expr-addends-preserved
expr-addends-preserved t c =
    let item : spec.sign_addend (spec.paren c.args.depth) c.addends.cursor.rest.now ≡ Got (c.in_ok-sign.sign, c.in_ok-x.x) c.addend-in-addends.new.cursor.rest.now = rw (c.in_ok-sign.ensures.reads, c.in_ok-x.ensures.reads) in
    let sees : starts (among spec.signs) c.addends.cursor.rest.now ≡ true = sym c.sees_sign.ensures ∙ c.addends-test.true in (
      c.addends.invariant.0 ∙ sums_got c.args.depth c.addends.sum c.addends.cursor.rest.now _ (c.in_ok-sign.sign, c.in_ok-x.x) sees item
          ∙ ap (λ z. sums_from (spec.paren c.args.depth) z c.addend-in-addends.new.cursor.rest.now) (sym c.in_ok-sum-2.ensures),
      omega arith,
    )
