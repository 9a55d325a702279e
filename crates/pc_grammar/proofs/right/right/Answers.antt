use Rattle.std.proofs.Common.{◌≡◌, ◌∙◌, ap, sym, arith, true}
use Rattle.pc_grammar.specs.Combinators.{Got, starts}
use Rattle.pc_grammar.specs.Terminals.{among}
use Rattle.pc_grammar.specs.Expressions.{signs, paren}
use Rattle.pc_grammar.proofs.Turns.{joined_got, joined_from}
use Rattle.pc_grammar.proofs.right.right.Goals as goal

pub parts-preserved : goal.parts-preserved
parts-preserved c =
    let sees : starts (among signs) c.parts.cursor.rest.now ≡ true = sym c.sees_sign.ensures ∙ c.parts-test.true in (
      c.parts.invariant.0 ∙ joined_got c.args.depth c.parts.sum c.in-More.x c.in-More.sign c.parts.cursor.rest.now _ sees (c.in_ok-sign.ensures.reads ∙ ap (λ z. Got z c.next_part.new.cursor.rest.now) c.in-More.is)
          ∙ ap (λ z. joined_from (paren c.args.depth) z c.next_part.new.cursor.rest.now) (sym c.in_ok-sum-in-More.ensures),
      omega arith,
    )
