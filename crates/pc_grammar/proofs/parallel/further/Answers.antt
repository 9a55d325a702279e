use Rattle.std.proofs.Common.{◌≡◌, ◌∙◌, ap, sym, arith, true}
use Rattle.pc_language.specs.declared.terminal.Terminal.TheVariants as terminal
use Rattle.pc_grammar.specs.Combinators.{starts}
use Rattle.pc_grammar.specs.Terminals.{the}
use Rattle.pc_grammar.proofs.Turns.{blocks_got, blocks_from}
use Rattle.pc_grammar.proofs.parallel.further.Goals as goal

pub others-preserved : goal.others-preserved
others-preserved c =
    let sees : starts (the terminal.OpenBrace) c.others.cursor.rest.now ≡ true = sym c.sees.ensures ∙ c.others-test.true in (
      c.others.invariant.0 ∙ blocks_got c.args.depth c.others.found c.others.cursor.rest.now _ c.in_ok-next.next sees c.in_ok-next.ensures.reads
          ∙ ap (λ z. blocks_from c.args.depth z c.block.new.cursor.rest.now) (sym c.in_ok-push.ensures.ok),
      omega arith,
    )
