use Rattle.std.proofs.Common.{◌≡◌, ◌∙◌, ap, sym, arith, true}
use Rattle.pc_language.specs.declared.terminal.Terminal.TheVariants as terminal
use Rattle.pc_grammar.specs.Combinators.{starts}
use Rattle.pc_grammar.specs.Terminals.{the}
use Rattle.pc_grammar.proofs.Turns.{locals_got, locals_from}
use Rattle.pc_grammar.proofs.program.locals.Goals as goal

pub lines-preserved : goal.lines-preserved
lines-preserved c =
    let sees : starts (the terminal.Var) c.lines.cursor.rest.now ≡ true = sym c.sees.ensures ∙ c.lines-test.true in (
      c.lines.invariant.0 ∙ locals_got c.lines.found c.lines.cursor.rest.now _ c.in_ok-line.line sees c.in_ok-line.ensures.reads
          ∙ ap (λ z. locals_from z c.var_line.new.cursor.rest.now) (sym c.in_ok-append.ensures),
      omega arith,
    )
