use Rattle.std.proofs.Common.{◌≡◌, ◌∙◌, ap, sym, arith, true}
use Rattle.pc_language.specs.declared.terminal.Terminal.TheVariants as terminal
use Rattle.pc_grammar.specs.Combinators.{Got, starts, both}
use Rattle.pc_grammar.specs.Terminals.{the, one}
use Rattle.pc_grammar.specs.Expressions.{paren}
use Rattle.pc_grammar.specs.Statements.{compare}
use Rattle.pc_grammar.proofs.Turns.{compares_got, compares_from}
use Rattle.pc_grammar.proofs.compare.all.Goals as goal

pub compares-preserved : goal.compares-preserved
compares-preserved c =
    let item : both (one terminal.And) (compare (paren c.args.depth)) c.compares.cursor.rest.now ≡ Got (c.in_ok-take.field-0, c.in_ok-next.next) c.compare-in-compares.new.cursor.rest.now = rw (c.in_ok-take.ensures.reads, c.in_ok-next.ensures.reads) in
    let sees : starts (the terminal.And) c.compares.cursor.rest.now ≡ true = sym c.sees.ensures ∙ c.compares-test.true in (
      c.compares.invariant.0 ∙ compares_got c.args.depth c.compares.found c.compares.cursor.rest.now _ (c.in_ok-take.field-0, c.in_ok-next.next) sees item
          ∙ ap (λ z. compares_from (paren c.args.depth) z c.compare-in-compares.new.cursor.rest.now) (sym c.in_ok-push-2.ensures.ok),
      omega arith,
    )
