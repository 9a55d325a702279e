use Rattle.std.proofs.Common.{◌≡◌, ◌∙◌, ap, sym, arith, true}
use Rattle.pc_language.specs.declared.terminal.Terminal.TheVariants as terminal
use Rattle.pc_grammar.specs.Combinators.{Got, starts, both}
use Rattle.pc_grammar.specs.Terminals.{the, one}
use Rattle.pc_grammar.proofs.Turns.{names_got, names_from}
use Rattle.pc_grammar.proofs.program.names.Goals as goal

pub more-preserved : goal.more-preserved
more-preserved c =
    let item : both (one terminal.Comma) (one terminal.Name) c.more.cursor.rest.now ≡ Got (c.in_ok-take.field-0, c.in_ok-next.next) c.take-in-more-2.new.self.rest.now = rw (c.in_ok-take.ensures.reads, c.in_ok-next.ensures.reads) in
    let sees : starts (the terminal.Comma) c.more.cursor.rest.now ≡ true = sym c.sees.ensures ∙ c.more-test.true in (
      c.more.invariant.0 ∙ names_got c.more.found c.more.cursor.rest.now _ (c.in_ok-take.field-0, c.in_ok-next.next) sees item
          ∙ ap (λ z. names_from z c.take-in-more-2.new.self.rest.now) (sym c.in_ok-push-2.ensures.ok),
      omega arith,
    )
