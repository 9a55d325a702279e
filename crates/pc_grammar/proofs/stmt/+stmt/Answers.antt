use Rattle.std.proofs.Common.{◌≡◌, ◌∙◌, ap, sym, arith, true}
use Rattle.pc_grammar.specs.Combinators.{starts}
use Rattle.pc_grammar.specs.Terminals.{among}
use Rattle.pc_grammar.specs.Statements.{begins_stmt}
use Rattle.pc_grammar.proofs.Turns.{stmts_got, stmts_from}
use Rattle.pc_grammar.proofs.stmt.+stmt.Goals as goal

pub stmts-items-preserved : goal.stmts-items-preserved
stmts-items-preserved t c =
    let sees : starts (among begins_stmt) c.items.cursor.rest.now ≡ true = sym c.begins_stmt.ensures ∙ c.items-test.true in (
      c.items.invariant.0 ∙ stmts_got c.args.depth c.items.found c.items.cursor.rest.now _ c.in_ok-next.next sees c.in_ok-next.ensures.reads
          ∙ ap (λ z. stmts_from c.args.depth z c.stmt.new.cursor.rest.now) (sym c.in_ok-push.ensures.ok),
      omega arith,
    )
