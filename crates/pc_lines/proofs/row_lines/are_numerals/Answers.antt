use Rattle.std.proofs.Common.{◌∙◌, sym}
use Rattle.pc_lines.proofs.LineSteps.{numerals_more}
use Rattle.pc_lines.proofs.row_lines.are_numerals.Goals as goal

pub words-preserved : goal.words-preserved
words-preserved c =
    numerals_more c.args.count c.words.counter c.in-Some.word.now c.words.words c.next.new.self c.words-test.true c.in-Some.ensures (sym c.is_numeral.ensures ∙ c.if-is_numeral.true)
    ∙ c.words.invariant
