use Rattle.std.proofs.Common.{◌∙◌, sym, FitsSigned, rules}
use Rattle.std.specs.Int.{w128}
use Rattle.std.proofs.lemmas.Int.{to_z-of_z}
use Rattle.pc_text.proofs.NumeralWords.{word_number, word_other, word_past}
use Rattle.pc_text.proofs.numerals.Word.of.Goals as goal

pub returns-in-Some-clause-value : goal.returns-in-Some-clause-value
returns-in-Some-clause-value c =
    let fits : FitsSigned w128 c.in-Some.number = search rules in
    simp to_z-of_z (word_number c.args.word.now c.in-Some.number c.in-Some.end c.in-Some.ensures.reads c.if-end-word.true)

pub returns-in-Some-2-clause-value : goal.returns-in-Some-2-clause-value
returns-in-Some-2-clause-value c =
    word_other c.args.word.now c.in-Some.number c.in-Some.end c.in-Some.ensures.reads c.if-end-word.false

pub returns-in-None-clause-value : goal.returns-in-None-clause-value
returns-in-None-clause-value c = word_past c.args.word.now (sym c.is_numeral.ensures ∙ c.if-is_numeral.true) c.in-None.ensures.reads
