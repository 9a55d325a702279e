use Rattle.std.proofs.Common.{ap, sym, ◌∙◌}
use Rattle.pc_text.specs.Words.{count_of}
use Rattle.pc_words.proofs.LoopLemmas.{told, telling, told_once}
use Rattle.pc_words.proofs.loops.loops_of.Goals as goal

pub returns-in-Some : goal.returns-in-Some
returns-in-Some c =
    let read = ap count_of (sym c.as_bytes.ensures.value) ∙ sym c.count_of.ensures ∙ c.in-Some.is in
    let fits = c.in_range.ensures.0 c.if-in_range.true in
    (fits, telling c.args.word.now c.in-Some.loops fits read)

pub returns-in_default : goal.returns-in_default
returns-in_default c = λ n h e.
    let read = ap count_of (sym c.as_bytes.ensures.value) ∙ sym c.count_of.ensures ∙ c.in-Some.is in
    let fits = c.in_range.ensures.1 (told_once c.args.word.now c.in-Some.loops n read h e) in
    absurd (cc)

pub returns-in_default-2 : goal.returns-in_default-2
returns-in_default-2 c = λ n h e.
    let none = ap count_of (sym c.as_bytes.ensures.value) ∙ sym c.count_of.ensures ∙ c.in_default.is in
    let some = told c.args.word.now n h e in
    absurd (cc)
