use Rattle.std.proofs.Common.{string_bytes, arith, inl, inr}
use Rattle.std.proofs.lemmas.Bool.Decides.{nat_tests}
use Rattle.pc_words.proofs.WordLemmas.{two_of, three_of, not_plain}
use Rattle.pc_words.proofs.words.command_of.Goals as goal
use Rattle.pc_words.proofs.words.command_of.Goals.{in_default-via-then-words-lt2, in_default-via-else-words-lt2+else-words-lt3+else-words-lt4}

pub returns-in-len2 : goal.returns-in-len2
returns-in-len2 c =
    let words = two_of string_bytes c.args.words.now c.verb-item.result c.second-item.result c.in-len2.len_at_least c.in-len2.len_below c.verb-item.is c.second-item.is in
    rw words (rw (c.as_str.ensures.value, c.as_str-in-len2.ensures.value) at c.of_two_words.ensures)

pub returns-in-len3 : goal.returns-in-len3
returns-in-len3 c =
    let words = three_of string_bytes c.args.words.now c.verb-item-then-words-lt4.result c.source-item.result c.third-item.result c.in-len3.len_at_least c.in-len3.len_below c.verb-item-then-words-lt4.is c.source-item.is c.third-item.is in
    rw words (rw (c.as_str-in-len3.ensures.value, c.as_str-in-len3-2.ensures.value, c.as_str-in-len3-3.ensures.value) at c.of_three_words.ensures)

pub returns-in_default : goal.returns-in_default
returns-in_default c =
    elim c.in_default.branch [
      | in_default-via-then-words-lt2 w ↦ not_plain string_bytes c.args.words.now (inl (grind (arith, nat_tests)))
      | in_default-via-else-words-lt2+else-words-lt3+else-words-lt4 w ↦ not_plain string_bytes c.args.words.now (inr (grind (arith, nat_tests)))
    ]
